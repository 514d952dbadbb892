use Rattle.std.proofs.Common.{◌≡◌, List, [], ◌∷◌, true, false, refl, arith}
use Rattle.rp_lexer.specs.declared.kind.TokenKind.{TokenKind}
use Rattle.rp_lexer.specs.declared.kind.Keyword.TheVariants as keyword
use Rattle.rp_grammar.specs.Reading.{starts}
use Rattle.rp_expressions.specs.NavigationGrammar.{key}
use Rattle.rp_syntax.specs.ClauseGrammar.{or_one, rows, rows_part}
use Rattle.rp_syntax.proofs.Following.{part_read, shorter_no_longer, starts_two}
use Rattle.rp_syntax.proofs.clause.rows_part.Goals as goal

abbrev kinds : List TokenKind
kinds = key keyword.One ∷ key keyword.All ∷ []

pub returns-then-begins : goal.returns-then-begins
unfolding rows_part rows
returns-then-begins c =
    let some : starts kinds c.args.tokens.now ≡ true = rw (starts_two (key keyword.One) (key keyword.All) c.args.tokens.now, ← c.if-begins.ensures) refl in
    record {
      exact = rw (part_read c.args.text.now or_one rows c.args.tokens.now (λ x. refl) some, ← c.if-begins.ensures) c.one_row.ensures.exact;
      stands = c.one_row.ensures.stands;
      no_longer = shorter_no_longer _ c.one_row.result c.one_row.ensures.shorter;
    }

pub returns-then-begins-2 : goal.returns-then-begins-2
unfolding rows_part rows
returns-then-begins-2 c =
    let some : starts kinds c.args.tokens.now ≡ true = rw (starts_two (key keyword.One) (key keyword.All) c.args.tokens.now, ← c.if-begins.ensures, ← c.if-begins-2.ensures) refl in
    record {
      exact = rw (part_read c.args.text.now or_one rows c.args.tokens.now (λ x. refl) some, ← c.if-begins.ensures) c.all_rows.ensures.exact;
      stands = c.all_rows.ensures.stands;
      no_longer = shorter_no_longer _ c.all_rows.result c.all_rows.ensures.shorter;
    }

pub returns : goal.returns
unfolding rows_part rows
returns c =
    let none : starts kinds c.args.tokens.now ≡ false = rw (starts_two (key keyword.One) (key keyword.All) c.args.tokens.now, ← c.if-begins.ensures, ← c.if-begins-2.ensures) refl in
    record {
      exact = rw none refl;
      stands = c.requires.stands;
      no_longer = omega arith;
    }
