use Rattle.std.proofs.Common.{◌≡◌, [], ◌∷◌, false, true, refl, sym, arith}
use Rattle.rp_lexer.specs.declared.kind.Keyword.TheVariants as keyword
use Rattle.rp_grammar.specs.Reading.{starts}
use Rattle.rp_grammar.proofs.FirstTokens.{starts_append, starts_left, starts_right}
use Rattle.rp_expressions.specs.NavigationGrammar.{key, scope}
use Rattle.rp_expressions.proofs.navigation.scope.Goals as goal

pub returns-then-begins : goal.returns-then-begins
unfolding scope
returns-then-begins c =
    let some : starts (key keyword.Running ∷ key keyword.Final ∷ []) c.args.tokens.now ≡ true =
    starts_left (key keyword.Running ∷ []) (key keyword.Final ∷ []) c.args.tokens.now (sym c.if-begins.ensures) in
    record {
      exact = rw (some, ← c.if-begins.ensures, c.in_ok-at.ensures.exact) refl;
      stands = c.in_ok-at.ensures.stands;
      no_longer = omega (arith, c.in_ok-at.ensures.shorter);
    }

pub returns-then-begins-2 : goal.returns-then-begins-2
unfolding scope
returns-then-begins-2 c =
    let some : starts (key keyword.Running ∷ key keyword.Final ∷ []) c.args.tokens.now ≡ true =
    starts_right (key keyword.Running ∷ []) (key keyword.Final ∷ []) c.args.tokens.now (sym c.if-begins-2.ensures) in
    record {
      exact = rw (some, ← c.if-begins.ensures, c.in_ok-at-2.ensures.exact) refl;
      stands = c.in_ok-at-2.ensures.stands;
      no_longer = omega (arith, c.in_ok-at-2.ensures.shorter);
    }

pub returns : goal.returns
unfolding scope
returns c =
    let none : starts (key keyword.Running ∷ key keyword.Final ∷ []) c.args.tokens.now ≡ false =
    rw (starts_append (key keyword.Running ∷ []) (key keyword.Final ∷ []) c.args.tokens.now, ← c.if-begins.ensures, ← c.if-begins-2.ensures) refl in
    record {
      exact = rw none refl;
      stands = c.requires.stands;
      no_longer = omega arith;
    }
