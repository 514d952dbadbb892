use Rattle.std.proofs.Common.{◌≡◌, [], ◌∷◌, true, refl, rules}
use Rattle.rp_lexer.specs.declared.kind.Keyword.TheVariants as keyword
use Rattle.rp_grammar.specs.Reading.{starts}
use Rattle.rp_grammar.specs.Grammar.{◌then◌, gives, listed, second}
use Rattle.rp_grammar.specs.Names.{name}
use Rattle.rp_expressions.specs.NavigationGrammar.{key}
use Rattle.rp_syntax.specs.ClauseGrammar.{or_none, partition_part, two_words}
use Rattle.rp_syntax.proofs.Following.{part_read, second_after, still_no_longer}
use Rattle.rp_syntax.proofs.clause.partition_part.Goals as goal

pub returns : goal.returns
unfolding partition_part
returns c =
    let words = two_words keyword.Partition keyword.By in
    let begins : starts (key keyword.Partition ∷ []) c.args.tokens.now ≡ true = search rules in
    record {
      exact = rw (part_read c.args.text.now or_none (gives second (words then listed name)) c.args.tokens.now (λ x. refl) begins, second_after c.args.text.now words (listed name) c.in_ok-rest.ensures.exact) c.names.ensures.exact;
      stands = c.names.ensures.stands;
      no_longer = still_no_longer _ _ c.names.result c.in_ok-rest.ensures.shorter c.names.ensures.shorter;
    }
