use Rattle.std.proofs.Common.{◌≡◌, [], ◌∷◌, true, refl, rules}
use Rattle.rp_lexer.specs.declared.kind.Keyword.TheVariants as keyword
use Rattle.rp_grammar.specs.Reading.{starts}
use Rattle.rp_grammar.specs.Grammar.{◌then◌, gives, listed, second}
use Rattle.rp_expressions.specs.NavigationGrammar.{key}
use Rattle.rp_syntax.specs.ClauseGrammar.{order, order_part, or_none, two_words}
use Rattle.rp_syntax.proofs.Following.{part_read, second_after, still_no_longer}
use Rattle.rp_syntax.proofs.clause.order_part.Goals as goal

pub returns : goal.returns
unfolding order_part
returns c =
    let words = two_words keyword.Order keyword.By in
    let begins : starts (key keyword.Order ∷ []) c.args.tokens.now ≡ true = search rules in
    record {
      exact = rw (part_read c.args.text.now or_none (gives second (words then listed order)) c.args.tokens.now (λ x. refl) begins, second_after c.args.text.now words (listed order) c.in_ok-rest.ensures.exact) c.orders.ensures.exact;
      stands = c.orders.ensures.stands;
      no_longer = still_no_longer _ _ c.orders.result c.in_ok-rest.ensures.shorter c.orders.ensures.shorter;
    }
