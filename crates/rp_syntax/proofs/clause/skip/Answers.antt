use Rattle.rp_lexer.specs.declared.kind.Keyword.TheVariants as keyword
use Rattle.rp_tree.specs.declared.tree.Skip.TheVariants as skip_as
use Rattle.rp_grammar.specs.Grammar.{Grammar, ◌or◌, ◌then◌, gives, second, word}
use Rattle.rp_tree.specs.declared.tree.Skip.{Skip}
use Rattle.rp_expressions.specs.NavigationGrammar.{key}
use Rattle.rp_syntax.specs.ClauseGrammar.{skip, target, three_words}
use Rattle.rp_syntax.proofs.Following.{second_after, still_shorter}
use Rattle.rp_syntax.proofs.clause.skip.Goals as goal

abbrev past_or_to : Grammar Skip
past_or_to = gives (λ at. skip_as.PastLastRow) (three_words keyword.Past keyword.Last keyword.Row) or gives second (word (key keyword.To) then target)

pub returns-then-begins : goal.returns-then-begins
unfolding skip
returns-then-begins c = record {
  exact = rw (second_after c.args.text.now (three_words keyword.After keyword.Match keyword.Skip) past_or_to c.in_ok-rest.ensures.exact, ← c.if-begins.ensures) c.past_last_row.ensures.exact;
  stands = c.past_last_row.ensures.stands;
  shorter = still_shorter _ _ c.past_last_row.result c.in_ok-rest.ensures.shorter c.past_last_row.ensures.shorter;
}

pub returns : goal.returns
unfolding skip
returns c = record {
  exact = rw (second_after c.args.text.now (three_words keyword.After keyword.Match keyword.Skip) past_or_to c.in_ok-rest.ensures.exact, ← c.if-begins.ensures) c.to_target.ensures.exact;
  stands = c.to_target.ensures.stands;
  shorter = still_shorter _ _ c.to_target.result c.in_ok-rest.ensures.shorter c.to_target.ensures.shorter;
}
