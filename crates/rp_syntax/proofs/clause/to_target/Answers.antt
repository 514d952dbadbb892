use Rattle.rp_lexer.specs.declared.kind.Keyword.TheVariants as keyword
use Rattle.rp_grammar.specs.Grammar.{word}
use Rattle.rp_expressions.specs.NavigationGrammar.{key}
use Rattle.rp_syntax.specs.ClauseGrammar.{target}
use Rattle.rp_syntax.proofs.Following.{second_after, still_shorter}
use Rattle.rp_syntax.proofs.clause.to_target.Goals as goal

pub returns : goal.returns
returns c = record {
  exact = rw (second_after c.args.text.now (word (key keyword.To)) target c.in_ok-rest.ensures.exact) c.target.ensures.exact;
  stands = c.target.ensures.stands;
  shorter = still_shorter _ _ c.target.result c.in_ok-rest.ensures.shorter c.target.ensures.shorter;
}
