use Rattle.rp_lexer.specs.declared.kind.Keyword.TheVariants as keyword
use Rattle.rp_grammar.specs.Grammar.{word}
use Rattle.rp_grammar.specs.Names.{name}
use Rattle.rp_expressions.specs.NavigationGrammar.{key}
use Rattle.rp_syntax.proofs.Following.{second_after, still_shorter}
use Rattle.rp_syntax.proofs.clause.as_name.Goals as goal

pub returns : goal.returns
returns c = record {
  exact = rw (second_after c.args.text.now (word (key keyword.As)) name c.in_ok-rest.ensures.exact) c.name.ensures.exact;
  stands = c.name.ensures.stands;
  shorter = still_shorter _ _ c.name.result c.in_ok-rest.ensures.shorter c.name.ensures.shorter;
}
