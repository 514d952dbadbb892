use Rattle.rp_lexer.specs.declared.kind.Keyword.TheVariants as keyword
use Rattle.rp_grammar.specs.Grammar.{listed, word}
use Rattle.rp_expressions.specs.NavigationGrammar.{key}
use Rattle.rp_syntax.specs.ClauseGrammar.{define_part, definition}
use Rattle.rp_syntax.proofs.Following.{second_after, still_shorter}
use Rattle.rp_syntax.proofs.clause.define_part.Goals as goal

pub returns : goal.returns
unfolding define_part
returns c = record {
  exact = rw (second_after c.args.text.now (word (key keyword.Define)) (listed (definition c.args.room)) c.in_ok-rest.ensures.exact) c.definitions.ensures.exact;
  stands = c.definitions.ensures.stands;
  shorter = still_shorter _ _ c.definitions.result c.in_ok-rest.ensures.shorter c.definitions.ensures.shorter;
}
