use Rattle.rp_lexer.specs.Lexes.{IsToken}
use Rattle.rp_grammar.specs.Grammar.{listed}
use Rattle.rp_syntax.specs.ClauseGrammar.{measure, measures_part}
use Rattle.rp_syntax.proofs.Following.{all_after, part_behind, shorter_after, still_no_longer}
use Rattle.rp_syntax.proofs.clause.measures_part.Goals as goal

pub measures-requires : goal.measures-requires
measures-requires c = record { stands = all_after (IsToken c.args.text.now) c.in-Some.ensures c.requires.stands }

pub returns-in-Some : goal.returns-in-Some
unfolding measures_part
returns-in-Some c = record {
  exact = rw (part_behind c.args.text.now (listed (measure c.args.room)) c.in-Some.ensures) c.measures.ensures.exact;
  stands = c.measures.ensures.stands;
  no_longer = still_no_longer _ _ c.measures.result (shorter_after c.in-Some.ensures) c.measures.ensures.shorter;
}
