use Rattle.rp_lexer.specs.Lexes.{IsToken}
use Rattle.rp_syntax.specs.ClauseGrammar.{bracketed, clause}
use Rattle.rp_syntax.proofs.Following.{all_after, second_behind, shorter_after, starts_after, still_shorter}
use Rattle.rp_syntax.proofs.clause.clause.Goals as goal

pub bracketed-requires : goal.bracketed-requires
bracketed-requires c = record { stands = all_after (IsToken c.args.text.now) c.in-Some.ensures c.requires.stands }

pub returns-in-Some-clause-reads : goal.returns-in-Some-clause-reads
unfolding clause
returns-in-Some-clause-reads c = record {
  exact = rw (starts_after c.in-Some.ensures, second_behind c.args.text.now bracketed c.in-Some.ensures) c.bracketed.ensures.reads.exact;
  stands = c.bracketed.ensures.reads.stands;
  shorter = still_shorter _ _ c.bracketed.result (shorter_after c.in-Some.ensures) c.bracketed.ensures.reads.shorter;
}

pub returns-in-None-clause-reads : goal.returns-in-None-clause-reads
unfolding clause
returns-in-None-clause-reads c = record {
  exact = rw c.in-None.ensures c.body.ensures.reads.exact;
  stands = c.body.ensures.reads.stands;
  shorter = c.body.ensures.reads.shorter;
}
