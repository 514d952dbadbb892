use Rattle.std.proofs.Common.{refl, arith}
use Rattle.rp_syntax.specs.ClauseGrammar.{body}
use Rattle.rp_syntax.proofs.clause.body.Goals as goal

pub returns-clause-reads : goal.returns-clause-reads
unfolding body
returns-clause-reads c = record {
  exact = rw (c.in_ok-partition.ensures.exact, c.in_ok-order.ensures.exact, c.in_ok-measures.ensures.exact, c.in_ok-rows.ensures.exact, c.in_ok-later.ensures.exact) refl;
  stands = c.in_ok-later.ensures.stands;
  shorter = omega (arith, c.in_ok-partition.ensures.no_longer, c.in_ok-order.ensures.no_longer, c.in_ok-measures.ensures.no_longer, c.in_ok-rows.ensures.no_longer, c.in_ok-later.ensures.shorter);
}
