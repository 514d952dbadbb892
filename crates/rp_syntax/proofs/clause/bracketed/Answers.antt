use Rattle.std.proofs.Common.{refl, arith}
use Rattle.rp_syntax.proofs.clause.bracketed.Goals as goal

pub returns-clause-reads : goal.returns-clause-reads
returns-clause-reads c = record {
  exact = rw (c.in_ok-rest.ensures.reads.exact, c.in_ok-clause.ensures.reads.exact, c.in_ok-rest-2.ensures.exact) refl;
  stands = c.in_ok-rest-2.ensures.stands;
  shorter = omega (arith, c.in_ok-rest.ensures.reads.shorter, c.in_ok-clause.ensures.reads.shorter, c.in_ok-rest-2.ensures.shorter);
}
