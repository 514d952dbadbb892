use Rattle.std.proofs.Common.{refl, arith}
use Rattle.rp_syntax.specs.ClauseGrammar.{union}
use Rattle.rp_syntax.proofs.clause.union.Goals as goal

pub returns : goal.returns
unfolding union
returns c = record {
  exact = rw (c.in_ok-name.ensures.exact, c.in_ok-rest.ensures.exact, c.in_ok-rest-2.ensures.reads.exact, c.in_ok-members.ensures.exact, c.in_ok-rest-3.ensures.exact) refl;
  stands = c.in_ok-rest-3.ensures.stands;
  shorter = omega (arith, c.in_ok-name.ensures.shorter, c.in_ok-rest.ensures.shorter, c.in_ok-rest-2.ensures.reads.shorter, c.in_ok-members.ensures.shorter, c.in_ok-rest-3.ensures.shorter);
}
