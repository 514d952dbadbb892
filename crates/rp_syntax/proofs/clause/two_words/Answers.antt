use Rattle.std.proofs.Common.{refl, arith}
use Rattle.rp_syntax.proofs.clause.two_words.Goals as goal

pub returns : goal.returns
returns c = record {
  exact = rw (c.in_ok-at.ensures.exact, c.in_ok-rest.ensures.exact) refl;
  stands = c.in_ok-rest.ensures.stands;
  shorter = omega (arith, c.in_ok-at.ensures.shorter, c.in_ok-rest.ensures.shorter);
}
