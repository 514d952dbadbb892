use Rattle.std.proofs.Common.{refl, arith}
use Rattle.rp_patterns.proofs.quantifier.upper_alone.Goals as goal

pub returns : goal.returns
returns c = record {
  exact = rw (c.in_ok-rest.ensures.exact, c.in_ok-upper.ensures.exact, c.in_ok-rest-2.ensures.exact, c.repeated.ensures, c.unwritten.ensures) refl;
  stands = c.in_ok-rest-2.ensures.stands;
  shorter = omega (arith, c.in_ok-rest.ensures.shorter, c.in_ok-upper.ensures.shorter, c.in_ok-rest-2.ensures.shorter);
}
