use Rattle.std.proofs.Common.{refl, arith}
use Rattle.rp_patterns.proofs.quantifier.from_bound.Goals as goal

pub returns : goal.returns
returns c = record {
  exact = rw (c.in_ok-lower.ensures.exact, c.in_ok-above.ensures.exact, c.in_ok-rest.ensures.exact, c.from_lower.ensures) refl;
  stands = c.in_ok-rest.ensures.stands;
  shorter = omega (arith, c.in_ok-lower.ensures.shorter, c.in_ok-above.ensures.no_longer, c.in_ok-rest.ensures.shorter);
}
