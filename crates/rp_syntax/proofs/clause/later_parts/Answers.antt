use Rattle.std.proofs.Common.{refl, arith}
use Rattle.rp_syntax.proofs.clause.later_parts.Goals as goal

pub returns : goal.returns
returns c = record {
  exact = rw (c.in_ok-skip.ensures.exact, c.in_ok-pattern.ensures.exact, c.in_ok-subsets.ensures.exact, c.in_ok-definitions.ensures.exact) refl;
  stands = c.in_ok-definitions.ensures.stands;
  shorter = omega (arith, c.in_ok-skip.ensures.no_longer, c.in_ok-pattern.ensures.shorter, c.in_ok-subsets.ensures.no_longer, c.in_ok-definitions.ensures.shorter);
}
