use Rattle.std.proofs.Common.{refl, arith}
use Rattle.rp_syntax.specs.ClauseGrammar.{measure}
use Rattle.rp_syntax.proofs.clause.measure.Goals as goal

pub returns : goal.returns
unfolding measure
returns c = record {
  exact = rw (c.in_ok-expr.ensures.exact, c.in_ok-name.ensures.exact, c.place-at.ensures) refl;
  stands = c.in_ok-name.ensures.stands;
  shorter = omega (arith, c.in_ok-expr.ensures.shorter, c.in_ok-name.ensures.shorter);
}
