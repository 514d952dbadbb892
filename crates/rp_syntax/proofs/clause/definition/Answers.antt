use Rattle.std.proofs.Common.{refl, arith}
use Rattle.rp_syntax.specs.ClauseGrammar.{definition}
use Rattle.rp_syntax.proofs.clause.definition.Goals as goal

pub returns : goal.returns
unfolding definition
returns c = record {
  exact = rw (c.in_ok-name.ensures.exact, c.in_ok-rest.ensures.exact, c.in_ok-expr.ensures.exact, c.place-at.ensures) refl;
  stands = c.in_ok-expr.ensures.stands;
  shorter = omega (arith, c.in_ok-name.ensures.shorter, c.in_ok-rest.ensures.shorter, c.in_ok-expr.ensures.shorter);
}
