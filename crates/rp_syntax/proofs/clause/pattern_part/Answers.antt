use Rattle.std.proofs.Common.{refl, arith}
use Rattle.rp_syntax.specs.ClauseGrammar.{pattern_part}
use Rattle.rp_syntax.proofs.clause.pattern_part.Goals as goal

pub returns : goal.returns
unfolding pattern_part
returns c = record {
  exact = rw (c.in_ok-rest.ensures.exact, c.in_ok-rest-2.ensures.reads.exact, c.in_ok-pattern.ensures.exact, c.in_ok-rest-3.ensures.exact) refl;
  stands = c.in_ok-rest-3.ensures.stands;
  shorter = omega (arith, c.in_ok-rest.ensures.shorter, c.in_ok-rest-2.ensures.reads.shorter, c.in_ok-pattern.ensures.shorter, c.in_ok-rest-3.ensures.shorter);
}
