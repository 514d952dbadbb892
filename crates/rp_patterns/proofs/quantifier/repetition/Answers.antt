use Rattle.std.proofs.Common.{refl, arith}
use Rattle.rp_patterns.proofs.quantifier.repetition.Goals as goal

pub returns-then-not-begins : goal.returns-then-not-begins
returns-then-not-begins c = record {
  exact = rw (c.in_ok-greedy.ensures.exact, ← c.begins.ensures, c.if-not-begins.true) refl;
  stands = c.in_ok-greedy.ensures.stands;
  shorter = c.in_ok-greedy.ensures.shorter;
}

pub returns : goal.returns
returns c = record {
  exact = rw (c.in_ok-greedy.ensures.exact, ← c.begins.ensures, c.if-not-begins.false, c.in_ok-rest.ensures.exact, c.lazily.ensures) refl;
  stands = c.in_ok-rest.ensures.stands;
  shorter = omega (arith, c.in_ok-greedy.ensures.shorter, c.in_ok-rest.ensures.shorter);
}
