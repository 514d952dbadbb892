use Rattle.std.proofs.Common.{refl, arith}
use Rattle.rp_patterns.specs.PatternGrammar.{bound}
use Rattle.rp_patterns.proofs.quantifier.above.Goals as goal

pub returns-then-not-begins : goal.returns-then-not-begins
returns-then-not-begins c = record {
  exact = rw (← c.begins.ensures, c.if-not-begins.true) refl;
  stands = c.requires.stands;
  no_longer = omega arith;
}

pub returns-then-not-begins-2 : goal.returns-then-not-begins-2
unfolding bound
returns-then-not-begins-2 c = record {
  exact = rw (← c.begins.ensures, c.if-not-begins.false, c.in_ok-comma.ensures.exact, ← c.begins-2.ensures, c.if-not-begins-2.true) refl;
  stands = c.in_ok-comma.ensures.stands;
  no_longer = omega (arith, c.in_ok-comma.ensures.shorter);
}

pub returns : goal.returns
unfolding bound
returns c = record {
  exact = rw (← c.begins.ensures, c.if-not-begins.false, c.in_ok-comma.ensures.exact, ← c.begins-2.ensures, c.if-not-begins-2.false, c.in_ok-upper.ensures.exact) refl;
  stands = c.in_ok-upper.ensures.stands;
  no_longer = omega (arith, c.in_ok-comma.ensures.shorter, c.in_ok-upper.ensures.shorter);
}
