use Rattle.std.proofs.Common.{refl}
use Rattle.rp_expressions.specs.ExprGrammar.{aggregate, counted}
use Rattle.rp_expressions.proofs.aggregates.aggregate.Goals as goal

pub returns-then-begins : goal.returns-then-begins
unfolding aggregate counted
returns-then-begins c = record {
  exact = rw (← c.if-begins.ensures) c.counting.ensures.exact;
  stands = c.counting.ensures.stands;
  shorter = c.counting.ensures.shorter;
}

pub returns-then-begins-2 : goal.returns-then-begins-2
unfolding aggregate counted
returns-then-begins-2 c = record {
  exact = rw (← c.if-begins.ensures, ← c.if-begins-2.ensures, c.in_ok-at.ensures.exact, c.under.ensures) refl;
  stands = c.in_ok-at.ensures.stands;
  shorter = c.in_ok-at.ensures.shorter;
}

pub returns-then-begins-3 : goal.returns-then-begins-3
unfolding aggregate counted
returns-then-begins-3 c = record {
  exact = rw (← c.if-begins.ensures, ← c.if-begins-2.ensures, ← c.if-begins-3.ensures, c.in_ok-at-2.ensures.exact, c.under-then-begins-3.ensures) refl;
  stands = c.in_ok-at-2.ensures.stands;
  shorter = c.in_ok-at-2.ensures.shorter;
}

pub returns : goal.returns
unfolding aggregate counted
returns c = record {
  exact = rw (← c.if-begins.ensures, ← c.if-begins-2.ensures, ← c.if-begins-3.ensures, c.in_ok-at-3.ensures.exact, c.under-2.ensures) refl;
  stands = c.in_ok-at-3.ensures.stands;
  shorter = c.in_ok-at-3.ensures.shorter;
}
