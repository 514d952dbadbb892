use Rattle.rp_expressions.specs.ExprGrammar.{comparison}
use Rattle.rp_expressions.proofs.operators.comparison.Goals as goal

pub returns-then-begins : goal.returns-then-begins
unfolding comparison
returns-then-begins c = record {
  exact = rw (← c.if-begins.ensures) c.operation.ensures.exact;
  stands = c.operation.ensures.stands;
  shorter = c.operation.ensures.shorter;
}

pub returns-then-begins-2 : goal.returns-then-begins-2
unfolding comparison
returns-then-begins-2 c = record {
  exact = rw (← c.if-begins.ensures, ← c.if-begins-2.ensures) c.operation-then-begins-2.ensures.exact;
  stands = c.operation-then-begins-2.ensures.stands;
  shorter = c.operation-then-begins-2.ensures.shorter;
}

pub returns-then-begins-3 : goal.returns-then-begins-3
unfolding comparison
returns-then-begins-3 c = record {
  exact = rw (← c.if-begins.ensures, ← c.if-begins-2.ensures, ← c.if-begins-3.ensures) c.operation-then-begins-3.ensures.exact;
  stands = c.operation-then-begins-3.ensures.stands;
  shorter = c.operation-then-begins-3.ensures.shorter;
}

pub returns-then-begins-4 : goal.returns-then-begins-4
unfolding comparison
returns-then-begins-4 c = record {
  exact = rw (← c.if-begins.ensures, ← c.if-begins-2.ensures, ← c.if-begins-3.ensures, ← c.if-begins-4.ensures) c.operation-then-begins-4.ensures.exact;
  stands = c.operation-then-begins-4.ensures.stands;
  shorter = c.operation-then-begins-4.ensures.shorter;
}

pub returns-then-begins-5 : goal.returns-then-begins-5
unfolding comparison
returns-then-begins-5 c = record {
  exact = rw (← c.if-begins.ensures, ← c.if-begins-2.ensures, ← c.if-begins-3.ensures, ← c.if-begins-4.ensures, ← c.if-begins-5.ensures) c.operation-then-begins-5.ensures.exact;
  stands = c.operation-then-begins-5.ensures.stands;
  shorter = c.operation-then-begins-5.ensures.shorter;
}

pub returns : goal.returns
unfolding comparison
returns c = record {
  exact = rw (← c.if-begins.ensures, ← c.if-begins-2.ensures, ← c.if-begins-3.ensures, ← c.if-begins-4.ensures, ← c.if-begins-5.ensures) c.operation-2.ensures.exact;
  stands = c.operation-2.ensures.stands;
  shorter = c.operation-2.ensures.shorter;
}
