use Rattle.std.proofs.Common.{length, List}
use Rattle.rp_tree.specs.declared.tree.Operation.{Operation}
use Rattle.rp_tree.specs.Terms.{Term}
use Rattle.rp_query.specs.Formulas.{PlainTotal}
use Rattle.rp_resolution.specs.Context.{Context}
use Rattle.rp_resolution.specs.Checked.{Resolves}
use Rattle.rp_resolution.specs.Grouping.{wrapped, AreLefts}
use Rattle.rp_resolution.proofs.Chains.{GoesOn}
use Rattle.rp_resolution.proofs.expr.grouped.Given as goal

abbrev pub invariant-loop-left : goal.invariant-loop-left
invariant-loop-left l = (x : Context) (before : List PlainTotal) (ps : List (Term × Operation)) (mid : List PlainTotal) (t : Term) (now : List PlainTotal) → AreLefts x before ps l.fn.lefts.items mid → Resolves x mid t l.fn.last now → GoesOn x before (wrapped ps t) l.lefts.items l.right now

abbrev pub decreases-loop-left : goal.decreases-loop-left
decreases-loop-left l = length l.lefts.items
