use Rattle.std.proofs.Common.{take}
use Rattle.rp_eval.specs.Entered.{AreTotals}
use Rattle.rp_engine_tests.proofs.values.plans.totals_of.Given as goal

abbrev pub invariant-loop-depth : goal.invariant-loop-depth
invariant-loop-depth g l = AreTotals l.totals (g.R.Rows.known l.rows) 1 (take l.depth l.labels)
