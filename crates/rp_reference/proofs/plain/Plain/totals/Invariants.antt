use Rattle.std.proofs.Common.{take}
use Rattle.rp_eval.specs.Entered.{AreTotals}
use Rattle.rp_reference.proofs.plain.Plain.totals.Given as goal

abbrev pub invariant-loop-depth : goal.invariant-loop-depth
invariant-loop-depth l = AreTotals l.totals l.self.rows.now.rows.items l.start (take l.depth l.labels)
