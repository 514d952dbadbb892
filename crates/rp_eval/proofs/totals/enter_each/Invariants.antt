use Rattle.std.proofs.Common.{◌≡◌, ◌-◌, length, take}
use Rattle.rp_eval.proofs.KeptSeries.{partly}
use Rattle.rp_eval.proofs.totals.enter_each.Given as goal

abbrev pub invariant-loop-number : goal.invariant-loop-number
invariant-loop-number g l = l.series ≡ partly (g.R.Rows.known l.rows) l.start (take (length l.labels - 1) l.labels) l.labels l.plan l.number
