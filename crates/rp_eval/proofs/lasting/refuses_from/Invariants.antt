use Rattle.std.proofs.Common.{◌+◌, ◌-◌, ◌<◌, ◌≤◌}
use Rattle.rp_eval.specs.Locality.{RefusesBelow}
use Rattle.rp_eval.proofs.lasting.refuses_from.Given as goal

abbrev pub invariant-rows : goal.invariant-rows
invariant-rows g l = (l.ends.first < l.at) × (l.at ≤ l.ends.own + 1) × RefusesBelow g.R.Rows.known g.R.Rows.ending l.ends l.term l.at

abbrev pub decreases-rows : goal.decreases-rows
decreases-rows g l = l.ends.own + 1 - l.at
