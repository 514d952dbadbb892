use Rattle.std.proofs.Common.{◌≤◌, ◌+◌, ◌-◌}
use Rattle.rp_feed.specs.Fed.{first_missing}
use Rattle.rp_feed.proofs.held_rows.run_on.Given as goal

abbrev pub invariant-loop-run : goal.invariant-loop-run
invariant-loop-run l = l.first + l.run ≤ first_missing l.first l.rows.items

abbrev pub decreases-loop-run : goal.decreases-loop-run
decreases-loop-run l = first_missing l.first l.rows.items - (l.first + l.run)
