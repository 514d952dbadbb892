use Rattle.std.proofs.Common.{◌≤◌, ◌-◌, length}
use Rattle.rp_feed.specs.HeldRows.{below}
use Rattle.rp_feed.proofs.held_rows.place_between.Given as goal

abbrev pub invariant-loop-low : goal.invariant-loop-low
invariant-loop-low l = record {
  low : l.low ≤ below l.number l.rows.items;
  high : below l.number l.rows.items ≤ l.high;
  within : l.high ≤ length l.rows.items;
}

abbrev pub decreases-loop-low : goal.decreases-loop-low
decreases-loop-low l = l.high - l.low
