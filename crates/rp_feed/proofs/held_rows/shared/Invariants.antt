use Rattle.std.proofs.Common.{◌≡◌, take}
use Rattle.rp_feed.proofs.held_rows.shared.Given as goal

abbrev pub invariant-loop-place : goal.invariant-loop-place
invariant-loop-place l = l.list.items ≡ take l.place l.rows.items
