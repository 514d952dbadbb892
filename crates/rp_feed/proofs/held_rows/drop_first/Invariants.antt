use Rattle.std.proofs.Common.{◌≡◌, drop}
use Rattle.rp_feed.proofs.held_rows.drop_first.Given as goal

abbrev pub invariant-loop-place : goal.invariant-loop-place
invariant-loop-place l = l.rows.items ≡ drop l._place l.initial.rows.items
