use Rattle.std.proofs.Common.{◌≡◌, drop}
use Rattle.rp_checkpoint.specs.HeldRows.{ascend, ascend_above}
use Rattle.rp_checkpoint.proofs.node_data.ascend.Given as goal

abbrev pub invariant-loop-row : goal.invariant-loop-row
invariant-loop-row l = ascend l.rows ≡ ascend_above l.before (drop l.row-index l.rows)
