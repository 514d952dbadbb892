use Rattle.std.proofs.Common.{◌≡◌, take}
use Rattle.rp_value.proofs.cells.Cells.of.Given as goal

abbrev pub invariant-loop-value : goal.invariant-loop-value
invariant-loop-value l = l.shared.items ≡ take l.value-index l.values
