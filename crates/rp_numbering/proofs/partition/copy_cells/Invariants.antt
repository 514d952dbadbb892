use Rattle.std.proofs.Common.{◌≡◌, take}
use Rattle.rp_numbering.proofs.partition.copy_cells.Given as goal

abbrev pub invariant-loop-cell : goal.invariant-loop-cell
invariant-loop-cell l = l.cells.items ≡ take l.cell-index l.row
