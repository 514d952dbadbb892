use Rattle.std.proofs.Common.{◌≡◌, drop}
use Rattle.json.specs.Value.{value_view}
use Rattle.rp_objects.specs.Cells.{cells_from}
use Rattle.rp_objects.proofs.CellsTaken.{in_front}
use Rattle.rp_objects.proofs.cells.take_cells.Given as goal

abbrev pub invariant-loop-index : goal.invariant-loop-index
invariant-loop-index l = cells_from 0 l.nulls l.fn.number (value_view l.object) l.columns ≡ in_front l.cells.items (cells_from l.index l.nulls l.fn.number (value_view l.object) (drop l.index l.columns))
