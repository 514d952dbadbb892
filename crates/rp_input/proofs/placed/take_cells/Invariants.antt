use Rattle.std.proofs.Common.{◌≡◌, drop}
use Rattle.csv.specs.Records.{fields_of}
use Rattle.rp_input.specs.Placed.{cells_from}
use Rattle.rp_input.proofs.Placing.{before}
use Rattle.rp_input.proofs.placed.take_cells.Given as goal

abbrev pub invariant-loop-index : goal.invariant-loop-index
invariant-loop-index l = cells_from 0 l.nulls l.fn.number l.columns (fields_of l.fields) ≡ before l.cells.items (cells_from l.index l.nulls l.fn.number (drop l.index l.columns) (fields_of l.fields))
