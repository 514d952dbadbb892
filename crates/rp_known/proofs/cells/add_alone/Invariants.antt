use Rattle.std.proofs.Common.{◌≡◌, ◌++◌, take}
use Rattle.rp_known.specs.Plans.{cells_alone}
use Rattle.rp_known.proofs.cells.add_alone.Given as goal

abbrev pub invariant-loop-column : goal.invariant-loop-column
invariant-loop-column g l = l.cells.items ≡ l.fn.cells.items ++ cells_alone (g.R.Rows.known l.rows) l.row (take l.column-index l.columns)
