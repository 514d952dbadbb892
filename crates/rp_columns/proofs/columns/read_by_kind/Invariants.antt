use Rattle.std.proofs.Common.{◌≡◌, take}
use Rattle.rp_columns.specs.Headings.{columns_for}
use Rattle.rp_columns.proofs.columns.read_by_kind.Given as goal

abbrev pub invariant-loop-column : goal.invariant-loop-column
invariant-loop-column l = l.read.items ≡ columns_for (take l.column-index l.columns)
