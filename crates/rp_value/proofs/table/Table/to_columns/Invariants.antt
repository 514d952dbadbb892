use Rattle.std.proofs.Common.{◌≡◌, take}
use Rattle.rp_value.proofs.table.Table.to_columns.Given as goal

abbrev pub invariant-loop-column : goal.invariant-loop-column
invariant-loop-column l = l.columns.items ≡ take l.column-index l.self
