use Rattle.std.proofs.Common.{◌≡◌, map, take}
use Rattle.rp_columns.specs.Loaded.{column_with}
use Rattle.rp_columns.proofs.columns.columns_with.Given as goal

abbrev pub invariant-loop-column : goal.invariant-loop-column
invariant-loop-column l = l.with.items ≡ map (column_with l.region l.rules) (take l.column-index l.columns)
