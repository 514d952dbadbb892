use Rattle.std.proofs.Common.{◌≡◌, drop}
use Rattle.rp_value.specs.Tables.{has_double_name, columns_of}
use Rattle.rp_value.proofs.table.has_double_name.Given as goal

abbrev pub invariant-loop-index : goal.invariant-loop-index
invariant-loop-index l =
    has_double_name (columns_of l.columns) ≡ has_double_name (columns_of (drop l.index l.columns))
