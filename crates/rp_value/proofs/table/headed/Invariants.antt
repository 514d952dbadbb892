use Rattle.std.proofs.Common.{◌≡◌}
use Rattle.rp_value.specs.Tables.{columns_of}
use Rattle.rp_value.proofs.table.headed.Given as goal

abbrev pub invariant-loop-name : goal.invariant-loop-name
invariant-loop-name l = l.columns.items ≡ columns_of l.yielded
