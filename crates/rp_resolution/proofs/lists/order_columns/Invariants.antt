use Rattle.std.proofs.Common.{◌≡◌, map, take}
use Rattle.rp_resolution.specs.Queries.{order_column}
use Rattle.rp_resolution.specs.PartFaults.{order_faults}
use Rattle.rp_resolution.proofs.Each.{IsLeft}
use Rattle.rp_resolution.proofs.lists.order_columns.Given as goal

abbrev pub invariant-loop-i : goal.invariant-loop-i
invariant-loop-i l = record {
  clean : IsLeft (λ o. o.name) (order_faults l.columns l.partition) l.order l.i;
  numbers : l.numbers.items ≡ map (order_column l.columns) (take l.i l.order);
}
