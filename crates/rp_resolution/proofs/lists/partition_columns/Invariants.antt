use Rattle.std.proofs.Common.{◌≡◌, map, take}
use Rattle.rp_resolution.specs.Context.{column_named}
use Rattle.rp_resolution.specs.PartFaults.{partition_faults}
use Rattle.rp_resolution.specs.Resolved.{number_at}
use Rattle.rp_resolution.proofs.Each.{AreLeft}
use Rattle.rp_resolution.proofs.lists.partition_columns.Given as goal

abbrev pub invariant-loop-i : goal.invariant-loop-i
invariant-loop-i l = record {
  clean : AreLeft (partition_faults l.columns) l.partition l.i;
  numbers : l.numbers.items ≡ map (λ n. number_at (column_named n.text l.columns)) (take l.i l.partition);
}
