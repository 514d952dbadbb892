use Rattle.std.proofs.Common.{◌≡◌, ◌++◌}
use Rattle.std.specs.List.{flat_map}
use Rattle.std.specs.Vec.Iter.{into_iter_items}
use Rattle.rp_value.specs.RowLists.{batch_rows}
use Rattle.rp_value.proofs.row_list.RowList.into_rows.Given as goal

abbrev pub invariant-loop-batch : goal.invariant-loop-batch
invariant-loop-batch l = record {
  made : l.rows.items ≡ flat_map batch_rows l.yielded;
  left : l.yielded ++ into_iter_items l.batch-iterator ≡ l.fn.self.full.items;
}
