-- Inside: the rows of a list that is made row by row.
use Rattle.std.specs.Prelude.{List, ◌++◌}
use Rattle.std.specs.List.{flat_map}
use Rattle.rp_value.specs.Blocks.{cut_apart}
use Rattle.rp_value.specs.declared.row_list.Batch.{Batch}
use Rattle.rp_value.specs.declared.row_list.RowList.{RowList}
use Rattle.rp_value.specs.declared.value.Value.{Value}

-- the rows of a batch
unfoldable pub batch_rows : Batch → List (List Value)
batch_rows batch = cut_apart batch.width batch.count batch.cells.items

-- the rows that were added to a list: those of the batches that are full, and then those of the last one
unfoldable pub rows_added : RowList → List (List Value)
rows_added list = flat_map batch_rows list.full.items ++ batch_rows list.last
