use Rattle.std.proofs.Common.{◌≡◌, take, Some}
use Rattle.serde_json.specs.View.{items_view}
use Rattle.rp_checkpoint.specs.Checkpoints.{column_data, column_of}
use Rattle.rp_json.specs.Forms.{list_in, list_items}
use Rattle.rp_checkpoint.proofs.write_checkpoint.columns_list.Given as goal

abbrev pub invariant-loop-column : goal.invariant-loop-column
invariant-loop-column l = record {
  written : items_view l.list.items ≡ list_items column_data (take l.column-index l.columns);
  back : list_in column_of (items_view l.list.items) ≡ Some (take l.column-index l.columns);
}
