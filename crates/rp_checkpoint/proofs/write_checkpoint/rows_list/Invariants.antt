use Rattle.std.proofs.Common.{◌≡◌, take, Some}
use Rattle.serde_json.specs.View.{items_view}
use Rattle.rp_checkpoint.specs.Checkpoints.{row_data, row_of}
use Rattle.rp_json.specs.Forms.{list_in, list_items}
use Rattle.rp_checkpoint.proofs.write_checkpoint.rows_list.Given as goal

abbrev pub invariant-loop-row : goal.invariant-loop-row
invariant-loop-row l = record {
  written : items_view l.list.items ≡ list_items row_data (take l.row-index l.rows);
  back : list_in row_of (items_view l.list.items) ≡ Some (take l.row-index l.rows);
}
