use Rattle.std.proofs.Common.{◌≡◌, take, Some}
use Rattle.serde_json.specs.View.{items_view}
use Rattle.rp_json.specs.Forms.{cell_data, cell_of, list_in, list_items}
use Rattle.rp_json.proofs.values.json_of_cells.Given as goal

abbrev pub invariant-loop-cell : goal.invariant-loop-cell
invariant-loop-cell l = record {
  written : items_view l.list.items ≡ list_items cell_data (take l.cell-index l.cells);
  back : list_in cell_of (items_view l.list.items) ≡ Some (take l.cell-index l.cells);
}
