use Rattle.std.proofs.Common.{◌≡◌, drop}
use Rattle.serde_json.specs.View.{items_view}
use Rattle.rp_json.specs.Forms.{cell_of, list_in}
use Rattle.rp_json.proofs.Steps.{joined}
use Rattle.rp_json.proofs.values.cells_in.Given as goal

abbrev pub invariant-loop-json : goal.invariant-loop-json
invariant-loop-json l = list_in cell_of (items_view l.list) ≡ joined cell_of l.cells.items (drop l.json-index l.list)
