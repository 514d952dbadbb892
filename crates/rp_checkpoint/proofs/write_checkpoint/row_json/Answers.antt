use Rattle.std.proofs.Common.{◌≡◌, ◌∙◌, ◌++◌, ◌∷◌, [], ap, ap₂, sym, subst, Some}
use Rattle.serde_json.specs.Data.{array, item, no_items}
use Rattle.serde_json.specs.View.{items_view}
use Rattle.serde_json.specs.declared.value.Value as Json
use Rattle.serde_json.proofs.Views.{view-Array}
use Rattle.rp_json.specs.Forms.{cell_data, cell_of, list_in, list_items}
use Rattle.rp_checkpoint.specs.Checkpoints.{row_of}
use Rattle.rp_checkpoint.proofs.ReadBack.{row_back}
use Rattle.rp_checkpoint.proofs.write_checkpoint.row_json.Goals as goal

pub returns-clause-data : goal.returns-clause-data
returns-clause-data c =
    let pair = c.in_ok-push-2.ensures.items ∙ ap (λ js. js ++ Json.Array c.in_ok-cells.cells ∷ []) (c.in_ok-push.ensures.items ∙ ap (λ js. js ++ c.from.result ∷ []) c.in_ok-pair.ensures.items) in
    let cells = view-Array c.in_ok-cells.cells ∙ ap array (c.in_ok-cells.ensures.data ∙ ap (list_items cell_data) c.cells.ensures) in
    view-Array c.push-2.new.self ∙ ap (λ js. array (items_view js)) pair ∙ ap₂ (λ n d. array (item n (item d no_items))) c.from.ensures cells

pub returns-clause-back : goal.returns-clause-back
returns-clause-back c =
    let cells = ap (list_in cell_of) (sym c.in_ok-cells.ensures.data) ∙ c.in_ok-cells.ensures.back in
    ap row_of (returns-clause-data c) ∙ row_back c.args.row.now (subst (λ vs. list_in cell_of (list_items cell_data vs) ≡ Some vs) c.cells.ensures cells)
