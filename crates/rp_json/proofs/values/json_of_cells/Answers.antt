use Rattle.std.proofs.Common.{◌≡◌, take, ap₂, sym, ◌∙◌, rules}
use Rattle.std.specs.Result.{is_ok}
use Rattle.std.specs.Prelude.{true}
use Rattle.std.proofs.lemmas.List.{take_more}
use Rattle.rp_json.specs.Forms.{cell_data, cell_of}
use Rattle.rp_json.proofs.Steps.{append-items, read-after, viewed-more, written-more}
use Rattle.rp_json.proofs.values.json_of_cells.Goals as goal

pub loop-cell-preserved : goal.loop-cell-preserved
loop-cell-preserved c =
    let i = c.loop-cell.cell-index in
    let good : is_ok c.push.result ≡ true = search rules in
    let items = rw good at c.push.ensures.items in
    let cut = take_more c.args.cells.now i c.cell-item.result c.loop-cell-test.true in
    record {
      written = rw (items, cut, ← c.cell-item.is) (
          viewed-more c.loop-cell.list.items c.in_ok-json_of_cell.field-0
          ∙ ap₂ append-items c.loop-cell.invariant.written c.in_ok-json_of_cell.ensures.data
          ∙ sym (written-more cell_data (take i c.args.cells.now) c.cell-item.result)
          );
      back = rw (items, cut, ← c.cell-item.is) (read-after cell_of c.loop-cell.list.items c.in_ok-json_of_cell.field-0 _ _ c.loop-cell.invariant.back c.in_ok-json_of_cell.ensures.back);
    }
