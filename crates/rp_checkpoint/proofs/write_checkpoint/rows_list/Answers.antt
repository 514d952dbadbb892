use Rattle.std.proofs.Common.{◌≡◌, take, ap₂, sym, ◌∙◌, rules}
use Rattle.std.specs.Result.{is_ok}
use Rattle.std.specs.Prelude.{true}
use Rattle.std.proofs.lemmas.List.{take_more}
use Rattle.rp_checkpoint.specs.Checkpoints.{row_data, row_of}
use Rattle.rp_json.proofs.Steps.{append-items, read-after, viewed-more, written-more}
use Rattle.rp_checkpoint.proofs.write_checkpoint.rows_list.Goals as goal

pub loop-row-preserved : goal.loop-row-preserved
loop-row-preserved c =
    let i = c.loop-row.row-index in
    let good : is_ok c.push.result ≡ true = search rules in
    let items = rw good at c.push.ensures.items in
    let cut = take_more c.args.rows.now i c.row-item.result c.loop-row-test.true in
    record {
      written = rw (items, cut, ← c.row-item.is) (
          viewed-more c.loop-row.list.items c.in_ok-row_json.field-0
          ∙ ap₂ append-items c.loop-row.invariant.written c.in_ok-row_json.ensures.data
          ∙ sym (written-more row_data (take i c.args.rows.now) c.row-item.result)
          );
      back = rw (items, cut, ← c.row-item.is) (read-after row_of c.loop-row.list.items c.in_ok-row_json.field-0 _ _ c.loop-row.invariant.back c.in_ok-row_json.ensures.back);
    }
