use Rattle.std.proofs.Common.{◌≡◌, take, ap₂, sym, ◌∙◌, rules}
use Rattle.std.specs.Result.{is_ok}
use Rattle.std.specs.Prelude.{true}
use Rattle.std.proofs.lemmas.List.{take_more}
use Rattle.rp_checkpoint.specs.Checkpoints.{column_data, column_of}
use Rattle.rp_json.proofs.Steps.{append-items, read-after, viewed-more, written-more}
use Rattle.rp_checkpoint.proofs.write_checkpoint.columns_list.Goals as goal

pub loop-column-preserved : goal.loop-column-preserved
loop-column-preserved c =
    let i = c.loop-column.column-index in
    let good : is_ok c.push.result ≡ true = search rules in
    let items = rw good at c.push.ensures.items in
    let cut = take_more c.args.columns.now i c.column-item.result c.loop-column-test.true in
    record {
      written = rw (items, cut, ← c.column-item.is) (
          viewed-more c.loop-column.list.items c.in_ok-column_json.field-0
          ∙ ap₂ append-items c.loop-column.invariant.written c.in_ok-column_json.ensures.data
          ∙ sym (written-more column_data (take i c.args.columns.now) c.column-item.result)
          );
      back = rw (items, cut, ← c.column-item.is) (read-after column_of c.loop-column.list.items c.in_ok-column_json.field-0 _ _ c.loop-column.invariant.back c.in_ok-column_json.ensures.back);
    }
