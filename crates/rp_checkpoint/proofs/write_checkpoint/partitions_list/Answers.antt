use Rattle.std.proofs.Common.{◌≡◌, take, ap₂, sym, ◌∙◌, rules}
use Rattle.std.specs.Result.{is_ok}
use Rattle.std.specs.Prelude.{true}
use Rattle.std.proofs.lemmas.List.{take_more}
use Rattle.rp_checkpoint.specs.Checkpoints.{partition_data, partition_of}
use Rattle.rp_json.proofs.Steps.{append-items, read-after, viewed-more, written-more}
use Rattle.rp_checkpoint.proofs.write_checkpoint.partitions_list.Goals as goal

pub loop-partition-preserved : goal.loop-partition-preserved
loop-partition-preserved c =
    let i = c.loop-partition.partition-index in
    let good : is_ok c.push.result ≡ true = search rules in
    let items = rw good at c.push.ensures.items in
    let cut = take_more c.args.partitions.now i c.partition-item.result c.loop-partition-test.true in
    record {
      written = rw (items, cut, ← c.partition-item.is) (
          viewed-more c.loop-partition.list.items c.in_ok-partition_json.field-0
          ∙ ap₂ append-items c.loop-partition.invariant.written c.in_ok-partition_json.ensures.data
          ∙ sym (written-more partition_data (take i c.args.partitions.now) c.partition-item.result)
          );
      back = rw (items, cut, ← c.partition-item.is) (read-after (partition_of 2) c.loop-partition.list.items c.in_ok-partition_json.field-0 _ _ c.loop-partition.invariant.back c.in_ok-partition_json.ensures.back);
    }
