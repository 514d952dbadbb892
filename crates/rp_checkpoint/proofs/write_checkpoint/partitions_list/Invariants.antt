use Rattle.std.proofs.Common.{◌≡◌, take, Some}
use Rattle.serde_json.specs.View.{items_view}
use Rattle.rp_checkpoint.specs.Checkpoints.{partition_data, partition_of}
use Rattle.rp_json.specs.Forms.{list_in, list_items}
use Rattle.rp_checkpoint.proofs.write_checkpoint.partitions_list.Given as goal

abbrev pub invariant-loop-partition : goal.invariant-loop-partition
invariant-loop-partition l = record {
  written : items_view l.list.items ≡ list_items partition_data (take l.partition-index l.partitions);
  back : list_in (partition_of 2) (items_view l.list.items) ≡ Some (take l.partition-index l.partitions);
}
