use Rattle.std.proofs.Common.{◌≡◌, drop}
use Rattle.serde_json.specs.View.{items_view}
use Rattle.rp_checkpoint.specs.Checkpoints.{partition_of}
use Rattle.rp_json.specs.Forms.{list_in}
use Rattle.rp_json.proofs.Steps.{joined}
use Rattle.rp_checkpoint.proofs.restore.partitions_in.Given as goal

abbrev pub invariant-loop-json : goal.invariant-loop-json
invariant-loop-json l = list_in (partition_of l.version) (items_view l.list) ≡ joined (partition_of l.version) l.partitions.items (drop l.json-index l.list)
