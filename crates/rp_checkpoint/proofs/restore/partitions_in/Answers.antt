use Rattle.std.proofs.Common.{◌∙◌, Some, ap, sym}
use Rattle.rp_checkpoint.specs.Checkpoints.{partition_of}
use Rattle.rp_json.proofs.Steps.{joined-at, joined-stop}
use Rattle.rp_checkpoint.proofs.ReadLists.{joined_all, joined_first}
use Rattle.rp_checkpoint.proofs.restore.partitions_in.Goals as goal

pub loop-json-init : goal.loop-json-init
loop-json-init c = rw c.in_ok-partitions.ensures.items (joined_first (partition_of c.args.version) c.args.list.now)

pub loop-json-preserved : goal.loop-json-preserved
loop-json-preserved c =
    let read = sym c.in-Some.is ∙ c.in_ok-partition.ensures in
    rw c.in_ok-push.ensures.items
    (c.loop-json.invariant ∙ joined-at (partition_of c.args.version) c.loop-json.partitions.items c.args.list.now c.loop-json.json-index c.json-item.result c.in-Some.partition c.loop-json-test.true c.json-item.is read)

pub returns-in_default : goal.returns-in_default
returns-in_default c =
    let read = sym c.in_default.is ∙ c.in_ok-partition.ensures in
    sym (c.loop-json.invariant ∙ joined-stop (partition_of c.args.version) c.loop-json.partitions.items c.args.list.now c.loop-json.json-index c.json-item.result c.loop-json-test.true c.json-item.is read)

pub returns : goal.returns
returns c = ap Some c.new.ensures ∙ sym (c.loop-json.invariant ∙ joined_all (partition_of c.args.version) c.loop-json.partitions.items c.args.list.now c.loop-json.json-index c.loop-json-test.false)
