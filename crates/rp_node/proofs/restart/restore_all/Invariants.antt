use Rattle.std.proofs.Common.{◌≡◌, [], drop}
use Rattle.rp_partition.specs.Joined.{held_of}
use Rattle.rp_node.specs.NodeSeen.{AllJoined, entries_by}
use Rattle.rp_node.specs.Restarting.{records_from}
use Rattle.rp_node.proofs.restart.restore_all.Given as goal

abbrev pub invariant-loop-one : goal.invariant-loop-one
invariant-loop-one l = record {
  joined : AllJoined l.query l.partitions.entries;
  so_far : records_from l.query [] l.kept ≡ records_from l.query (entries_by held_of l.partitions.entries) (drop l.one-index l.kept);
}
