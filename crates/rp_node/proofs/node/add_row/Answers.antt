use Rattle.rp_feed.specs.declared.packet.Packet.TheVariants.{Row as RowPacket}
use Rattle.rp_node.proofs.Nodes.{added_no_memory, added_ok}
use Rattle.rp_node.proofs.node.add_row.Goals as goal

pub returns-in-Ok : goal.returns-in-Ok
returns-in-Ok c = record {
  added = added_ok c.args.query.now (RowPacket c.args.number c.args.row) c.args.partitions.now.entries c.args.key c.new-partition.result c.take.new.self c.new-partition.ensures.held
      c.insert.new.self.entries c.in_ok-taken.taken (c.new-partition.ensures.entered c.args.query.now) (c.new-partition.ensures.no_search c.args.query.now) c.in_ok-taken.ensures.taken c.in-Ok.ensures.entries;
}

pub returns : goal.returns
returns c = record {
  added = added_no_memory c.args.query.now (RowPacket c.args.number c.args.row) c.args.partitions.now.entries c.args.key c.new-partition.result c.take.new.self c.new-partition.ensures.held
      c.insert.new.self.entries c.in_ok-taken.taken c.in_ok-taken.ensures.taken c.in-Err.ensures.err;
}
