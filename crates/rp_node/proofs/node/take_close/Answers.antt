use Rattle.std.proofs.Common.{Some}
use Rattle.rp_feed.specs.declared.packet.Packet.TheVariants.{Close as ClosePacket}
use Rattle.rp_node.proofs.Entries.{at_key, no_key}
use Rattle.rp_node.proofs.Nodes.{joined_at, taken_there, taken_new}
use Rattle.rp_node.proofs.node.take_close.Goals as goal

pub take_close_at-requires-clause-joined : goal.take_close_at-requires-clause-joined
take_close_at-requires-clause-joined c = λ p h. joined_at c.args.query.now c.args.partitions.now.entries c.in-Some.place p c.requires.joined h

pub returns-in-Some : goal.returns-in-Some
returns-in-Some c =
    let at = at_key c.as_slice.result.now c.args.key c.args.partitions.now.entries (Some c.in-Some.place) c.as_slice.ensures.value c.in-Some.ensures.index in
    record { takes = taken_there c.law_same_rows.ensures c.law_keys.ensures c.args.query.now (ClosePacket c.args.key.items c.args.count) c.args.key c.args.partitions.now.entries c.take_close_at.new.partitions.entries c.in-Some.place c.take_close_at.result c.requires.joined at (c.take_close_at.ensures.takes c.args.key.items) }

pub returns-in-None : goal.returns-in-None
returns-in-None c =
    let none = no_key c.as_slice.result.now c.args.key c.args.partitions.now.entries c.as_slice.ensures.value c.in-None.ensures.found in
    record { takes = taken_new c.law_same_rows.ensures c.law_keys.ensures c.args.query.now (ClosePacket c.args.key.items c.args.count) c.args.key c.args.partitions.now.entries c.add_close.new.partitions.entries c.add_close.result c.requires.joined none c.add_close.ensures.added }
