use Rattle.std.proofs.Common.{Some}
use Rattle.rp_feed.specs.declared.packet.Packet.TheVariants.{Row as RowPacket}
use Rattle.rp_node.proofs.Entries.{at_key, no_key}
use Rattle.rp_node.proofs.Nodes.{joined_at, taken_there, taken_new}
use Rattle.rp_node.proofs.node.take_row.Goals as goal

pub take_row_at-requires-clause-joined : goal.take_row_at-requires-clause-joined
take_row_at-requires-clause-joined c = λ p h. joined_at c.args.query.now c.args.partitions.now.entries c.in-Some.place p c.requires.joined h

pub returns-in-Some : goal.returns-in-Some
returns-in-Some c =
    let at = at_key c.as_slice.result.now c.args.key c.args.partitions.now.entries (Some c.in-Some.place) c.as_slice.ensures.value c.in-Some.ensures.index in
    record { takes = taken_there c.law_same_rows.ensures c.law_keys.ensures c.args.query.now (RowPacket c.args.number c.args.row) c.args.key c.args.partitions.now.entries c.take_row_at.new.partitions.entries c.in-Some.place c.take_row_at.result c.requires.joined at c.take_row_at.ensures.takes }

pub returns-in-None : goal.returns-in-None
returns-in-None c =
    let none = no_key c.as_slice.result.now c.args.key c.args.partitions.now.entries c.as_slice.ensures.value c.in-None.ensures.found in
    record { takes = taken_new c.law_same_rows.ensures c.law_keys.ensures c.args.query.now (RowPacket c.args.number c.args.row) c.args.key c.args.partitions.now.entries c.add_row.new.partitions.entries c.add_row.result c.requires.joined none c.add_row.ensures.added }
