-- The key of the partition that a packet is of.
use Rattle.std.specs.Prelude.{List}
use Rattle.rp_feed.specs.declared.packet.Packet.{Packet}
use Rattle.rp_feed.specs.declared.packet.Packet.TheVariants as packet
use Rattle.rp_query.specs.Keys.{key_of}
use Rattle.rp_query.specs.declared.query.QueryData.{QueryData}
use Rattle.rp_value.specs.declared.value.Value.{Value}

-- the key of a packet: of a row, or the one that a close names
abbrev pub packet_key : QueryData → Packet → List Value
packet_key q (packet.Row n cells) = key_of q cells
packet_key q (packet.Close key count) = key
