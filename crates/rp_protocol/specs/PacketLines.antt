-- The lines of packets and polls, without their line feeds.
use Rattle.std.specs.Prelude.{ℕ, List, ◌++◌, codes, decimal}
use Rattle.rp_value.specs.declared.value.Value.{Value}
use Rattle.rp_feed.specs.declared.packet.Packet.{Packet}
use Rattle.rp_feed.specs.declared.packet.Packet.TheVariants.{Row, Close}
use Rattle.rp_protocol.specs.ReplyLines.{values_text}

-- {"cells":[..],"row":N}    {"close":N,"key":[..]}
abbrev pub packet_text : Packet → List ℕ
packet_text (Row n cells) = codes "{\"cells\":" ++ (values_text cells ++ (codes ",\"row\":" ++ (decimal n ++ codes "}")))
packet_text (Close key count) = codes "{\"close\":" ++ (decimal count ++ (codes ",\"key\":" ++ (values_text key ++ codes "}")))

-- {"budget":N,"poll":[..]}
abbrev pub poll_text : List Value → ℕ → List ℕ
poll_text key budget = codes "{\"budget\":" ++ (decimal budget ++ (codes ",\"poll\":" ++ (values_text key ++ codes "}")))
