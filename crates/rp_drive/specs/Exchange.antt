-- What goes between a source and a node, by the packets that are to be sent and the replies that come.
use Rattle.std.specs.Prelude.{ℕ, List, [], ◌∷◌, ◌++◌, Option, Some}
use Rattle.rp_value.specs.declared.value.Value.{Value}
use Rattle.rp_query.specs.declared.query.QueryData.{QueryData}
use Rattle.rp_feed.specs.declared.packet.Packet.{Packet}
use Rattle.rp_protocol.specs.declared.refusal.Refusal.{Refusal}
use Rattle.rp_protocol.specs.declared.reply.Reply.{Reply}
use Rattle.rp_protocol.specs.declared.reply.Reply.TheVariants.{Taken, Item, Idle, Paused, Refused}
use Rattle.rp_drive.specs.Keys.{packet_key}
use Rattle.rp_protocol.specs.declared.request.Request.{Request}
use Rattle.rp_protocol.specs.declared.request.Request.TheVariants as request

-- How it ends: all packets were taken and their partitions polled until idle; a reply is this refusal; or a reply can't stand where it
-- stands, a line is none, or there is none.
pub data Ending : Type 0 where
  Finished : Ending
  WasRefused : Refusal → Ending
  WasBad : Ending

-- the requests that are sent, the replies that give items, and the end
pub record Exchange : Type 0 where
  pub asked : List Request
  pub given : List Reply
  pub ending : Ending

abbrev pub ended : Ending → Exchange
ended ending = record { asked = []; given = []; ending = ending }

-- what went before, and then this
abbrev pub onto : List Request → List Reply → Exchange → Exchange
onto asked given exchange = record { asked = asked ++ exchange.asked; given = given ++ exchange.given; ending = exchange.ending }

-- A line is a reply or none. To a packet's line the reply is that it was taken, which is followed by what comes next.
abbrev pub after_packet : Option Reply → Exchange → Exchange
after_packet (Some (Taken taken)) next = next
after_packet (Some (Refused why)) next = ended (WasRefused why)
after_packet _ next = ended WasBad

-- To a poll's line the reply is an item or that the poll was paused, which are followed by a further poll, or that the partition is
-- idle, which is followed by what comes next.
abbrev pub after_poll : Option Reply → Exchange → Exchange → Exchange
after_poll (Some (Item key place item)) again next = onto [] (Item key place item ∷ []) again
after_poll (Some (Paused key)) again next = again
after_poll (Some (Idle key)) again next = next
after_poll (Some (Refused why)) again next = ended (WasRefused why)
after_poll _ again next = ended WasBad

-- what is to be sent: these packets; or a poll of this key, and then these packets
pub data Due : Type 0 where
  Packets : List Packet → Due
  Poll : List Value → List Packet → Due

-- what goes between them by these replies, where polls have this budget
abbrev pub exchange : QueryData → ℕ → Due → List (Option Reply) → Exchange
exchange q budget (Packets []) replies = ended Finished
exchange q budget (Packets (p ∷ ps)) [] = onto (request.Packet p ∷ []) [] (ended WasBad)
exchange q budget (Packets (p ∷ ps)) (r ∷ rs) = onto (request.Packet p ∷ []) [] (after_packet r (exchange q budget (Poll (packet_key q p) ps) rs))
exchange q budget (Poll key ps) [] = onto (request.Poll key budget ∷ []) [] (ended WasBad)
exchange q budget (Poll key ps) (r ∷ rs) =
    onto (request.Poll key budget ∷ []) [] (after_poll r (exchange q budget (Poll key ps) rs) (exchange q budget (Packets ps) rs))
