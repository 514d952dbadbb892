-- What a request does to a node, and what is replied.
use Rattle.std.specs.Prelude.{◌≡◌, ◌≢◌, List, Option, Some, None, Result, Ok, Err, option_map}
use Rattle.rp_value.specs.declared.row.RowFault.TheVariants as row
use Rattle.rp_value.specs.declared.value.Value.{Value}
use Rattle.rp_feed.specs.declared.answer.Taken.{Taken}
use Rattle.rp_feed.specs.declared.answer.Taken.TheVariants.{New}
use Rattle.rp_feed.specs.declared.packet.Packet.{Packet}
use Rattle.rp_walker.specs.declared.poll.Poll.{Poll}
use Rattle.rp_walker.specs.declared.poll.Poll.TheVariants as poll
use Rattle.rp_protocol.specs.declared.refusal.Refusal.{Refusal}
use Rattle.rp_protocol.specs.declared.refusal.Refusal.TheVariants as refusal
use Rattle.rp_protocol.specs.declared.reply.Reply.{Reply}
use Rattle.rp_protocol.specs.declared.reply.Reply.TheVariants as reply
use Rattle.rp_protocol.specs.declared.request.Request.{Request}
use Rattle.rp_protocol.specs.declared.request.Request.TheVariants as request
use Rattle.rp_node.specs.declared.fault.NodeFault.{NodeFault}
use Rattle.rp_node.specs.declared.fault.NodeFault.TheVariants as node
use Rattle.rp_node.specs.NodeSeen.{NodeSeen, AllBounded}
use Rattle.rp_node.specs.Accepting.{Accepted, IsAnswered}
use Rattle.rp_node.specs.Polling.{GoesByBudget, NodePolls}

-- ---- replies

-- why a call is refused, as it is replied; being out of memory has no reply
abbrev pub refusal_of : NodeFault → Option Refusal
refusal_of (node.BadRow row.Width) = Some refusal.BadRowWidth
refusal_of (node.BadRow (row.Kind column)) = Some (refusal.BadRowKind column)
refusal_of (node.BadRow row.OutOfMemory) = None
refusal_of node.NumberRange = Some refusal.NumberRange
refusal_of node.PastClose = Some refusal.PastClose
refusal_of node.Conflict = Some refusal.Conflict
refusal_of node.TooFar = Some refusal.TooFar
refusal_of node.CloseDiffers = Some refusal.CloseDiffers
refusal_of node.CloseBelow = Some refusal.CloseBelow
refusal_of node.UnknownPartition = Some refusal.UnknownPartition
refusal_of node.OutOfMemory = None

abbrev pub fault_reply : NodeFault → Option Reply
fault_reply fault = option_map reply.Refused (refusal_of fault)

-- the reply to a packet, by the node's answer
abbrev pub packet_reply : Result Taken NodeFault → Option Reply
packet_reply (Ok taken) = Some (reply.Taken taken)
packet_reply (Err fault) = fault_reply fault

-- the reply to a poll of a key, by the node's answer
abbrev pub poll_reply : List Value → Result Poll NodeFault → Option Reply
poll_reply key (Ok (poll.Item place item)) = Some (reply.Item key place item)
poll_reply key (Ok poll.Idle) = Some (reply.Idle key)
poll_reply key (Ok poll.Paused) = Some (reply.Paused key)
poll_reply key (Err fault) = fault_reply fault

-- ---- what requests do

-- The node answered a packet. One that isn't New changes nothing.
pub record Takes (old : NodeSeen) (packet : Packet) (answer : Result Taken NodeFault) (new : NodeSeen) : Type 0 where
  pub answered : IsAnswered old packet answer
  pub taken : answer ≡ Ok New → Accepted old packet new
  pub unchanged : answer ≢ Ok New → new ≡ old

-- The request's call was answered, a poll by its budget, and this is the reply to that, if it has one.
abbrev pub Calls : NodeSeen → Request → Option Reply → NodeSeen → Type 0
Calls old (request.Packet packet) reply new =
    (answer : Result Taken NodeFault) × Takes old packet answer new × (packet_reply answer ≡ reply)
Calls old (request.Poll key budget) reply new =
    (answer : Result Poll NodeFault) × NodePolls old new key answer × GoesByBudget budget old new key answer
    × (poll_reply key answer ≡ reply)

-- A request does what its call does, the query stays, and each record is bounded.
pub record Does (old : NodeSeen) (asked : Request) (reply : Option Reply) (new : NodeSeen) : Type 0 where
  pub query : new.query ≡ old.query
  pub bounded : AllBounded new
  pub calls : Calls old asked reply new
