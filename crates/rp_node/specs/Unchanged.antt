-- A request leaves a node as it was where the reply says so.
use Rattle.std.proofs.Common.{◌≡◌, ◌∙◌, Bool, true, false, List, Option, Some, None, Result, Ok, Err, ap, sym, true≢false}
use Rattle.rp_value.specs.declared.value.Value.{Value}
use Rattle.rp_feed.specs.declared.answer.Taken.{Taken}
use Rattle.rp_feed.specs.declared.answer.Taken.TheVariants.{New, Repeat, Old}
use Rattle.rp_feed.specs.declared.packet.Packet.{Packet}
use Rattle.rp_walker.specs.declared.poll.Poll.{Poll}
use Rattle.rp_walker.specs.declared.poll.Poll.TheVariants.{Item, Idle, Paused}
use Rattle.rp_protocol.specs.declared.reply.Reply.{Reply}
use Rattle.rp_protocol.specs.declared.request.Request.{Request}
use Rattle.rp_protocol.specs.declared.request.Request.TheVariants as request
use Rattle.rp_serve.specs.Changes.{may_change}
use Rattle.rp_node.specs.declared.fault.NodeFault.{NodeFault}
use Rattle.rp_node.specs.declared.fault.NodeFault.TheVariants.{BadRow, NumberRange, PastClose, Conflict, TooFar, CloseDiffers, CloseBelow, UnknownPartition, OutOfMemory}
use Rattle.rp_node.specs.NodeSeen.{NodeSeen}
use Rattle.rp_node.specs.Polling.{NodePolls}
use Rattle.rp_node.specs.Replies.{Does, Takes, packet_reply, poll_reply}

-- whether the node may be another, by the reply if there is one
abbrev may_change_by : Option Reply → Bool
may_change_by None = true
may_change_by (Some reply) = may_change reply

abbrev is_new : Result Taken NodeFault → Bool
is_new (Ok New) = true
is_new (Ok Repeat) = false
is_new (Ok Old) = false
is_new (Err fault) = false

module _ (old new : NodeSeen) where
  by_taken : (packet : Packet) (answer : Result Taken NodeFault) → Takes old packet answer new → may_change_by (packet_reply answer) ≡ false → new ≡ old
  by_taken packet (Ok New) takes says = absurd (true≢false says)
  by_taken packet (Ok Repeat) takes says = takes.unchanged (λ e. true≢false (sym (ap is_new e)))
  by_taken packet (Ok Old) takes says = takes.unchanged (λ e. true≢false (sym (ap is_new e)))
  by_taken packet (Err fault) takes says = takes.unchanged (λ e. true≢false (sym (ap is_new e)))

  by_poll : (key : List Value) (answer : Result Poll NodeFault) → NodePolls old new key answer → may_change_by (poll_reply key answer) ≡ false → new ≡ old
  by_poll key (Ok (Item place item)) polls says = absurd (true≢false says)
  by_poll key (Ok Idle) polls says = absurd (true≢false says)
  by_poll key (Ok Paused) polls says = absurd (true≢false says)
  by_poll key (Err UnknownPartition) polls says = polls.kept
  by_poll key (Err OutOfMemory) polls says = absurd (true≢false says)
  by_poll key (Err (BadRow why)) polls says = absurd polls
  by_poll key (Err NumberRange) polls says = absurd polls
  by_poll key (Err PastClose) polls says = absurd polls
  by_poll key (Err Conflict) polls says = absurd polls
  by_poll key (Err TooFar) polls says = absurd polls
  by_poll key (Err CloseDiffers) polls says = absurd polls
  by_poll key (Err CloseBelow) polls says = absurd polls

pub unchanged : (old : NodeSeen) (asked : Request) (reply : Reply) (new : NodeSeen) → Does old asked (Some reply) new → may_change reply ≡ false → new ≡ old
unchanged old (request.Packet packet) reply new does same =
    by_taken old new packet does.calls.0 does.calls.1 (ap may_change_by does.calls.2 ∙ same)
unchanged old (request.Poll key budget) reply new does same =
    by_poll old new key does.calls.0 does.calls.1 (ap may_change_by does.calls.3 ∙ same)
