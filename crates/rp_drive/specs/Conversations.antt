-- What a conversation came to: of its packets, by the replies of at most so many bytes that the reader was still to give,
-- and by what the writer of requests and the one of items held before and hold after. `Exchanged` says each of what is due.
use Rattle.std.specs.Prelude.{ℕ, List, ◌∷◌, Option}
use Rattle.rp_feed.specs.declared.packet.Packet.{Packet}
use Rattle.rp_protocol.specs.declared.refusal.Refusal.{Refusal}
use Rattle.rp_io.specs.State.{IntakeState}
use Rattle.rp_drive.specs.Exchange.{Due, Finished, Packets}
use Rattle.rp_drive.specs.Exchanged.{Ends, EndsInPart, GoesOn, Stops, StopsAt, StopsBy}
use Rattle.rp_drive.specs.Lines.{replies_within}
use Rattle.rp_drive.specs.Listening.{replies_left}
use Rattle.rp_drive.specs.declared.conversation.Conversation.{Conversation}
use Rattle.rp_drive.specs.declared.fault.DriveFault.{DriveFault}
use Rattle.rp_drive.specs.declared.replies.Replies.{Replies}

-- All packets were taken, and their partitions polled until idle.
abbrev pub HandsAll : Conversation → ℕ → IntakeState → (w w' o o' : Option (List ℕ)) → Type 0
HandsAll c limit reader w w' o o' =
    Ends c.query.now c.budget c.node_number Finished (Packets c.packets.now)
    (replies_within limit reader.remaining) w w' o o'

-- It stopped by this fault,
abbrev pub IsStopped : Conversation → DriveFault → ℕ → IntakeState → (w w' o o' : Option (List ℕ)) → Type 0
IsStopped c fault limit reader w w' o o' =
    Stops c.query.now c.budget c.node_number fault (Packets c.packets.now)
    (replies_within limit reader.remaining) w w' o o'

-- with what was refused,
abbrev pub IsStoppedBy : Conversation → Option Refusal → DriveFault → ℕ → IntakeState
    → (w w' o o' : Option (List ℕ)) → Type 0
IsStoppedBy c refusal fault limit reader w w' o o' =
    StopsBy c.query.now c.budget c.node_number refusal fault (Packets c.packets.now)
    (replies_within limit reader.remaining) w w' o o'

-- at the packet of this place.
abbrev pub IsStoppedAt : Conversation → ℕ → Option Refusal → DriveFault → ℕ → IntakeState
    → (w w' o o' : Option (List ℕ)) → Type 0
IsStoppedAt c place refusal fault limit reader w w' o o' =
    StopsAt c.query.now c.budget c.node_number place refusal fault c.packets.now
    (replies_within limit reader.remaining) w w' o o'

-- A front of its requests and one of its items were written.
abbrev pub HandsInPart : Conversation → ℕ → IntakeState → (w w' o o' : Option (List ℕ)) → Type 0
HandsInPart c limit reader w w' o o' =
    EndsInPart c.query.now c.budget c.node_number (Packets c.packets.now)
    (replies_within limit reader.remaining) w w' o o'

-- ---- within a conversation, whatever packets follow

-- What was due took place as far as what is due now, by the replies that came in between.
abbrev pub Passes : Conversation → (due now : List Packet → Due) → Replies → IntakeState → Replies → IntakeState
    → (w w' o o' : Option (List ℕ)) → Type 0
Passes c due now replies reader replies' reader' w w' o o' = (rest : List Packet) →
    GoesOn c.query.now c.budget c.node_number (due rest) (now rest)
    (replies_left replies reader) (replies_left replies' reader') w w' o o'

-- It stopped by this fault, with what was refused.
abbrev pub Halts : Conversation → (List Packet → Due) → Option Refusal → DriveFault → Replies → IntakeState
    → (w w' o o' : Option (List ℕ)) → Type 0
Halts c due refusal fault replies reader w w' o o' = (rest : List Packet) →
    StopsBy c.query.now c.budget c.node_number refusal fault (due rest) (replies_left replies reader) w w' o o'

-- this packet, and then those that follow
abbrev pub with_packet : Packet → List Packet → Due
with_packet packet rest = Packets (packet ∷ rest)
