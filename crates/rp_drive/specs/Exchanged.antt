-- What of an exchange took place. Where the bytes of an input aren't known, some replies came; where those written aren't known, some
-- were written.
use Rattle.std.specs.Prelude.{◌≡◌, ⊤, ℕ, List, [], ◌∷◌, ◌++◌, drop, Option, Some, None, IfSome}
use Rattle.std.specs.Io.KnownBytes.{Appends}
use Rattle.rp_query.specs.declared.query.QueryData.{QueryData}
use Rattle.rp_protocol.specs.declared.refusal.Refusal.{Refusal}
use Rattle.rp_protocol.specs.declared.reply.Reply.{Reply}
use Rattle.rp_feed.specs.declared.packet.Packet.{Packet}
use Rattle.rp_io.specs.Devices.{AppendsFront}
use Rattle.rp_protocol.specs.declared.request.Request.{Request}
use Rattle.rp_drive.specs.Lines.{item_lines, request_lines}
use Rattle.rp_drive.specs.Exchange.{Due, Ending, Packets, WasBad, WasRefused, onto, exchange}
use Rattle.rp_drive.specs.declared.fault.DriveFault.{DriveFault}
use Rattle.rp_drive.specs.declared.fault.DriveFault.TheVariants.{Read, Write, BadReply, Refused, Turns, OutOfMemory}

-- the replies of an input, a line each: Some reply, or None where the line is none; where the bytes aren't known, neither are they
abbrev pub KnownReplies : Type 0
KnownReplies = Option (List (Option Reply))

-- From what is due on, by the replies to come, the exchange took place to this end: all its requests and items were written.
pub record Ends (q : QueryData) (budget number : ℕ) (ending : Ending) (due : Due) (left : KnownReplies) (w w' o o' : Option (List ℕ)) : Type 0 where
  pub replies : List (Option Reply)
  pub are : IfSome left (λ all. all ≡ replies)
  pub ends : (exchange q budget due replies).ending ≡ ending
  pub asked : Appends w w' (request_lines (exchange q budget due replies).asked)
  pub given : Appends o o' (item_lines number (exchange q budget due replies).given)

-- A front of its requests and one of its items were written.
pub record EndsInPart (q : QueryData) (budget number : ℕ) (due : Due) (left : KnownReplies) (w w' o o' : Option (List ℕ)) : Type 0 where
  pub replies : List (Option Reply)
  pub are : IfSome left (λ all. all ≡ replies)
  pub asked : AppendsFront w w' (request_lines (exchange q budget due replies).asked)
  pub given : AppendsFront o o' (item_lines number (exchange q budget due replies).given)

-- The replies that came were followed by a request whose reply didn't come: all requests up to that one, and all items of the replies that
-- came, were written.
pub record EndsUnheard (q : QueryData) (budget number : ℕ) (due : Due) (left : KnownReplies) (w w' o o' : Option (List ℕ)) : Type 0 where
  pub came : List (Option Reply)
  pub are : IfSome left (λ all. (later : List (Option Reply)) × (all ≡ came ++ later))
  pub asked : Appends w w' (request_lines (exchange q budget due came).asked)
  pub given : Appends o o' (item_lines number (exchange q budget due came).given)

-- these replies came, and the others are left
abbrev pub ComeFirst : KnownReplies → KnownReplies → List (Option Reply) → Type 0
ComeFirst None left came = ⊤
ComeFirst (Some all) None came = ⊥
ComeFirst (Some all) (Some left) came = all ≡ came ++ left

-- What was due took place as far as what is due now, by the replies that came.
pub record GoesOn (q : QueryData) (budget number : ℕ) (due now : Due) (all left : KnownReplies) (w w' o o' : Option (List ℕ)) : Type 0 where
  pub came : List (Option Reply)
  pub come : ComeFirst all left came
  pub asked : List Request
  pub given : List Reply
  pub follow : (later : List (Option Reply)) → exchange q budget due (came ++ later) ≡ onto asked given (exchange q budget now later)
  pub sent : Appends w w' (request_lines asked)
  pub told : Appends o o' (item_lines number given)

-- What a fault says of what was due, with what was refused. It took place to its end where a reply is a refusal or a bad one. Where a read
-- failed or is one too many, no item of a reply that came is missing; where a write failed or memory was refused, a front was written.
abbrev pub StopsBy : QueryData → ℕ → ℕ → Option Refusal → DriveFault → Due → KnownReplies → Option (List ℕ) → Option (List ℕ) → Option (List ℕ) → Option (List ℕ) → Type 0
StopsBy q budget number refusal BadReply due left w w' o o' = Ends q budget number WasBad due left w w' o o'
StopsBy q budget number refusal Refused due left w w' o o' = (why : Refusal) × (refusal ≡ Some why) × Ends q budget number (WasRefused why) due left w w' o o'
StopsBy q budget number refusal Read due left w w' o o' = EndsUnheard q budget number due left w w' o o'
StopsBy q budget number refusal Turns due left w w' o o' = EndsUnheard q budget number due left w w' o o'
StopsBy q budget number refusal Write due left w w' o o' = EndsInPart q budget number due left w w' o o'
StopsBy q budget number refusal OutOfMemory due left w w' o o' = EndsInPart q budget number due left w w' o o'

-- The same, whatever was refused.
abbrev pub Stops : QueryData → ℕ → ℕ → DriveFault → Due → KnownReplies → Option (List ℕ) → Option (List ℕ) → Option (List ℕ) → Option (List ℕ) → Type 0
Stops q budget number fault due left w w' o o' = (refusal : Option Refusal) × StopsBy q budget number refusal fault due left w w' o o'

-- What went before the packet at this place took place: the packets before it were taken and their partitions polled until idle. What is
-- due for that packet alone stopped then, by this fault.
pub record StopsAt (q : QueryData) (budget number : ℕ) (place : ℕ) (refusal : Option Refusal) (fault : DriveFault) (packets : List Packet) (left : KnownReplies) (w w' o o' : Option (List ℕ)) : Type 0 where
  pub packet : Packet
  pub later : List Packet
  pub at : drop place packets ≡ packet ∷ later
  pub mid : KnownReplies
  pub sent : Option (List ℕ)
  pub told : Option (List ℕ)
  pub before : GoesOn q budget number (Packets packets) (Packets (packet ∷ later)) left mid w sent o told
  pub stops : StopsBy q budget number refusal fault (Packets (packet ∷ [])) mid sent w' told o'

-- What a fault that comes before the reply says of the line that was sent.
abbrev pub SendsLine : DriveFault → Option (List ℕ) → Option (List ℕ) → List ℕ → Type 0
SendsLine BadReply w w' line = ⊥
SendsLine Refused w w' line = ⊥
SendsLine Read w w' line = Appends w w' line
SendsLine Turns w w' line = Appends w w' line
SendsLine Write w w' line = AppendsFront w w' line
SendsLine OutOfMemory w w' line = AppendsFront w w' line
