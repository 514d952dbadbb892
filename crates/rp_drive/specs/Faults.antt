-- What a fault says of the devices.
use Rattle.std.specs.Prelude.{◌≡◌, ◌⊎◌, ⊤, ℕ, Option, Some, None, Result, Ok, Err}
use Rattle.rp_protocol.specs.declared.reply.Reply.{Reply}
use Rattle.rp_protocol.specs.declared.reply.Reply.TheVariants.{Taken, Refused as RefusedReply}
use Rattle.rp_io.specs.Counts.{raised}
use Rattle.rp_io.specs.Reading.{Told}
use Rattle.rp_io.specs.Reading.Told.{NoReadsLeft, Other, ReadFailed}
use Rattle.rp_io.specs.declared.lines.LineFault.{LineFault}
use Rattle.rp_io.specs.declared.lines.LineFault.TheVariants.{Read as LineRead, TooManyReads, OutOfMemory as LineOutOfMemory}
use Rattle.rp_drive.specs.declared.fault.DriveFault.{DriveFault}
use Rattle.rp_drive.specs.declared.fault.DriveFault.TheVariants.{Read, Write, BadReply, Refused, Turns, OutOfMemory}
use Rattle.rp_drive.specs.declared.fault.Stop.{Stop}

-- the fault of a conversation for one of a line
abbrev pub line_fault : LineFault → DriveFault
line_fault LineRead = Read
line_fault TooManyReads = Turns
line_fault LineOutOfMemory = OutOfMemory

-- how a run ended, by the fault alone
abbrev pub by_fault : {X : Type 0} → Result X Stop → Result X DriveFault
by_fault (Ok x) = Ok x
by_fault (Err stop) = Err stop.fault

-- What a run tells of its reads. It ends without a fault once the last partition is idle, whether or not the input has ended.
abbrev pub reads_told : {X : Type 0} → Result X DriveFault → Told
reads_told (Err Read) = ReadFailed
reads_told (Err Turns) = NoReadsLeft
reads_told _ = Other

-- One more write has failed, of the one writer or of the other, where that is the fault, and else none.
abbrev pub TellsWrites : {X : Type 0} → Result X DriveFault → ℕ → ℕ → ℕ → ℕ → Type 0
TellsWrites (Err Write) w w' o o' = ((w' ≡ raised w) × (o' ≡ o)) ⊎ ((w' ≡ w) × (o' ≡ raised o))
TellsWrites _ w w' o o' = (w' ≡ w) × (o' ≡ o)

-- a fault of reading, or out of memory
abbrev pub IsOfReading : DriveFault → Type 0
IsOfReading Read = ⊤
IsOfReading Turns = ⊤
IsOfReading OutOfMemory = ⊤
IsOfReading _ = ⊥

-- the same of one writer
abbrev pub TellsWrite : {X : Type 0} → Result X DriveFault → ℕ → ℕ → Type 0
TellsWrite (Err Write) old new = new ≡ raised old
TellsWrite _ old new = new ≡ old

-- a fault of writing, or out of memory
abbrev pub IsOfWriting : DriveFault → Type 0
IsOfWriting Write = ⊤
IsOfWriting OutOfMemory = ⊤
IsOfWriting _ = ⊥

-- the fault that a reply to a packet's line is
abbrev pub packet_fault : Option Reply → Option DriveFault
packet_fault (Some (Taken taken)) = None
packet_fault (Some (RefusedReply why)) = Some Refused
packet_fault _ = Some BadReply
