-- What a fault says of the devices.
use Rattle.std.specs.Prelude.{◌≡◌, ℕ, Bool, true, false, Option, Some, None, Result, Ok, Err}
use Rattle.rp_io.specs.Counts.{raised}
use Rattle.rp_io.specs.Reading.{ReadsSoFar, ReadsStop, Told}
use Rattle.rp_io.specs.Reading.Told.{Ended, NoReadsLeft, Other, ReadFailed}
use Rattle.rp_io.specs.State.{IntakeState}
use Rattle.rp_io.specs.declared.lines.LineFault.{LineFault}
use Rattle.rp_io.specs.declared.lines.LineFault.TheVariants.{Read as LineRead, TooManyReads, OutOfMemory as LineOutOfMemory}
use Rattle.rp_serve.specs.declared.fault.ServeFault.{ServeFault}
use Rattle.rp_serve.specs.declared.fault.ServeFault.TheVariants.{Read, Write, Turns, OutOfMemory}

-- the fault of a session for one of a line
abbrev pub line_fault : LineFault → ServeFault
line_fault LineRead = Read
line_fault TooManyReads = Turns
line_fault LineOutOfMemory = OutOfMemory

-- the fault of a session, if it had one
abbrev pub fault_of : {X : Type 0} → Result X ServeFault → Option ServeFault
fault_of (Ok done) = None
fault_of (Err fault) = Some fault

-- What a session tells of its reads: without a fault the input has ended.
abbrev pub reads_told : Option ServeFault → Told
reads_told None = Ended
reads_told (Some Read) = ReadFailed
reads_told (Some Write) = Other
reads_told (Some Turns) = NoReadsLeft
reads_told (Some OutOfMemory) = Other

-- One more write has failed where that is the fault, and else none.
abbrev pub TellsWrite : Option ServeFault → ℕ → ℕ → Type 0
TellsWrite (Some Write) old new = new ≡ raised old
TellsWrite _ old new = new ≡ old

-- What was read for the next line: the session goes on after one with a line feed, the input has ended where it has none, and the
-- session stops by a fault.
abbrev pub NextReads : Result Bool ServeFault → ℕ → ℕ → IntakeState → IntakeState → Type 0
NextReads (Ok true) reads left old new = ReadsSoFar reads left old new
NextReads (Ok false) reads left old new = ReadsStop Ended reads left old new
NextReads (Err fault) reads left old new = ReadsStop (reads_told (Some fault)) reads left old new
