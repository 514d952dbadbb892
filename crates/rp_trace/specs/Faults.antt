-- Which fault of a run comes of which fault of a line, and what a run tells of its reads.
use Rattle.std.specs.Prelude.{◌≡◌, ℕ, Result, Ok, Err}
use Rattle.rp_io.specs.Counts.{raised}
use Rattle.rp_io.specs.Reading.{Told}
use Rattle.rp_io.specs.Reading.Told.{Ended, NoReadsLeft, Other, ReadFailed}
use Rattle.rp_io.specs.declared.lines.LineFault.{LineFault}
use Rattle.rp_io.specs.declared.lines.LineFault.TheVariants.{Read as LineRead, TooManyReads, OutOfMemory as LineOutOfMemory}
use Rattle.rp_trace.specs.declared.trace.TraceFault.{TraceFault}
use Rattle.rp_trace.specs.declared.trace.TraceFault.TheVariants.{Read, Write, Turns, OutOfMemory}

-- the fault of a run of trace for one of a line
abbrev pub trace_fault : LineFault → TraceFault
trace_fault LineRead = Read
trace_fault TooManyReads = Turns
trace_fault LineOutOfMemory = OutOfMemory

-- what a fault of a run tells of its reads
abbrev pub fault_told : TraceFault → Told
fault_told Read = ReadFailed
fault_told Write = Other
fault_told Turns = NoReadsLeft
fault_told OutOfMemory = Other

-- what a run tells of its reads
abbrev pub run_told : {X : Type 0} → Result X TraceFault → Told
run_told (Ok done) = Ended
run_told (Err fault) = fault_told fault

-- how many writes have failed, before and after a run: one more where the fault is Write, and else as many
abbrev pub TellsWrite : {X : Type 0} → Result X TraceFault → ℕ → ℕ → Type 0
TellsWrite (Err Write) old new = new ≡ raised old
TellsWrite _ old new = new ≡ old
