-- What the calls of a reader did, by how the run that made them ended. Each command's run cites it, with how its own result tells
-- the end: own.
use Rattle.std.specs.Prelude.{◌≡◌, ◌⊎◌, ◌≤◌, ℕ, Bool, true, length, IfSome}
use Rattle.std.specs.Io.KnownBytes.{IsAtEnd}
use Rattle.rp_io.specs.Counts.{raised}
use Rattle.rp_io.specs.Devices.{AsManyBytesAsReads, MakesCalls, UsesCalls, after_calls}
use Rattle.rp_io.specs.State.{IntakeState}
use Rattle.rp_io.specs.declared.lines.LineFault.{LineFault}
use Rattle.rp_io.specs.declared.lines.LineFault.TheVariants.{Read, TooManyReads, OutOfMemory}

-- How a run's reads came to their end: the end of the input was read, a read failed, all reads that are allowed were made and another
-- was due, or something else than reading ended the run, as a write that failed or being out of memory.
pub data Told : Type 0 where
  Ended : Told
  ReadFailed : Told
  NoReadsLeft : Told
  Other : Told

-- how a fault of a line tells it
abbrev pub line_told : LineFault → Told
line_told Read = ReadFailed
line_told TooManyReads = NoReadsLeft
line_told OutOfMemory = Other

-- One more read has failed where that is told, and else as many as before.
abbrev pub FailureIsTold : Told → ℕ → ℕ → Type 0
FailureIsTold Ended old new = new ≡ old
FailureIsTold ReadFailed old new = new ≡ raised old
FailureIsTold NoReadsLeft old new = new ≡ old
FailureIsTold Other old new = new ≡ old

-- Whether a read has told the end: yes where the end was read, as before where reading was cut short, and either where the run ended
-- otherwise.
abbrev pub EndOfReadsIsTold : Told → Bool → Bool → Type 0
EndOfReadsIsTold Ended old new = new ≡ true
EndOfReadsIsTold ReadFailed old new = new ≡ old
EndOfReadsIsTold NoReadsLeft old new = new ≡ old
EndOfReadsIsTold Other old new = (new ≡ true) ⊎ (new ≡ old)

-- The reads of a run that was allowed so many, by what is seen of the reader before and after.
pub record ReadsWithin (reads : ℕ) (told : Told) (old new : IntakeState) : Type 0 where
  -- no more reads were made than are allowed
  pub within : MakesCalls 0 reads old.calls new.calls
  -- a failure is counted where it is told, and no other has come
  pub failure : FailureIsTold told old.failures new.failures
  -- the end was told by a read where it is told
  pub end : EndOfReadsIsTold told old.ended new.ended
  -- then nothing is still to come
  pub nothing_left : told ≡ Ended → IsAtEnd new.remaining
  -- no reads are left only after as many as are allowed
  pub all_made : told ≡ NoReadsLeft → new.calls ≡ after_calls reads old.calls
  -- and then each has given a byte at least, where the bytes are known
  pub all_gave : told ≡ NoReadsLeft → IfSome old.remaining (λ input. reads ≤ length input)

-- The reads of a run so far, or of a part of it, after which it goes on: of the reads that are allowed `left` are left, each other has
-- given a byte, where the bytes are known, none has failed, and none has told the end.
pub record ReadsSoFar (reads left : ℕ) (old new : IntakeState) : Type 0 where
  pub used : UsesCalls reads left old.calls new.calls
  pub none_failed : new.failures ≡ old.failures
  pub untold : new.ended ≡ old.ended
  pub gave : AsManyBytesAsReads reads left old.remaining new.remaining

-- The reads of the part of a run that came to this end, after which `left` of the reads that were allowed are left.
pub record ReadsStop (told : Told) (reads left : ℕ) (old new : IntakeState) : Type 0 where
  pub used : UsesCalls reads left old.calls new.calls
  -- a failure is counted where it is told, and no other has come
  pub failure : FailureIsTold told old.failures new.failures
  -- the end was told by a read where it is told
  pub end : EndOfReadsIsTold told old.ended new.ended
  -- then nothing is still to come
  pub nothing_left : told ≡ Ended → IsAtEnd new.remaining
  -- no reads are left where that is told, and each has given a byte at least, where the bytes are known
  pub none_left : told ≡ NoReadsLeft → left ≡ 0
  pub gave : told ≡ NoReadsLeft → AsManyBytesAsReads reads left old.remaining new.remaining
