-- What was read for the next line, and for a session.
use Rattle.std.proofs.Common.{◌≡◌, ℕ, Bool, true, false, Some, Ok, Err, refl, subst}
use Rattle.std.specs.Io.KnownBytes.{IsAtEnd}
use Rattle.rp_io.specs.Devices.{AsManyBytesAsReads, UsesCalls}
use Rattle.rp_io.specs.Reading.{ReadsSoFar, ReadsStop, line_told}
use Rattle.rp_io.specs.Reading.Told.{Ended}
use Rattle.rp_io.specs.Telling.{EndIsTold, FailureIsCounted}
use Rattle.rp_io.specs.declared.lines.LineFault.{LineFault}
use Rattle.rp_io.specs.declared.lines.LineFault.TheVariants.{Read, TooManyReads, OutOfMemory}
use Rattle.rp_io.specs.State.{IntakeState}
use Rattle.rp_io.proofs.SoFar.{next_ends, next_goes, next_stops, no_reads, part_stops}
use Rattle.rp_serve.specs.Faults.{NextReads, line_fault, reads_told}
use Rattle.rp_serve.specs.declared.fault.ServeFault.TheVariants.{Write}

line_tells : (fault : LineFault) → line_told fault ≡ reads_told (Some (line_fault fault))
line_tells Read = refl
line_tells TooManyReads = refl
line_tells OutOfMemory = refl

module _ (reads left : ℕ) (old new : IntakeState) where
  pub next_came : UsesCalls reads left old.calls new.calls → (b : Bool) → FailureIsCounted (Ok b) old.failures new.failures → EndIsTold (Ok b) old.ended new.ended
      → (b ≡ true → AsManyBytesAsReads reads left old.remaining new.remaining) → (b ≡ false → IsAtEnd new.remaining)
      → NextReads (Ok b) reads left old new
  next_came uses true counted told gives at_end = next_goes reads left old new uses true refl counted told (gives refl)
  next_came uses false counted told gives at_end = next_ends reads left old new uses false refl counted told (at_end refl)

  pub next_failed : UsesCalls reads left old.calls new.calls → (fault : LineFault) → FailureIsCounted (Err fault) old.failures new.failures → EndIsTold (Err fault) old.ended new.ended
      → (fault ≡ TooManyReads → left ≡ 0) → (fault ≡ TooManyReads → AsManyBytesAsReads reads left old.remaining new.remaining)
      → NextReads (Err (line_fault fault)) reads left old new
  next_failed uses fault counted told none gives =
      subst (λ t. ReadsStop t reads left old new) (line_tells fault) (next_stops reads left old new uses fault counted told none gives)

  pub came_more : (b : Bool) → b ≡ true → NextReads (Ok b) reads left old new → ReadsSoFar reads left old new
  came_more true is next = next
  came_more false is next = cc

  pub came_last : (b : Bool) → b ≡ false → NextReads (Ok b) reads left old new → ReadsStop Ended reads left old new
  came_last true is next = cc
  came_last false is next = next

-- nothing was read before a write failed
pub unread : (reads : ℕ) (old : IntakeState) → NextReads (Err Write) reads reads old old
unread reads old =
    part_stops reads reads old old (no_reads reads reads old refl)
