-- What was read, one part after another.
use Rattle.std.proofs.Common.{◌≡◌, ◌∙◌, ℕ, Bool, true, false, Option, Some, None, refl, sym, inl, inr, subst, ◌⊎◌, Result, Ok, Err}
use Rattle.rp_io.specs.Reading.{ReadsSoFar, ReadsStop, ReadsWithin, Told, line_told}
use Rattle.rp_io.specs.Reading.Told.{Ended, NoReadsLeft, Other, ReadFailed}
use Rattle.rp_io.specs.declared.lines.LineFault.{LineFault}
use Rattle.rp_io.specs.declared.lines.LineFault.TheVariants.{Read as LineRead, TooManyReads, OutOfMemory as LineOutOfMemory}
use Rattle.rp_io.proofs.Calls.{UsesCalls-trans}
use Rattle.rp_io.specs.State.{IntakeState}
use Rattle.rp_io.proofs.SoFar.{no_reads, part_stops, reads_all, reads_both, reads_then}
use Rattle.rp_drive.specs.Faults.{IsOfWriting, line_fault, reads_told}
use Rattle.rp_drive.specs.Listening.{HearsBy, cut_by}
use Rattle.rp_drive.specs.declared.fault.DriveFault.{DriveFault}
use Rattle.rp_drive.specs.declared.fault.DriveFault.TheVariants.{Read, Write, BadReply, Refused, Turns, OutOfMemory}

-- nothing was read
pub hears_none : (over : Bool) (reads : ℕ) (old : IntakeState) → HearsBy None over over reads reads old old
hears_none false reads old = (refl, no_reads reads reads old refl)
hears_none true reads old =
    part_stops reads reads old old (no_reads reads reads old refl)

-- ---- faults of one part

module _ (over : Bool) (reads left : ℕ) (old new : IntakeState) where
  -- memory was refused after what was read
  pub hears_cut : (over' : Bool) → HearsBy None over over' reads left old new → ReadsStop Other reads left old new
  hears_cut false heard = part_stops reads left old new heard.1
  hears_cut true heard = heard

  -- a write failed after what was read, or memory was refused
  pub hears_writing : {X : Type 0} (over' : Bool) (r : Result X DriveFault) (why : DriveFault) → r ≡ Err why → IsOfWriting why
      → HearsBy None over over' reads left old new → HearsBy (cut_by r) over over' reads left old new
  hears_writing {X} over' r why is writing heard = subst (λ t. HearsBy (cut_by t) over over' reads left old new) (sym is) (by_fault why writing)
    where
      by_fault : (f : DriveFault) → IsOfWriting f → HearsBy (cut_by {X = X} (Err f)) over over' reads left old new
      by_fault Read w = absurd w
      by_fault Write w = heard
      by_fault BadReply w = absurd w
      by_fault Refused w = absurd w
      by_fault Turns w = absurd w
      by_fault OutOfMemory w = hears_cut over' heard

  -- no line came, by a fault
  pub hears_failed : {X : Type 0} (over' : Bool) (r : Result X DriveFault) (fault : LineFault) → r ≡ Err (line_fault fault) → over ≡ false
      → ReadsStop (line_told fault) reads left old new → HearsBy (cut_by r) over over' reads left old new
  hears_failed {X} over' r fault is off stop = subst (λ t. HearsBy (cut_by t) over over' reads left old new) (sym is) (by_fault fault stop)
    where
      by_fault : (f : LineFault) → ReadsStop (line_told f) reads left old new → HearsBy (cut_by {X = X} (Err (line_fault f))) over over' reads left old new
      by_fault LineRead stop = (off, stop)
      by_fault TooManyReads stop = (off, stop)
      by_fault LineOutOfMemory stop = stop

-- ---- one part after another

module _ (reads left left' : ℕ) (old new later : IntakeState) where
  stops_both : ReadsStop Other reads left old new → ReadsStop Other left left' new later → ReadsStop Other reads left' old later
  stops_both first second = record {
    used = UsesCalls-trans reads left left' old.calls new.calls later.calls first.used second.used;
    failure = second.failure ∙ first.failure;
    end = by_end first.end second.end;
    nothing_left = λ is. cc;
    none_left = λ is. cc;
    gave = λ is. cc;
  }
    where
      by_end : (new.ended ≡ true) ⊎ (new.ended ≡ old.ended) → (later.ended ≡ true) ⊎ (later.ended ≡ new.ended) → (later.ended ≡ true) ⊎ (later.ended ≡ old.ended)
      by_end before (inl told) = inl told
      by_end (inl told) (inr same) = inl (same ∙ told)
      by_end (inr unchanged) (inr same) = inr (same ∙ unchanged)

  module _ (a : Bool) where
    far_then_far : (b : Bool) → HearsBy None a b reads left old new → b ≡ false → ReadsSoFar left left' new later → (a ≡ false) × ReadsSoFar reads left' old later
    far_then_far false first off second = (first.0, reads_both reads left old new first.1 left' later second)
    far_then_far true first off second = cc

    far_then_stop : (told : Told) (b : Bool) → HearsBy None a b reads left old new → b ≡ false → ReadsStop told left left' new later → (a ≡ false) × ReadsStop told reads left' old later
    far_then_stop told false first off second = (first.0, reads_then reads left old new first.1 left' later told second)
    far_then_stop told true first off second = cc

    then_other : (b : Bool) → HearsBy None a b reads left old new → ReadsStop Other left left' new later → ReadsStop Other reads left' old later
    then_other false first second = reads_then reads left old new first.1 left' later Other second
    then_other true first second = stops_both first second

    pub hears_both : (cut : Option Told) (b c : Bool) → HearsBy None a b reads left old new → HearsBy cut b c left left' new later → HearsBy cut a c reads left' old later
    hears_both None b false first second = far_then_far b first second.0 second.1
    hears_both None b true first second = then_other b first second
    hears_both (Some Ended) b c first second = far_then_stop Ended b first second.0 second.1
    hears_both (Some ReadFailed) b c first second = far_then_stop ReadFailed b first second.0 second.1
    hears_both (Some NoReadsLeft) b c first second = far_then_stop NoReadsLeft b first second.0 second.1
    hears_both (Some Other) b c first second = then_other b first second

-- ---- a run

module _ (over : Bool) (reads left : ℕ) (old new : IntakeState) where
  uncut : (over' : Bool) → HearsBy None over over' reads left old new → ReadsWithin reads Other old new
  uncut over' heard = reads_all Other reads left old new (hears_cut over reads left old new over' heard)

  pub hears_all : {X : Type 0} (r : Result X DriveFault) (over' : Bool) → HearsBy (cut_by r) over over' reads left old new
      → ReadsWithin reads (reads_told r) old new
  hears_all (Ok x) over' heard = uncut over' heard
  hears_all (Err Read) over' heard = reads_all ReadFailed reads left old new heard.1
  hears_all (Err Write) over' heard = uncut over' heard
  hears_all (Err BadReply) over' heard = uncut over' heard
  hears_all (Err Refused) over' heard = uncut over' heard
  hears_all (Err Turns) over' heard = reads_all NoReadsLeft reads left old new heard.1
  hears_all (Err OutOfMemory) over' heard = reads_all Other reads left old new heard
