-- What the reads of a run did so far, what the next line adds to that, and what they did in all.
use Rattle.std.proofs.Common.{◌≡◌, ◌∙◌, ℕ, Bool, true, false, Ok, Err, refl, inl, inr, subst}
use Rattle.std.specs.Io.KnownBytes.{IsAtEnd}
use Rattle.rp_io.specs.Devices.{AsManyBytesAsReads, UsesCalls}
use Rattle.rp_io.specs.Reading.{EndOfReadsIsTold, FailureIsTold, ReadsSoFar, ReadsStop, ReadsWithin, Told, line_told}
use Rattle.rp_io.specs.Reading.Told.{Ended, Other}
use Rattle.rp_io.specs.State.{IntakeState}
use Rattle.rp_io.specs.Telling.{EndIsTold, FailureIsCounted}
use Rattle.rp_io.specs.declared.lines.LineFault.{LineFault}
use Rattle.rp_io.specs.declared.lines.LineFault.TheVariants.{Read, TooManyReads, OutOfMemory}
use Rattle.rp_io.proofs.Calls.{UsesCalls-at_most, UsesCalls-none, UsesCalls-trans, UsesCalls-used}
use Rattle.rp_io.proofs.Giving.{AsManyBytesAsReads-all, AsManyBytesAsReads-start, AsManyBytesAsReads-trans}

pub no_reads : (reads left : ℕ) (old : IntakeState) → left ≡ reads → ReadsSoFar reads left old old
no_reads reads left old same = record {
  used = UsesCalls-none reads left old.calls old.calls same refl;
  none_failed = refl;
  untold = refl;
  gave = rw same (AsManyBytesAsReads-start reads old.remaining);
}

-- ---- one line

module _ (reads left : ℕ) (old new : IntakeState) (uses : UsesCalls reads left old.calls new.calls) where
  -- a line with its line feed came
  pub next_goes : (b : Bool) → b ≡ true → FailureIsCounted (Ok b) old.failures new.failures → EndIsTold (Ok b) old.ended new.ended → AsManyBytesAsReads reads left old.remaining new.remaining
      → ReadsSoFar reads left old new
  next_goes true is counted told gives = record { used = uses; none_failed = counted; untold = told; gave = gives }
  next_goes false is counted told gives = cc

  -- the input ended
  pub next_ends : (b : Bool) → b ≡ false → FailureIsCounted (Ok b) old.failures new.failures → EndIsTold (Ok b) old.ended new.ended → IsAtEnd new.remaining
      → ReadsStop Ended reads left old new
  next_ends true is counted told at_end = cc
  next_ends false is counted told at_end = record { used = uses; failure = counted; end = told; nothing_left = λ is. at_end; none_left = λ is. cc; gave = λ is. cc }

  -- a fault came
  pub next_stops : (fault : LineFault) → FailureIsCounted (Err fault) old.failures new.failures → EndIsTold (Err fault) old.ended new.ended
      → (fault ≡ TooManyReads → left ≡ 0) → (fault ≡ TooManyReads → AsManyBytesAsReads reads left old.remaining new.remaining)
      → ReadsStop (line_told fault) reads left old new
  next_stops Read counted told none gives = record { used = uses; failure = counted; end = told; nothing_left = λ is. cc; none_left = λ is. cc; gave = λ is. cc }
  next_stops TooManyReads counted told none gives =
      record { used = uses; failure = counted; end = told; nothing_left = λ is. cc; none_left = λ is. none refl; gave = λ is. gives refl }
  next_stops OutOfMemory counted told none gives = record { used = uses; failure = counted; end = inr told; nothing_left = λ is. cc; none_left = λ is. cc; gave = λ is. cc }

-- ---- one part after another

module _ (reads left : ℕ) (old new : IntakeState) (far : ReadsSoFar reads left old new) where
  -- it comes to an end by something else than a read
  pub part_stops : ReadsStop Other reads left old new
  part_stops = record { used = far.used; failure = far.none_failed; end = inr far.untold; nothing_left = λ is. cc; none_left = λ is. cc; gave = λ is. cc }

  module _ (left' : ℕ) (later : IntakeState) where
    pub reads_both : ReadsSoFar left left' new later → ReadsSoFar reads left' old later
    reads_both next = record {
      used = UsesCalls-trans reads left left' old.calls new.calls later.calls far.used next.used;
      none_failed = next.none_failed ∙ far.none_failed;
      untold = next.untold ∙ far.untold;
      gave = AsManyBytesAsReads-trans reads left left' old.remaining new.remaining later.remaining far.gave next.gave;
    }

    pub reads_then : (told : Told) → ReadsStop told left left' new later → ReadsStop told reads left' old later
    reads_then told last = record {
      used = UsesCalls-trans reads left left' old.calls new.calls later.calls far.used last.used;
      failure = subst (λ n. FailureIsTold told n later.failures) far.none_failed last.failure;
      end = subst (λ b. EndOfReadsIsTold told b later.ended) far.untold last.end;
      nothing_left = last.nothing_left;
      none_left = last.none_left;
      gave = λ is. AsManyBytesAsReads-trans reads left left' old.remaining new.remaining later.remaining far.gave (last.gave is);
    }

-- ---- a run

-- the part that ended is all of it
pub reads_all : (told : Told) (reads left : ℕ) (old new : IntakeState) → ReadsStop told reads left old new → ReadsWithin reads told old new
reads_all told reads left old new all = record {
  within = UsesCalls-at_most reads left old.calls new.calls all.used;
  failure = all.failure;
  end = all.end;
  nothing_left = all.nothing_left;
  all_made = λ is. UsesCalls-used reads left old.calls new.calls (all.none_left is) all.used;
  all_gave = λ is. AsManyBytesAsReads-all reads left old.remaining new.remaining (all.none_left is) (all.gave is);
}

-- after the end was read, something else ended the run
pub end_stops : (reads left : ℕ) (old new : IntakeState) → ReadsStop Ended reads left old new → ReadsStop Other reads left old new
end_stops reads left old new all =
    record { used = all.used; failure = all.failure; end = inl all.end; nothing_left = λ is. cc; none_left = λ is. cc; gave = λ is. cc }

pub reads_ended : (reads : ℕ) (old new : IntakeState) → ReadsWithin reads Ended old new → ReadsWithin reads Other old new
reads_ended reads old new all = record {
  within = all.within;
  failure = all.failure;
  end = inl all.end;
  nothing_left = λ is. cc;
  all_made = λ is. cc;
  all_gave = λ is. cc;
}

module _ (reads left : ℕ) (old new : IntakeState) (far : ReadsSoFar reads left old new) where
  -- the run ends by something else than a read
  pub reads_stop : ReadsWithin reads Other old new
  reads_stop = reads_all Other reads left old new (part_stops reads left old new far)

  -- the next line is asked for
  module _ (left' : ℕ) (later : IntakeState) (uses : UsesCalls left left' new.calls later.calls) where
    pub reads_more : later.failures ≡ new.failures → later.ended ≡ new.ended → AsManyBytesAsReads left left' new.remaining later.remaining
        → ReadsSoFar reads left' old later
    reads_more same told gives = reads_both reads left old new far left' later
        (record { used = uses; none_failed = same; untold = told; gave = gives })

    pub reads_last : (told : Told) → ReadsStop told left left' new later → ReadsWithin reads told old later
    reads_last told last = reads_all told reads left' old later (reads_then reads left old new far left' later told last)

    pub reads_end : later.failures ≡ new.failures → later.ended ≡ true → IsAtEnd later.remaining → ReadsWithin reads Ended old later
    reads_end same told at_end = reads_last Ended (next_ends left left' new later uses false refl same told at_end)

    pub reads_fail : (fault : LineFault) → FailureIsCounted (Err fault) new.failures later.failures → EndIsTold (Err fault) new.ended later.ended
        → (fault ≡ TooManyReads → left' ≡ 0) → (fault ≡ TooManyReads → AsManyBytesAsReads left left' new.remaining later.remaining)
        → ReadsWithin reads (line_told fault) old later
    reads_fail fault counted told none gives = reads_last (line_told fault) (next_stops left left' new later uses fault counted told none gives)
