-- What a reader of lines tells of its device.
use Rattle.std.specs.Prelude.{◌≡◌, ℕ, Bool, true, false, Result, Ok, Err}
use Rattle.rp_io.specs.Counts.{raised}
use Rattle.rp_io.specs.declared.lines.LineFault.{LineFault}
use Rattle.rp_io.specs.declared.lines.LineFault.TheVariants.{Read, TooManyReads, OutOfMemory}

-- Whether a read has told the end, before and after the next line was asked for: yes where the answer is that no LF ended what
-- came (`Ok false`), and else, after a fault too, as before.
abbrev pub EndIsTold : Result Bool LineFault → Bool → Bool → Type 0
EndIsTold (Ok true) old new = new ≡ old
EndIsTold (Ok false) old new = new ≡ true
EndIsTold (Err fault) old new = new ≡ old

-- How many reads have failed, before and after the next line was asked for: one more where the fault is Read, and else as many.
abbrev pub FailureIsCounted : Result Bool LineFault → ℕ → ℕ → Type 0
FailureIsCounted (Ok had_lf) old new = new ≡ old
FailureIsCounted (Err Read) old new = new ≡ raised old
FailureIsCounted (Err TooManyReads) old new = new ≡ old
FailureIsCounted (Err OutOfMemory) old new = new ≡ old
