-- What a limit leaves: where no answer is given up, all are whole; none is given up without a limit, nor where no start row may take
-- more turns.
use Rattle.std.specs.Prelude.{◌≡◌, ℕ, ◌≤◌, List, [], length, All, Option, Some, None}
use Rattle.rp_value.specs.declared.value.Value.{Value}
use Rattle.rp_query.specs.declared.query.QueryData.{QueryData}
use Rattle.rp_numbering.specs.Partitions.{Part}
use Rattle.rp_whole.specs.Answers.{AreAnswersOver, AreAnswersWithin, Form, turns_at}
use Rattle.rp_whole.specs.declared.halted.Halted.{Halted}
use Rattle.rp_whole.specs.declared.stopped.Stopped.{Stopped}

-- where none is told as given up, the answers are whole
abbrev pub WholeUnlessHalted : Type 0
WholeUnlessHalted = (limit : Option ℕ) (form : Form) (q : QueryData) (rows : List (List Value)) (bytes : List ℕ) (stopped : List Stopped) →
    AreAnswersWithin limit form q rows bytes stopped [] → AreAnswersOver form q rows bytes stopped

-- and without a limit none is
abbrev pub HaltedByLimit : Type 0
HaltedByLimit = (form : Form) (q : QueryData) (rows : List (List Value)) (bytes : List ℕ) (stopped : List Stopped) (halted : List Halted) →
    AreAnswersWithin None form q rows bytes stopped halted → halted ≡ []

-- no start row of a partition may take more turns than this
abbrev pub TakesAtMost : ℕ → QueryData → Part → Type 0
TakesAtMost most q part = (row : ℕ) → 1 ≤ row → row ≤ length part.1 → turns_at q (length part.1) row ≤ most

-- and under a limit none is where that is so of each partition
abbrev pub WholeWithinLimit : Type 0
WholeWithinLimit = (most : ℕ) (form : Form) (q : QueryData) (rows : List (List Value)) (bytes : List ℕ) (stopped : List Stopped) (halted : List Halted) →
    (within : AreAnswersWithin (Some most) form q rows bytes stopped halted) → All (λ s. TakesAtMost most q s.part) within.shown → halted ≡ []
