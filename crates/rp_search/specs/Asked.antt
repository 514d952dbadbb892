-- What a search asks of the rows of a partition.
use Rattle.std.specs.Prelude.{◌≡◌, ℕ, suc, ◌-◌, ◌<◌, ◌≤◌, List, All, Option, None, OnSome, IsSome}
use Rattle.rp_words.specs.declared.form.Form.{Form}
use Rattle.rp_words.specs.declared.word.Label.{Label}
use Rattle.rp_words.specs.declared.word.End.{End}
use Rattle.rp_words.specs.declared.word.Seen.{Seen}
use Rattle.rp_words.specs.Later.{IsLater}
use Rattle.rp_search.specs.SeenStays.{TestsStay}

-- What a search asks of the rows of a partition.
pub record Asked : Type 0 where
  -- how many rows are known, from row 1 on
  pub known : ℕ
  -- whether further rows may come
  pub end : End
  -- the variables with a number below this one are tested
  pub variables : ℕ
  -- what the test of the last of these labels says, where they begin at this row
  pub outcome : ℕ → List Label → Seen
  -- the pattern of whose words the labels are, if one is named: only then a search remembers where it failed
  pub pattern : Option Form

-- each label is of a variable with a number below this one
abbrev pub AreBelow : ℕ → List Label → Type 0
AreBelow variables labels = All (λ label. label.var < variables) labels

-- how many rows are known from a row on
abbrev pub rows_from : ℕ → ℕ → ℕ
rows_from start n = suc n - start

-- what was decided of known rows stays, from this start row and each later one
abbrev pub StayFromEach : ℕ → Asked → Asked → Type 0
StayFromEach start old new = (row : ℕ) → start ≤ row → TestsStay (rows_from row old.known) (old.outcome row) (new.outcome row)

-- What is asked from a start row on goes on: as many rows are known or more, a closed partition stays as it is, and
-- what was decided of known rows stays, and the same variables are tested. Where a pattern is named, a search remembers
-- where it failed: so one is named further on, and what was decided from each later start row stays as well.
pub record AskedExtend (start : ℕ) (old new : Asked) : Type 0 where
  pub later : IsLater old.known old.end new.known new.end
  pub stay : TestsStay (rows_from start old.known) (old.outcome start) (new.outcome start)
  pub variables : new.variables ≡ old.variables
  pub remembered : OnSome old.pattern (IsSome new.pattern × StayFromEach start old new)

-- Where no pattern is named, what is asked from a start row on goes on as soon as what was decided from that row alone stays.
abbrev pub UnnamedExtend : Type 0
UnnamedExtend = (start : ℕ) (old new : Asked) → old.pattern ≡ None → IsLater old.known old.end new.known new.end →
    TestsStay (rows_from start old.known) (old.outcome start) (new.outcome start) → new.variables ≡ old.variables →
    AskedExtend start old new
