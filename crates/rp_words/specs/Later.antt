-- What the rows 1 to n, of which more may come or not, may come to.
use Rattle.std.specs.Prelude.{◌≡◌, ℕ, ◌≤◌}
use Rattle.rp_words.specs.declared.word.End.{End}
use Rattle.rp_words.specs.declared.word.End.TheVariants.{Closed as ClosedEnd}

-- The rows 1 to n and this end may come to the rows 1 to n' and that end: no row goes, and a closed partition stays as
-- it is.
abbrev pub IsLater : ℕ → End → ℕ → End → Type 0
IsLater n e n' e' = (n ≤ n') × (e ≡ ClosedEnd → (n' ≡ n) × (e' ≡ ClosedEnd))

-- it holds of the rows 1 to n and this end, and of all that they may come to
abbrev pub AtEachLater : ℕ → End → (ℕ → End → Type 0) → Type 0
AtEachLater n e Holds = (n' : ℕ) (e' : End) → IsLater n e n' e' → Holds n' e'
