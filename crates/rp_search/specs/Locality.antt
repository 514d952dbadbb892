-- Tests that depend on no more of the rows mapped so far than where they are.
use Rattle.std.specs.Prelude.{◌≡◌, ℕ, Bool, ◌+◌, List, [], ◌∷◌, ◌++◌, length}
use Rattle.rp_words.specs.declared.word.Label.{Label}
use Rattle.rp_words.specs.Leading.{IsHeadedBy}
use Rattle.rp_words.specs.Mapping.{Mapping}
use Rattle.rp_search.specs.Asked.{Asked}

-- The test of a row by a label says the same, wherever the labels begin and whatever they are before it.
abbrev pub IsLocal : Asked → Type 0
IsLocal asked = (start start' : ℕ) (before before' : List Label) (label : Label) →
    start + length before ≡ start' + length before' →
    asked.outcome start (before ++ label ∷ []) ≡ asked.outcome start' (before' ++ label ∷ [])

-- The test of a row by a label says the same, whatever the labels are before it, where as many begin at the same row.
abbrev pub IsSpanLocal : Asked → Type 0
IsSpanLocal asked = (start : ℕ) (before before' : List Label) (label : Label) →
    length before ≡ length before' →
    asked.outcome start (before ++ label ∷ []) ≡ asked.outcome start (before' ++ label ∷ [])

-- It says the same, whatever the labels are before it, where as many begin at the same row and this variable heads all of them.
abbrev pub IsLedLocal : ℕ → Bool → Asked → Type 0
IsLedLocal leader alone asked = (start : ℕ) (before before' : List Label) (label : Label) →
    length before ≡ length before' →
    IsHeadedBy leader alone (before ++ label ∷ []) → IsHeadedBy leader alone (before' ++ label ∷ []) →
    asked.outcome start (before ++ label ∷ []) ≡ asked.outcome start (before' ++ label ∷ [])

-- it is one of these words
abbrev pub IsAmong : Mapping → List Mapping → Type 0
IsAmong w ws = (front : List Mapping) × (rest : List Mapping) × (ws ≡ front ++ w ∷ rest)
