-- Inside: rows with ascending numbers, by their places.
use Rattle.std.specs.Prelude.{ℕ, zero, suc, ◌+◌, ◌==◌, List, [], ◌∷◌, Option, None, Some, nat_lt, if◌then◌else◌}
use Rattle.rp_value.specs.declared.value.Value.{Value}
use Rattle.rp_feed.specs.Fed.{Numbered}

-- how many rows have a number below this one, where numbers ascend
abbrev pub below : ℕ → List Numbered → ℕ
below n [] = 0
below n ((m, row) ∷ rows) = if nat_lt m n then suc (below n rows) else 0

-- the row in a place with its number, if there is one
abbrev pub entry_at : List Numbered → ℕ → Option Numbered
entry_at [] k = None
entry_at (e ∷ rows) zero = Some e
entry_at (e ∷ rows) (suc k) = entry_at rows k

-- the number in a place, and 0 where there is none
abbrev pub number_at : List Numbered → ℕ → ℕ
number_at [] k = 0
number_at ((m, row) ∷ rows) zero = m
number_at ((m, row) ∷ rows) (suc k) = number_at rows k

-- a row, if it has that number
abbrev pub row_with : ℕ → Option Numbered → Option (List Value)
row_with n None = None
row_with n (Some (m, row)) = if m == n then Some row else None

-- the number above that of the last row, or the given one where there is none
abbrev pub above_all : ℕ → List Numbered → ℕ
above_all n [] = n
above_all n ((m, row) ∷ rows) = above_all (m + 1) rows
