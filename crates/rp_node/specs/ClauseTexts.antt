-- When two texts are one clause, and where they differ.
use Rattle.std.specs.Prelude.{◌≡◌, ◌+◌, ◌||◌, ℕ, Bool, List, [], ◌∷◌, Option, Some, None, cond, nat_eq}

-- a space, a tab, a LF or a CR
abbrev pub is_blank : ℕ → Bool
is_blank byte = (nat_eq byte 32 || nat_eq byte 9) || (nat_eq byte 10 || nat_eq byte 13)

-- A byte before a text that has no blank at its end: it stays, unless it is a blank and nothing follows it.
abbrev pub before_text : ℕ → List ℕ → List ℕ
before_text byte [] = cond (is_blank byte) [] (byte ∷ [])
before_text byte (next ∷ rest) = byte ∷ next ∷ rest

-- the text without the blanks and line ends at its end
abbrev pub without_blank_end : List ℕ → List ℕ
without_blank_end [] = []
without_blank_end (byte ∷ bytes) = before_text byte (without_blank_end bytes)

-- Two texts are one clause where they differ in nothing but blanks and line ends at their end.
abbrev pub AreOneClause : List ℕ → List ℕ → Type 0
AreOneClause text other = without_blank_end text ≡ without_blank_end other

-- how many bytes two texts begin with that are the same
abbrev pub common_front : List ℕ → List ℕ → ℕ
common_front [] other = 0
common_front (byte ∷ bytes) [] = 0
common_front (byte ∷ bytes) (other ∷ others) = cond (nat_eq byte other) (common_front bytes others + 1) 0

-- the place where a text differs from another; none where the two are one clause
abbrev pub IsDifference : List ℕ → List ℕ → Option ℕ → Type 0
IsDifference text other None = AreOneClause text other
IsDifference text other (Some place) = (AreOneClause text other → ⊥) × (place ≡ common_front text other)
