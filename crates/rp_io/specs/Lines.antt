-- The lines of what is read. Bytes that are known stay known.
use Rattle.std.specs.Prelude.{◌≡◌, ◌≢◌, ℕ, List, [], ◌∷◌, ◌++◌, take, All, Option, Some, None, if◌then◌else◌, ◌==◌}

-- The byte that ends a line: LF, the line feed of ASCII. A carriage return before it is a byte of the line: own.
abbrev pub line_feed : ℕ
line_feed = 10

-- lines with a byte more before the first one; where there is none, a line of that byte alone
abbrev pub onto_first : ℕ → List (List ℕ) → List (List ℕ)
onto_first b [] = (b ∷ []) ∷ []
onto_first b (line ∷ lines) = (b ∷ line) ∷ lines

-- the parts up to each LF; a last part without one counts if it isn't empty
abbrev pub lines_of : List ℕ → List (List ℕ)
lines_of [] = []
lines_of (b ∷ bytes) = if b == line_feed then [] ∷ lines_of bytes else onto_first b (lines_of bytes)

-- none of these bytes is a line feed
abbrev pub IsLfFree : List ℕ → Type 0
IsLfFree bytes = All (λ b. b ≢ line_feed) bytes

-- Where the bytes are known: the next line is taken, up to the LF that ends it, and `line` is its first `kept` bytes, or all of
-- them where they are fewer.
abbrev pub TakesLine : ℕ → Option (List ℕ) → Option (List ℕ) → List ℕ → Type 0
TakesLine kept None new line = Unit {0}
TakesLine kept (Some xs) None line = ⊥
TakesLine kept (Some xs) (Some ys) line = (whole : List ℕ) × IsLfFree whole × (xs ≡ whole ++ line_feed ∷ ys) × (line ≡ take kept whole)

-- Where the bytes are known: all that was still to come is taken, in which there is no LF, and `line` is its first `kept` bytes,
-- or all of them where they are fewer.
abbrev pub TakesLast : ℕ → Option (List ℕ) → Option (List ℕ) → List ℕ → Type 0
TakesLast kept None new line = Unit {0}
TakesLast kept (Some xs) None line = ⊥
TakesLast kept (Some xs) (Some ys) line = IsLfFree xs × (ys ≡ []) × (line ≡ take kept xs)
