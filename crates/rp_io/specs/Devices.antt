-- What calls of a device do to its counts and its bytes. Bytes that are known stay known.
use Rattle.std.specs.Prelude.{◌≡◌, ℕ, zero, suc, ◌+◌, ◌≤◌, List, ◌++◌, length, Option, Some, None}
use Rattle.rp_io.specs.Counts.{raised}

-- what a device's count of calls stands at after so many calls more
abbrev pub after_calls : ℕ → ℕ → ℕ
after_calls zero count = count
after_calls (suc more) count = after_calls more (raised count)

-- At least `least` and at most `most` calls were made: by them the count of calls has gone from old to new.
abbrev pub MakesCalls : ℕ → ℕ → ℕ → ℕ → Type 0
MakesCalls least most old new = (made : ℕ) × (least ≤ made) × (made ≤ most) × (new ≡ after_calls made old)

-- As many calls were made as fewer are allowed after than before: by them the count of calls has gone from old to new.
abbrev pub UsesCalls : ℕ → ℕ → ℕ → ℕ → Type 0
UsesCalls before after old new = (made : ℕ) × (made + after ≡ before) × (new ≡ after_calls made old)

-- As many bytes came at least, where they are known, as reads were made: those that were allowed before less those that are allowed
-- after. The lists are what was still to come before and after.
abbrev pub AsManyBytesAsReads : ℕ → ℕ → Option (List ℕ) → Option (List ℕ) → Type 0
AsManyBytesAsReads before after None new = Unit {0}
AsManyBytesAsReads before after (Some xs) None = ⊥
AsManyBytesAsReads before after (Some xs) (Some ys) = before + length ys ≤ after + length xs

-- The bytes written, where they are known, grow by the first ones of these, perhaps none or all.
abbrev pub AppendsFront : Option (List ℕ) → Option (List ℕ) → List ℕ → Type 0
AppendsFront None new bytes = Unit {0}
AppendsFront (Some xs) None bytes = ⊥
AppendsFront (Some xs) (Some ys) bytes = (front : List ℕ) × (rest : List ℕ) × (bytes ≡ front ++ rest) × (ys ≡ xs ++ front)

-- Where the bytes written are known: they grow by the first ones of a text, and the rest of the text is kept.
abbrev pub Moves : Option (List ℕ) → List ℕ → Option (List ℕ) → List ℕ → Type 0
Moves None text new rest = Unit {0}
Moves (Some xs) text None rest = ⊥
Moves (Some xs) text (Some ys) rest = (front : List ℕ) × (text ≡ front ++ rest) × (ys ≡ xs ++ front)
