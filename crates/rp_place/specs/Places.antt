-- Where a part of a text stands.
use Rattle.std.specs.Prelude.{ℕ, zero, suc, ◌-◌, ◌&&◌, ◌||◌, nat_le, nat_lt, Bool, List, length, take, drop, slice_index, if◌then◌else◌}
use Rattle.rp_place.specs.Lines.{first_line}
use Rattle.rp_place.specs.declared.place.Span.{Span}

-- whether a character of the text begins at this offset, or the text ends there
abbrev pub is_cut : List ℕ → ℕ → Bool
is_cut text offset =
    nat_le offset (length text) && (nat_lt (slice_index text offset) 128 || nat_le 192 (slice_index text offset))

-- the last such offset that is no greater than this one
unfoldable pub cut_at : List ℕ → ℕ → ℕ
cut_at text zero = zero
cut_at text (suc offset) = if is_cut text (suc offset) then suc offset else cut_at text offset

-- where the part begins
abbrev pub start_of : List ℕ → Span → ℕ
start_of text span = cut_at text span.start

-- what stands before the part in the text
abbrev pub before : List ℕ → Span → List ℕ
before text span = take (start_of text span) text

-- what stands in its line from where it begins
abbrev pub rest : List ℕ → Span → List ℕ
rest text span = first_line (drop (start_of text span) text)

-- the part itself, as far as it stands in that line
abbrev pub part : List ℕ → Span → List ℕ
part text span = take (cut_at (rest text span) (span.end - start_of text span)) (rest text span)
