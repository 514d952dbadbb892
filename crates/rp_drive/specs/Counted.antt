-- How many lines went through a device, the last one whether or not it has its line feed.
use Rattle.std.specs.Prelude.{ℕ, ◌==◌, ◌+◌, ◌-◌, ◌^◌, Bool, not, List, [], ◌∷◌, if◌then◌else◌, min}
use Rattle.rp_io.specs.Lines.{line_feed}

-- how many lines begin in these bytes, where one has begun before them or not
abbrev pub lines_begun : Bool → List ℕ → ℕ
lines_begun in_line [] = 0
lines_begun in_line (b ∷ bytes) = (if in_line then 0 else 1) + lines_begun (not (b == line_feed)) bytes

-- whether a line has begun and not ended once these bytes went through
abbrev pub ends_in_line : Bool → List ℕ → Bool
ends_in_line in_line [] = in_line
ends_in_line in_line (b ∷ bytes) = ends_in_line (not (b == line_feed)) bytes

-- so many more, up to 2^128 - 1, where the count stays
abbrev pub raised_by : ℕ → ℕ → ℕ
raised_by more n = min (n + more) (2 ^ 128 - 1)
