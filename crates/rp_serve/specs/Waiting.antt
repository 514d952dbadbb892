-- How long a connection is waited for.
use Rattle.std.specs.Prelude.{ℕ, ◌+◌, ◌-◌, ◌^◌, Bool, cond, List, length, min, nat_eq, not, slice_index}
use Rattle.std.specs.List.{list_any}

-- the byte that ends a line
abbrev pub ends_line : ℕ → Bool
ends_line byte = nat_eq byte 10

-- The bytes end within a line: their last one ends none. Where there are no bytes it is as before.
abbrev pub ends_within_line : Bool → List ℕ → Bool
ends_within_line before bytes = cond (nat_eq (length bytes) 0) before (not (ends_line (slice_index bytes (length bytes - 1))))

-- How long the line was waited for whose first bytes have come, after more bytes that took so long: it is another line once one has ended.
abbrev pub waited_for : Bool → ℕ → ℕ → List ℕ → ℕ
waited_for within waited took bytes = cond (list_any ends_line bytes) 0 (cond within (min (waited + took) (2 ^ 64 - 1)) 0)
