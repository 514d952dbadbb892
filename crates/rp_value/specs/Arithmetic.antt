-- Arithmetic on values: exact on whole numbers, and null where the result is outside 64 bits with sign.
use Rattle.std.specs.Prelude.{ℕ, Bool, ◌&&◌, ℤ, pos, neg_ℤ, int_le, int_lt, ◌^◌, if◌then◌else◌}
use Rattle.rp_value.specs.declared.value.Value.{Value}
use Rattle.rp_value.specs.declared.value.Value.TheVariants.{Null, Int}

-- whole numbers of 64 bits with sign go from -signed_bound to signed_bound - 1
abbrev pub signed_bound : ℕ
signed_bound = 2 ^ 63

-- whether a whole number is one of 64 bits with sign
abbrev pub fits_64_bits : ℤ → Bool
fits_64_bits z = int_le (neg_ℤ (pos signed_bound)) z && int_lt z (pos signed_bound)

-- the value of a whole number, which is null outside 64 bits with sign
abbrev pub fitted : ℤ → Value
fitted z = if fits_64_bits z then Int z else Null

-- an operation of whole numbers on values, which is null unless both are whole numbers and the result is one of 64 bits with sign
abbrev pub on_numbers : (ℤ → ℤ → ℤ) → Value → Value → Value
on_numbers operation (Int a) (Int b) = fitted (operation a b)
on_numbers operation _ _ = Null
