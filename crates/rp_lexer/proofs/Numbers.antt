-- The value of digits, one digit after the other.
use Rattle.std.proofs.Common.{◌≡◌, ℕ, ◌+◌, ◌-◌, ◌*◌, ◌/◌, ◌^◌, ◌<◌, ◌≤◌, true, List, length, get_or, take, arith}
use Rattle.std.proofs.lemmas.Bool.{and_parts, leb-true}
use Rattle.std.proofs.lemmas.Int.Digits.{digits_value_more}
use Rattle.std.proofs.lemmas.Str.{digit_value_digit}
use Rattle.std.proofs.lemmas.Str.Parse.{digits_value-take-le}
use Rattle.std.specs.Char.{is_ascii_digit}
use Rattle.std.specs.Str.Parse.{digits_value}

pub digit_bounds : (b : ℕ) → is_ascii_digit b ≡ true → (48 ≤ b) × (b ≤ 57)
digit_bounds b digit = let parts = and_parts _ _ digit in (leb-true 48 b parts.0, leb-true b 57 parts.1)

pub value_more : (digits : List ℕ) (i value digit : ℕ) → i < length digits → is_ascii_digit (get_or digits i 0) ≡ true → value ≡ digits_value 10 (take i digits) → digit ≡ get_or digits i 0 - 48 → value * 10 + digit ≡ digits_value 10 (take (i + 1) digits)
value_more digits i value digit lt is e d =
    let bounds = digit_bounds (get_or digits i 0) is in
    omega (arith, digits_value_more 10 digits i lt, digit_value_digit (get_or digits i 0) bounds)

-- the value of the first digits is already too great
pub value_above : (digits : List ℕ) (i value digit : ℕ) → i < length digits → is_ascii_digit (get_or digits i 0) ≡ true → value ≡ digits_value 10 (take i digits) → digit ≡ get_or digits i 0 - 48 → (9223372036854775807 - digit) / 10 < value → digits_value 10 digits < 2 ^ 63 → ⊥
value_above digits i value digit lt is e d above below =
    let bounds = digit_bounds (get_or digits i 0) is in
    let more = value_more digits i value digit lt is e d in
    omega (arith, digits_value-take-le 10 digits (i + 1) (omega arith))
