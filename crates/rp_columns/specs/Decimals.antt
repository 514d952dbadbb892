-- Decimal numbers: a sign or none, digits, and digits behind a point. ISO/IEC 9075-2:2016, 5.3, <signed numeric literal> without an exponent;
-- signs between thousands are this project's own.
use Rattle.std.specs.Prelude.{ℕ, ◌-◌, ◌^◌, ◌==◌, ◌&&◌, ◌||◌, ℤ, pos, neg_ℤ, Bool, true, false, not, nat_lt, nat_le, List, [], ◌∷◌, ◌++◌, length, drop, Option, Some, None, Result, Ok, Err, if◌then◌else◌}
use Rattle.std.specs.Char.{is_ascii_digit}
use Rattle.std.specs.Int.Digits.{number_from_digits}
use Rattle.rp_columns.specs.Fronts.{begins_with, leading_digits, placed, are_blanks, without_blanks}
use Rattle.rp_columns.specs.declared.fault.ReadingFault.{ReadingFault}
use Rattle.rp_columns.specs.declared.fault.ReadingFault.TheVariants.{Form, Places, Range}
use Rattle.rp_columns.specs.declared.reading.Marks.{Marks}

-- the bytes behind a sign, if they begin with one
abbrev pub without_sign : List ℕ → List ℕ
without_sign bytes = if begins_with 45 bytes || begins_with 43 bytes then drop 1 bytes else bytes

-- the bytes begin with this mark, where there is one
abbrev pub begins_with_mark : Option ℕ → List ℕ → Bool
begins_with_mark None bytes = false
begins_with_mark (Some mark) bytes = begins_with mark bytes

-- groups of three digits, each behind a mark, as digits, and what follows them
unfoldable pub groups_behind : ℕ → List ℕ → List ℕ × List ℕ
groups_behind mark (m ∷ a ∷ b ∷ c ∷ rest) =
    if m == mark && is_ascii_digit a && is_ascii_digit b && is_ascii_digit c
    then ((a - 48) ∷ (b - 48) ∷ (c - 48) ∷ (groups_behind mark rest).0, (groups_behind mark rest).1)
    else ([], m ∷ a ∷ b ∷ c ∷ rest)
groups_behind mark bytes = ([], bytes)

-- the further digits of a number that stand in groups, which only follow one to three digits
abbrev pub groups : Option ℕ → ℕ → List ℕ → List ℕ × List ℕ
groups None before bytes = ([], bytes)
groups (Some mark) before bytes = if nat_lt 0 before && nat_lt before 4 then groups_behind mark bytes else ([], bytes)

-- the digits behind a point, and what follows them; none where no point comes first
abbrev pub behind_point : Option ℕ → List ℕ → List ℕ × List ℕ
behind_point point bytes = if begins_with_mark point bytes then leading_digits (drop 1 bytes) else ([], bytes)

-- neither part has a digit
abbrev pub has_no_digits : List ℕ → List ℕ → Bool
has_no_digits whole fraction = (length whole == 0) && (length fraction == 0)

-- digits that are all zeros, or none
abbrev pub is_worthless : List ℕ → Bool
is_worthless digits = number_from_digits 10 digits == 0

-- the number with its sign, where 64 bits hold it
abbrev pub in_range : Bool → ℕ → Result ℤ ReadingFault
in_range false n = if nat_lt n (2 ^ 63) then Ok (pos n) else Err Range
in_range true n = if nat_le n (2 ^ 63) then Ok (neg_ℤ (pos n)) else Err Range

-- The decimal number that the bytes are, times 10 to the power of the places: all digits up to so many places behind the point make it, and those
-- behind them are worth nothing.
abbrev pub decimal_of : Marks → ℕ → List ℕ → Result ℤ ReadingFault
decimal_of marks places bytes =
    let number = without_blanks bytes in
    let first = leading_digits (without_sign number) in
    let more = groups marks.thousands (length first.0) first.1 in
    let fraction = behind_point marks.point more.1 in
    if not (are_blanks fraction.1) || has_no_digits first.0 fraction.0 then Err Form
    else (if not (is_worthless (drop places fraction.0)) then Err Places
    else in_range (begins_with 45 number) (number_from_digits 10 ((first.0 ++ more.0) ++ placed places fraction.0)))
