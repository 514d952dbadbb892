-- Exact sums.
use Rattle.std.specs.Prelude.{◌≡◌, ℕ, ◌-◌, ◌^◌, ℤ, pos, ◌+ℤ◌, ◌==◌, List, [], ◌∷◌, length, fold, if◌then◌else◌}
use Rattle.rp_value.specs.declared.value.Value.{Value}
use Rattle.rp_value.specs.declared.value.Value.TheVariants.{Null}
use Rattle.rp_value.specs.Arithmetic.{fitted}

-- the sum of whole numbers, without a bound
abbrev pub exact_sum : List ℤ → ℤ
exact_sum = fold ◌+ℤ◌ (pos 0)

-- the sum as a value: null where it is outside 64 bits with sign, whatever the partial sums are
abbrev pub total : List ℤ → Value
total numbers = fitted (exact_sum numbers)

-- SUM of whole numbers: null of none, and else their total
abbrev pub sum_of : List ℤ → Value
sum_of [] = Null
sum_of (n ∷ numbers) = total (n ∷ numbers)

-- what a running sum is seen as: how many numbers were added up, and their exact sum
pub record Summed : Type 0 where
  pub count : ℕ
  pub sum : ℤ

-- as many numbers can be added up as a count of 64 bits tells
abbrev pub most_numbers : ℕ
most_numbers = 2 ^ 64 - 1

-- what a running sum keeps of numbers: how many they are, and their exact sum
abbrev pub summed : List ℤ → Summed
summed numbers = record { count = length numbers; sum = exact_sum numbers }

-- the sum as a value: null where it is outside 64 bits with sign
abbrev pub sum_value : Summed → Value
sum_value s = fitted s.sum

-- SUM of the numbers that were added up: null of none, and else the sum as a value
abbrev pub sum_or_null : Summed → Value
sum_or_null s = if s.count == 0 then Null else sum_value s

-- SUM by what a running sum keeps of numbers is SUM of the numbers
abbrev pub SumsAgree : Type 0
SumsAgree = (numbers : List ℤ) → sum_or_null (summed numbers) ≡ sum_of numbers
