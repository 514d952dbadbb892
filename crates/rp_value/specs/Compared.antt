-- Comparisons of two values.
use Rattle.std.specs.Prelude.{Bool, true, false, Option, None, Some, if◌then◌else◌}
use Rattle.std.specs.declared.cmp.Ordering.{Ordering}
use Rattle.std.specs.declared.cmp.Ordering.TheVariants as order
use Rattle.std.specs.Ordering.{int_cmp, nat_cmp}
use Rattle.std.specs.Cmp.Lexicographic.{slice_cmp}
use Rattle.rp_value.specs.declared.comparison.Comparison.{Comparison}
use Rattle.rp_value.specs.declared.comparison.Comparison.TheVariants.{Equal, NotEqual, Less, LessOrEqual, Greater, GreaterOrEqual}
use Rattle.rp_value.specs.declared.truth.Tri.{Tri}
use Rattle.rp_value.specs.declared.truth.Tri.TheVariants.{True, False, Unknown}
use Rattle.rp_value.specs.declared.value.Value.{Value}
use Rattle.rp_value.specs.declared.value.Value.TheVariants.{Int, Text}

-- The order of two values that can be compared: whole numbers by their size, texts by their bytes from the first on. Null can't be
-- compared, nor values of different kinds.
abbrev pub comparable_order : Value → Value → Option Ordering
comparable_order (Int a) (Int b) = Some (int_cmp a b)
comparable_order (Text a) (Text b) = Some (slice_cmp nat_cmp a b)
comparable_order _ _ = None

-- whether a comparison holds of two values in this order
abbrev pub holds : Comparison → Ordering → Bool
holds Equal order.Equal = true
holds NotEqual order.Less = true
holds NotEqual order.Greater = true
holds Less order.Less = true
holds LessOrEqual order.Less = true
holds LessOrEqual order.Equal = true
holds Greater order.Greater = true
holds GreaterOrEqual order.Greater = true
holds GreaterOrEqual order.Equal = true
holds _ _ = false

-- the truth value of a comparison of two values in this order: unknown where they can't be compared
abbrev pub order_truth : Comparison → Option Ordering → Tri
order_truth compares None = Unknown
order_truth compares (Some found) = if holds compares found then True else False

-- the truth value of a comparison: unknown where one of the values is null, and where their kinds differ
abbrev pub comparison_truth : Comparison → Value → Value → Tri
comparison_truth compares a b = order_truth compares (comparable_order a b)
