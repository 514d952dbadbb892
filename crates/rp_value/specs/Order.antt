-- The order of values, and its laws.
use Rattle.std.specs.Prelude.{◌≡◌, ◌≢◌, Some}
use Rattle.std.specs.declared.cmp.Ordering.{Ordering}
use Rattle.std.specs.declared.cmp.Ordering.TheVariants.{Less, Equal, Greater}
use Rattle.std.specs.Ordering.{int_cmp, nat_cmp, ordering_reverse}
use Rattle.std.specs.Cmp.Lexicographic.{slice_cmp}
use Rattle.rp_value.specs.declared.value.Value.{Value}
use Rattle.rp_value.specs.declared.value.Value.TheVariants.{Null, Int, Text}
use Rattle.rp_value.specs.Compared.{comparable_order}

-- the order of ORDER BY, ascending: whole numbers first, by their size, then texts by their bytes from the first on, and null last
abbrev pub value_order : Value → Value → Ordering
value_order (Int a) (Int b) = int_cmp a b
value_order (Int a) _ = Less
value_order (Text a) (Int b) = Greater
value_order (Text a) (Text b) = slice_cmp nat_cmp a b
value_order (Text a) Null = Less
value_order Null Null = Equal
value_order Null _ = Greater

-- two values that can be compared are in the order of their comparison
abbrev pub OrderIsComparison : Type 0
OrderIsComparison = (a b : Value) (order : Ordering) → comparable_order a b ≡ Some order → value_order a b ≡ order

-- any value but null is before null
abbrev pub NullIsLast : Type 0
NullIsLast = (a : Value) → a ≢ Null → value_order a Null ≡ Less

-- with the two values exchanged the order is reversed: so DESC, which exchanges them, sorts by the reverse
abbrev pub ExchangedIsReversed : Type 0
ExchangedIsReversed = (a b : Value) → value_order b a ≡ ordering_reverse (value_order a b)
