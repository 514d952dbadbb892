-- The order of values.
use Rattle.std.proofs.Common.{refl}
use Rattle.std.specs.Cmp.{int_cmp_total}
use Rattle.std.specs.Cmp.Lexicographic.{nat_list_cmp_total}
use Rattle.rp_value.specs.declared.value.Value.TheVariants.{Null, Int, Text}
use Rattle.rp_value.specs.Order.{ExchangedIsReversed}

-- with the two values exchanged the order is reversed
pub value_order-reversed : ExchangedIsReversed
value_order-reversed (Int a) (Int b) = int_cmp_total.antisymm b a
value_order-reversed (Int a) (Text b) = refl
value_order-reversed (Int a) Null = refl
value_order-reversed (Text a) (Int b) = refl
value_order-reversed (Text a) (Text b) = nat_list_cmp_total.antisymm b a
value_order-reversed (Text a) Null = refl
value_order-reversed Null (Int b) = refl
value_order-reversed Null (Text b) = refl
value_order-reversed Null Null = refl
