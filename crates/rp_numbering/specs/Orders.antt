-- The order of rows by some columns.
use Rattle.std.specs.Prelude.{Bool, List, [], ◌∷◌, if◌then◌else◌}
use Rattle.std.specs.List.Sorted.{IsSortedBy, IsStableBy}
use Rattle.std.specs.Ordering.{is_lt, ordering_then}
use Rattle.std.specs.declared.cmp.Ordering.{Ordering}
use Rattle.std.specs.declared.cmp.Ordering.TheVariants.{Equal}
use Rattle.rp_query.specs.declared.query.OrderColumn.{OrderColumn}
use Rattle.rp_query.specs.Keys.{value_at}
use Rattle.rp_value.specs.Order.{value_order}
use Rattle.rp_value.specs.declared.value.Value.{Value}

-- by one column: null is last, and with the sides exchanged, descending, it is first
abbrev pub column_order : OrderColumn → List Value → List Value → Ordering
column_order o a b =
    if o.descending then value_order (value_at o.column b) (value_at o.column a)
    else value_order (value_at o.column a) (value_at o.column b)

-- by the first column in which they differ
abbrev pub rows_order : List OrderColumn → List Value → List Value → Ordering
rows_order [] a b = Equal
rows_order (o ∷ os) a b = ordering_then (column_order o a b) (rows_order os a b)

-- one row is before another
abbrev pub is_before : List OrderColumn → List Value → List Value → Bool
is_before order a b = is_lt (rows_order order a b)

-- Sorted; and of each row, those that tie with it are the same ones as before, in the order in which they came.
abbrev pub IsOrdered : List OrderColumn → List (List Value) → List (List Value) → Type 0
IsOrdered order rows ordered = IsSortedBy (is_before order) ordered × IsStableBy (is_before order) rows ordered

-- Any rows can be put into any order.
abbrev pub OrderExists : Type 0
OrderExists =
    (order : List OrderColumn) (rows : List (List Value)) → (ordered : List (List Value)) × IsOrdered order rows ordered
