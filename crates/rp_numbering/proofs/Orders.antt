-- The order of rows is an order.
use Rattle.std.proofs.Common.{◌≡◌, ℕ, Bool, true, false, List, [], ◌∷◌, refl, subst}
use Rattle.std.specs.Prelude.{if◌then◌else◌, Result, Ok, Err, OnOk}
use Rattle.std.specs.Borrow.{Bor}
use Rattle.std.specs.Cmp.{IsStrictWeakOrder, IsTotalOrder, on_total, back_total, then_total}
use Rattle.std.specs.Fn.{ComparesAs, Mut}
use Rattle.std.specs.List.Sorted.{IsSortedByClosure, IsStableByClosure}
use Rattle.std.specs.declared.cmp.Ordering.{Ordering}
use Rattle.std.specs.declared.cmp.Ordering.TheVariants.{Equal}
use Rattle.std.proofs.lemmas.List.Sorted.{ranks_by}
use Rattle.rp_value.specs.Order.{value_order}
use Rattle.rp_value.specs.declared.value.Value.{Value}
use Rattle.rp_query.specs.Keys.{value_at}
use Rattle.rp_numbering.specs.Orders.{IsOrdered, column_order, is_before, rows_order}
use Rattle.rp_query.specs.declared.query.OrderColumn.{OrderColumn}

pub value_total : (cmp : Value → Value → Ordering) → IsTotalOrder cmp → ((a b : Value) → cmp a b ≡ value_order a b) → IsTotalOrder value_order
value_total cmp o is = subst IsTotalOrder (λ i a b. is a b i) o

one_way : IsTotalOrder value_order → (n : ℕ) (b : Bool) → IsTotalOrder (λ (x y : List Value). if b then value_order (value_at n y) (value_at n x) else value_order (value_at n x) (value_at n y))
one_way o n true = back_total (on_total (λ row. value_at n row) o)
one_way o n false = on_total (λ row. value_at n row) o

column_total : IsTotalOrder value_order → (c : OrderColumn) → IsTotalOrder (column_order c)
column_total o c = one_way o c.column c.descending

all_tie : IsTotalOrder {K = List Value} (λ x y. Equal)
all_tie = record { antisymm = λ x y. refl; trans = λ x y z f g. f; congr = λ x y z e. refl }

pub rows_total : IsTotalOrder value_order → (os : List OrderColumn) → IsTotalOrder (rows_order os)
rows_total o [] = all_tie
rows_total o (c ∷ os) = then_total (column_total o c) (rows_total o os)

pub rows_weak : IsTotalOrder value_order → (os : List OrderColumn) → IsStrictWeakOrder (is_before os)
rows_weak o os = ranks_by (rows_total o os) (λ x. x)

-- what a sort by a closure says that compares rows by the order
pub sorted_by : {F E : Type 0} {g : Mut F (Bor (List Value) × (Bor (List Value) × Unit {0})) Ordering} {f : F} (r : Result (Unit {0}) E) (order : List OrderColumn) (rows ordered : List (List Value))
    → IsStrictWeakOrder (is_before order) → ComparesAs g (is_before order) f → OnOk r (IsSortedByClosure g f ordered) → IsStableByClosure g f rows ordered → OnOk r (IsOrdered order rows ordered)
sorted_by (Ok x) order rows ordered weak compares sorted stable = (sorted (is_before order) weak compares, stable (is_before order) weak compares)
sorted_by (Err e) order rows ordered weak compares sorted stable = tt
