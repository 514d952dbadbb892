-- What follows of the definitions of a feed.
use Rattle.std.specs.Prelude.{◌≡◌, ◌↔◌, ℕ, ◌≤◌, ◌==◌, List, None, Some, nat_lt, ◌||◌, if◌then◌else◌}
use Rattle.rp_value.specs.declared.value.Value.{Value}
use Rattle.rp_feed.specs.Fed.{Fed, Numbered, IsOrdered, IsFront, IsFree, IsReached, row_at, with_row, with_taken, rows_from, forgotten, is_taken, front_of}

-- once a row is added whose number had none, its number has it, and every other number what it had
abbrev pub RowIsAdded : Type 0
RowIsAdded = (n k : ℕ) (row : List Value) (rows : List Numbered) → row_at rows n ≡ None
    → row_at (with_row n row rows) k ≡ (if k == n then Some row else row_at rows k)

-- once the rows below a number are dropped, no number below it has a row, and every other what it had
abbrev pub RowsAreDropped : Type 0
RowsAreDropped = (n k : ℕ) (rows : List Numbered)
    → row_at (rows_from n rows) k ≡ (if nat_lt k n then None else row_at rows k)

-- once a row is added whose number had none, its number was taken too, and no other that wasn't
abbrev pub TakenIsAdded : Type 0
TakenIsAdded = (fed : Fed) (n k : ℕ) (row : List Value) → row_at fed.rows n ≡ None
    → is_taken (with_taken n row fed) k ≡ (k == n || is_taken fed k)

-- where numbers ascend: once rows are dropped, all of which up to there were taken, the same numbers were taken
abbrev pub TakenStays : Type 0
TakenStays = (fed : Fed) (before k : ℕ) → IsOrdered fed → IsReached fed before
    → is_taken (forgotten before fed) k ≡ is_taken fed k

-- where numbers ascend: once a row is added whose number wasn't taken, they still ascend
abbrev pub OrderStays : Type 0
OrderStays = (fed : Fed) (n : ℕ) (row : List Value) → IsOrdered fed → IsFree fed n
    → IsOrdered (with_taken n row fed)

-- where numbers ascend: once the rows below a number are dropped, which isn't below `first`, they still ascend
abbrev pub OrderIsKept : Type 0
OrderIsKept = (fed : Fed) (before : ℕ) → IsOrdered fed → fed.first ≤ before → IsOrdered (forgotten before fed)

-- where numbers ascend: the front is the one number up to which all were taken and the next wasn't
abbrev pub FrontIsOne : Type 0
FrontIsOne = (fed : Fed) (f : ℕ) → IsOrdered fed → IsFront fed f ↔ (front_of fed ≡ f)

-- where numbers ascend: a row more, whose number wasn't taken, never lowers the front
abbrev pub FrontGrows : Type 0
FrontGrows = (fed : Fed) (n : ℕ) (row : List Value) → IsOrdered fed → IsFree fed n
    → front_of fed ≤ front_of (with_taken n row fed)

-- where numbers ascend: dropping rows, all of which up to there were taken, leaves the front
abbrev pub FrontStays : Type 0
FrontStays = (fed : Fed) (before : ℕ) → IsOrdered fed → IsReached fed before
    → front_of (forgotten before fed) ≡ front_of fed
