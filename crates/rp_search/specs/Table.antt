-- Inside: what a table has for a place and a row.
use Rattle.std.specs.Prelude.{◌≡◌, ℕ, ◌<◌, ◌≤◌, ◌%◌, ◌⊎◌, cond, length, Option, Some, None, nat_eq, slice_get}
use Rattle.rp_search.specs.declared.table.Failure.{Failure}
use Rattle.rp_search.specs.declared.table.Rows.{Rows}
use Rattle.rp_search.specs.declared.table.Table.{Table}

-- what a slot has for a row, 0 where it has nothing or is another row's
abbrev pub until_at : Option Failure → ℕ → ℕ
until_at None row = 0
until_at (Some failure) row = cond (nat_eq failure.row row) failure.until 0

-- the same of the slot that a row has among those of a place
abbrev pub until_row : Rows → ℕ → ℕ
until_row rows row = until_at (slice_get rows.slots.items (row % length rows.slots.items)) row

-- the same, if there are rows of the place
abbrev pub until_in : Option Rows → ℕ → ℕ
until_in None row = 0
until_in (Some rows) row = until_row rows row

-- what it has for a place and a row
unfoldable pub until_of : Table → ℕ → ℕ → ℕ
until_of table place row = until_in (slice_get table.places.items place) row

-- What it had for rows that may be asked for from a start row on it still has, but for the row of one place.
abbrev pub KeepsFrom : ℕ → ℕ → ℕ → Table → Table → Type 0
KeepsFrom from place row old new = (q r : ℕ) → from ≤ r → from < until_of old q r →
    (until_of new q r ≡ until_of old q r) ⊎ ((q ≡ place) × (r ≡ row))

-- the same of the rows of one place
abbrev pub RowsKeepFrom : ℕ → ℕ → Rows → Rows → Type 0
RowsKeepFrom from row old new = (r : ℕ) → from ≤ r → from < until_row old r → (until_row new r ≡ until_row old r) ⊎ (r ≡ row)

-- no other row that may be asked for from a start row on has the slot of this one
abbrev pub IsFreeFor : ℕ → ℕ → Rows → Type 0
IsFreeFor from row rows = (r : ℕ) → from ≤ r → from < until_row rows r → r % length rows.slots.items ≡ row % length rows.slots.items → r ≡ row
