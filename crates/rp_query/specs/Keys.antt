-- The keys of partitions.
use Rattle.std.specs.Prelude.{◌≡◌, ℕ, Bool, ◌-◌, List, map, All, Option, None, Some, slice_get, unwrap_or}
use Rattle.rp_value.specs.contracts.cells.CellsPartialEq.TheImpl.{ghosts as cells}
use Rattle.rp_value.specs.declared.table.Column.{Column}
use Rattle.rp_value.specs.declared.value.Kind.{Kind}
use Rattle.rp_value.specs.declared.value.Kind.TheVariants.{Int as IntKind}
use Rattle.rp_value.specs.declared.value.Value.{Value}
use Rattle.rp_value.specs.declared.value.Value.TheVariants.{Null}
use Rattle.rp_value.specs.Rows.{cell_at, row_fault}
use Rattle.rp_value.specs.Tables.{kinds_of}
use Rattle.rp_query.specs.declared.query.QueryData.{QueryData}

-- the value of a row in a column, from 1, and null where it has none
abbrev pub value_at : ℕ → List Value → Value
value_at column row = unwrap_or (cell_at row column) Null

-- these are rows of a table of these columns
abbrev pub AreRowsOver : List Column → List (List Value) → Type 0
AreRowsOver columns rows = All (λ row. row_fault (kinds_of columns) row ≡ None) rows

-- the values of a row in some columns
abbrev pub values_in : List ℕ → List Value → List Value
values_in columns row = map (λ column. value_at column row) columns

-- the key of a row: its values in the columns of PARTITION BY (ISO/IEC 9075-2:2016, 7.7, <row pattern partition by>)
abbrev pub key_of : QueryData → List Value → List Value
key_of q row = values_in q.partition.items row

-- whether two keys are the same: null is the same as null
abbrev pub same_key : List Value → List Value → Bool
same_key = cells.eq

abbrev pub kind_or : Option Column → Kind
kind_or None = IntKind
kind_or (Some c) = c.kind

-- the kind of a column, from 1; a query names only columns that its table has
abbrev pub kind_at : List Column → ℕ → Kind
kind_at columns column = kind_or (slice_get columns (column - 1))

-- the kinds of the columns of PARTITION BY, which the values of a key have
abbrev pub key_kinds : QueryData → List Kind
key_kinds q = map (kind_at q.table) q.partition.items

-- The key of a row that fits the table fits the columns of PARTITION BY.
abbrev pub KeysFit : Type 0
KeysFit = (q : QueryData) (row : List Value) → row_fault (kinds_of q.table) row ≡ None → row_fault (key_kinds q) (key_of q row) ≡ None
