-- Fields and rows that a table reads, as columns read them.
use Rattle.std.specs.Prelude.{◌≡◌, ℕ, List, [], ◌∷◌, Some, Ok, slice_get}
use Rattle.rp_columns.specs.Headings.{columns_for, reading_of}
use Rattle.rp_columns.specs.Readings.{value_of}
use Rattle.rp_value.specs.declared.table.Column.{Column}
use Rattle.rp_value.specs.declared.value.Kind.{Kind}
use Rattle.rp_value.specs.declared.value.Value.{Value}
use Rattle.rp_input.specs.ByColumns.{AreRowsByColumns}
use Rattle.rp_input.specs.CsvRows.{AreRowsOf}
use Rattle.rp_input.specs.Fields.{IsField}
use Rattle.rp_input.specs.Layouts.{plain_layout}
use Rattle.rp_input.specs.Placed.{NamesAt}

-- A field that is a value of a table's column is the same value by the reading of its kind, where an empty field stands for null.
abbrev pub FieldsReadAlike : Type 0
FieldsReadAlike = (kind : Kind) (number : ℕ) (bytes : List ℕ) (v : Value) → IsField kind bytes v → value_of ([] ∷ []) (reading_of kind) number bytes ≡ Ok v

-- no other field of the header has the name of a column that stands at this place
abbrev pub AreApart : List Column → List (List ℕ) → Type 0
AreApart columns header = (place : ℕ) (c : Column) → slice_get columns place ≡ Some c → (other : ℕ) → NamesAt c.name header other → other ≡ place

-- The rows of a text by a table are those by the columns of that table, where no field of the header has the name of two of them.
abbrev pub RowsReadAlike : Type 0
RowsReadAlike = (columns : List Column) (text : List ℕ) (rows : List (List Value)) (read : AreRowsOf columns text rows) → AreApart columns read.header
    → AreRowsByColumns ([] ∷ []) plain_layout (columns_for columns) text rows
