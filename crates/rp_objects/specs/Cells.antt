-- The cells of an object by columns.
use Rattle.std.specs.Prelude.{ℕ, ◌+◌, List, [], ◌∷◌, Option, Some, None, Result, Ok, Err, if◌then◌else◌}
use Rattle.json.specs.Json.{Json}
use Rattle.rp_value.specs.declared.value.Value.{Value}
use Rattle.rp_value.specs.declared.value.Value.TheVariants.{Null}
use Rattle.rp_columns.specs.Readings.{reads_field, value_of}
use Rattle.rp_columns.specs.declared.columns.InputColumn.{InputColumn}
use Rattle.rp_columns.specs.declared.fault.ReadingFault.{ReadingFault}
use Rattle.rp_columns.specs.declared.reading.Reading.{Reading}
use Rattle.rp_objects.specs.Paths.{field_under, path_of}
use Rattle.rp_objects.specs.declared.fault.FieldFault.{FieldFault}
use Rattle.rp_objects.specs.declared.fault.FieldFault.TheVariants.{Reading as ReadingOf}

abbrev pub told_reading : Result Value ReadingFault → Result Value FieldFault
told_reading (Ok v) = Ok v
told_reading (Err why) = Err (ReadingOf why)

-- the value of a field, by the reading of its column, as of a CSV's field; none is null
abbrev pub value_in : List (List ℕ) → Reading → ℕ → Result (Option (List ℕ)) FieldFault → Result Value FieldFault
value_in words r number (Err why) = Err why
value_in words r number (Ok None) = Ok Null
value_in words r number (Ok (Some bytes)) = told_reading (value_of words r number bytes)

-- The cell of a column of the object of this number; one that reads no field has no path.
abbrev pub cell_of : List (List ℕ) → ℕ → Json → InputColumn → Result Value FieldFault
cell_of words number j c =
    if reads_field c.reading then value_in words c.reading number (field_under (path_of c.source) j)
    else told_reading (value_of words c.reading number [])

-- the cells of an object, or the first column that has none, by its index from this one on, and why
abbrev pub then_cell : ℕ → Result Value FieldFault → Result (List Value) (ℕ × FieldFault) → Result (List Value) (ℕ × FieldFault)
then_cell index (Err why) more = Err (index, why)
then_cell index (Ok v) (Ok vs) = Ok (v ∷ vs)
then_cell index (Ok v) (Err e) = Err e

abbrev pub cells_from : ℕ → List (List ℕ) → ℕ → Json → List InputColumn → Result (List Value) (ℕ × FieldFault)
cells_from index words number j [] = Ok []
cells_from index words number j (c ∷ cs) = then_cell index (cell_of words number j c) (cells_from (index + 1) words number j cs)
