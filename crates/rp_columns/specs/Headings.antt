-- The table that columns make.
use Rattle.std.specs.Prelude.{List, map}
use Rattle.rp_value.specs.declared.table.Column.{Column}
use Rattle.rp_value.specs.declared.value.Kind.{Kind}
use Rattle.rp_value.specs.declared.value.Kind.TheVariants as kinds
use Rattle.rp_columns.specs.Readings.{kind_of}
use Rattle.rp_columns.specs.declared.columns.InputColumn.{InputColumn}
use Rattle.rp_columns.specs.declared.reading.Reading.{Reading}
use Rattle.rp_columns.specs.declared.reading.Reading.TheVariants as reading

-- a column as clauses see it
abbrev pub heading : InputColumn → Column
heading c = record { name = c.name; kind = kind_of c.reading }

-- columns as clauses see them
abbrev pub headings : List InputColumn → List Column
headings columns = map heading columns

-- how fields of a kind are read, where nothing more is said
abbrev pub reading_of : Kind → Reading
reading_of kinds.Text = reading.Text
reading_of kinds.Int = reading.Int

-- a column of a table, read as its kind from the field of its own name
abbrev pub column_for : Column → InputColumn
column_for c = record { name = c.name; reading = reading_of c.kind; source = c.name }

abbrev pub columns_for : List Column → List InputColumn
columns_for columns = map column_for columns
