-- The rows of a CSV text by columns that are computed, and its first fault.
use Rattle.std.specs.Prelude.{◌≡◌, ◌≢◌, ◌⊎◌, ◌<◌, ◌≤◌, ◌+◌, ⊤, MatchBool, true, ℕ, List, [], ◌∷◌, ◌++◌, length, take, slice_get, Some, Ok, Err}
use Rattle.rp_value.specs.declared.value.Value.{Value}
use Rattle.rp_columns.specs.Readings.{reads_field}
use Rattle.rp_columns.specs.declared.columns.InputColumn.{InputColumn}
use Rattle.rp_input.specs.CsvRows.{most_records}
use Rattle.rp_input.specs.Layouts.{records_by}
use Rattle.rp_input.specs.Placed.{ArePlaced, IsDouble, IsMissing, cells_from, fields_read, places_from}
use Rattle.rp_input.specs.declared.columns_fault.ColumnsCsvFault.{ColumnsCsvFault}
use Rattle.rp_input.specs.declared.columns_fault.ColumnsCsvFault.TheVariants.{Header, Missing, Double, Record, Field, Read, Turns, OutOfMemory}
use Rattle.rp_input.specs.declared.layout.CsvLayout.{CsvLayout}
use Rattle.rp_input.specs.declared.placed.Placed.{Placed}

-- All records are a header in which each column has its place, and these, which have as many fields.
pub record AreBelowHeader (columns : List InputColumn) (all : List (List (List ℕ))) (placed : List Placed) (width : ℕ) (records : List (List (List ℕ))) : Type 0 where
  pub header : List (List ℕ)
  pub first : all ≡ header ∷ records
  pub places : ArePlaced header columns placed
  pub wide : width ≡ length header

-- All records are these, and their fields are those that the columns read, in order.
pub record AreInOrder (columns : List InputColumn) (all : List (List (List ℕ))) (placed : List Placed) (width : ℕ) (records : List (List (List ℕ))) : Type 0 where
  pub same : all ≡ records
  pub places : placed ≡ places_from 0 columns
  pub wide : width ≡ fields_read columns

-- The records of a text of this layout below its header, where the columns stand in each, and how many fields it has to have.
abbrev pub AreLaidOut : CsvLayout → List InputColumn → List ℕ → List Placed → ℕ → List (List (List ℕ)) → Type 0
AreLaidOut layout columns text placed width records = MatchBool layout.has_header
    (AreBelowHeader columns (records_by layout.delimiter text) placed width records)
    (AreInOrder columns (records_by layout.delimiter text) placed width records)

-- the record of this number has so many fields, and its cells by the readings are this row
abbrev pub IsRowBy : List (List ℕ) → List Placed → ℕ → ℕ → List (List ℕ) → List Value → Type 0
IsRowBy words placed width number fields row = (length fields ≡ width) × (cells_from 0 words number placed fields ≡ Ok row)

-- the records, numbered from this one on, are these rows
abbrev pub AreRowsBy : List (List ℕ) → List Placed → ℕ → ℕ → List (List (List ℕ)) → List (List Value) → Type 0
AreRowsBy words placed width number [] [] = ⊤
AreRowsBy words placed width number (r ∷ rs) (row ∷ rows) = IsRowBy words placed width number r row × AreRowsBy words placed width (number + 1) rs rows
AreRowsBy words placed width number _ _ = ⊥

-- the records of the text, numbered from 1, are these rows
pub record AreRowsByColumns (words : List (List ℕ)) (layout : CsvLayout) (columns : List InputColumn) (text : List ℕ) (rows : List (List Value)) : Type 0 where
  pub records : List (List (List ℕ))
  pub placed : List Placed
  pub width : ℕ
  pub laid_out : AreLaidOut layout columns text placed width records
  pub are : AreRowsBy words placed width 1 records rows
  pub few : length records ≤ most_records

-- why the fields of a record are no row of columns at these places, where it has to have so many
abbrev pub Reason : Type 1
Reason = List Placed → ℕ → List (List ℕ) → Type 0

-- the first record of a text that is no row, by its number from 1
pub record IsFirstBad (words : List (List ℕ)) (layout : CsvLayout) (columns : List InputColumn) (text : List ℕ) (number : ℕ) (Why : Reason) : Type 0 where
  pub before : List (List (List ℕ))
  pub fields : List (List ℕ)
  pub after : List (List (List ℕ))
  pub placed : List Placed
  pub width : ℕ
  pub rows : List (List Value)
  pub laid_out : AreLaidOut layout columns text placed width (before ++ fields ∷ after)
  pub are : AreRowsBy words placed width 1 before rows
  pub few : length before ≤ most_records
  pub place : number ≡ length before + 1
  pub why : Why placed width fields

-- the column of this index, from 0, has no one place in the header; those before it have
pub record IsUnplaced (columns : List InputColumn) (header : List (List ℕ)) (index : ℕ) (Why : List ℕ → List (List ℕ) → Type 0) : Type 0 where
  pub placed : List Placed
  pub before : ArePlaced header (take index columns) placed
  pub column : InputColumn
  pub is : slice_get columns index ≡ Some column
  pub reads : reads_field column.reading ≡ true
  pub why : Why column.source header

-- the text has a header, and this is wrong with it
abbrev pub HasHeader : ℕ → List ℕ → (List (List ℕ) → Type 0) → Type 0
HasHeader delimiter text Why = (header : List (List ℕ)) × (rest : List (List (List ℕ))) × (records_by delimiter text ≡ header ∷ rest) × Why header

-- The first fault of a text: that it has to have a header and has none; that a column has no place in it, or more than one; or the first record that
-- is no row, where its length is looked at before its fields, and one beyond the limit counts as one of another length.
abbrev pub IsByColumnsFault : List (List ℕ) → CsvLayout → List InputColumn → List ℕ → ColumnsCsvFault → Type 0
IsByColumnsFault words layout columns text Header = (layout.has_header ≡ true) × (records_by layout.delimiter text ≡ [])
IsByColumnsFault words layout columns text (Missing index) =
    (layout.has_header ≡ true) × HasHeader layout.delimiter text (λ header. IsUnplaced columns header index IsMissing)
IsByColumnsFault words layout columns text (Double index) =
    (layout.has_header ≡ true) × HasHeader layout.delimiter text (λ header. IsUnplaced columns header index IsDouble)
IsByColumnsFault words layout columns text (Record n) =
    IsFirstBad words layout columns text n (λ placed width fields. (length fields ≢ width) ⊎ (most_records < n))
IsByColumnsFault words layout columns text (Field n index why) = (n ≤ most_records)
    × IsFirstBad words layout columns text n (λ placed width fields. (length fields ≡ width) × (cells_from 0 words n placed fields ≡ Err (index, why)))
IsByColumnsFault words layout columns text OutOfMemory = ⊤
IsByColumnsFault words layout columns text _ = ⊥

-- why a header has no places for the columns
abbrev pub IsPlacesFault : List InputColumn → List (List ℕ) → ColumnsCsvFault → Type 0
IsPlacesFault columns header (Missing index) = IsUnplaced columns header index IsMissing
IsPlacesFault columns header (Double index) = IsUnplaced columns header index IsDouble
IsPlacesFault columns header OutOfMemory = ⊤
IsPlacesFault columns header _ = ⊥

-- why a text has no header for the columns
abbrev pub IsHeaderFault : ℕ → List InputColumn → List ℕ → ColumnsCsvFault → Type 0
IsHeaderFault delimiter columns text Header = records_by delimiter text ≡ []
IsHeaderFault delimiter columns text (Missing index) = HasHeader delimiter text (λ header. IsUnplaced columns header index IsMissing)
IsHeaderFault delimiter columns text (Double index) = HasHeader delimiter text (λ header. IsUnplaced columns header index IsDouble)
IsHeaderFault delimiter columns text OutOfMemory = ⊤
IsHeaderFault delimiter columns text _ = ⊥

-- why the record of a number is no row
abbrev pub IsRecordFault : List (List ℕ) → List Placed → ℕ → List (List ℕ) → ℕ → ColumnsCsvFault → Type 0
IsRecordFault words placed width fields number (Record n) = (n ≡ number) × (length fields ≢ width)
IsRecordFault words placed width fields number (Field n index why) = (n ≡ number) × (length fields ≡ width) × (cells_from 0 words number placed fields ≡ Err (index, why))
IsRecordFault words placed width fields number OutOfMemory = ⊤
IsRecordFault words placed width fields number _ = ⊥

-- one more record was taken, as the next of these rows
abbrev pub TakesRow : List (List ℕ) → List Placed → ℕ → ℕ → List (List ℕ) → List (List Value) → List (List Value) → Type 0
TakesRow words placed width number fields old new = (row : List Value) × IsRowBy words placed width number fields row × (new ≡ old ++ row ∷ [])
