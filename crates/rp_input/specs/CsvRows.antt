-- The rows of a CSV text, and its first fault.
use Rattle.std.specs.Prelude.{◌≡◌, ◌≢◌, ◌⊎◌, ◌<◌, ◌≤◌, ◌+◌, ⊤, ℕ, List, [], ◌∷◌, ◌++◌, length}
use Rattle.csv.specs.Reading.{default_config, records, strip_bom}
use Rattle.rp_value.specs.Tables.{kinds_of}
use Rattle.rp_value.specs.declared.table.Column.{Column}
use Rattle.rp_value.specs.declared.value.Kind.{Kind}
use Rattle.rp_value.specs.declared.value.Value.{Value}
use Rattle.rp_input.specs.Fields.{HasNoField, IsRow}
use Rattle.rp_input.specs.Headers.{NamesColumns}
use Rattle.rp_input.specs.declared.rows.CsvFault.{CsvFault}
use Rattle.rp_input.specs.declared.rows.CsvFault.TheVariants.{Header, Record, Field, OutOfMemory}

-- The most records that a text may have beside its header: own. It is 2^40, more than memory holds, so that the numbers of rows stay far
-- below 2^64.
abbrev pub most_records : ℕ
most_records = 1099511627776

-- the records of a text as csv reads it, without the byte order mark that it may begin with
abbrev pub csv_records : List ℕ → List (List (List ℕ))
csv_records text = records default_config (strip_bom text)

-- the records are these rows
abbrev pub AreRows : List Kind → List (List (List ℕ)) → List (List Value) → Type 0
AreRows kinds [] [] = ⊤
AreRows kinds (r ∷ rs) (row ∷ rows) = IsRow kinds r row × AreRows kinds rs rows
AreRows kinds _ _ = ⊥

-- the text is a header of the columns and then the records of these rows
pub record AreRowsOf (columns : List Column) (text : List ℕ) (rows : List (List Value)) : Type 0 where
  pub header : List (List ℕ)
  pub records : List (List (List ℕ))
  pub all : csv_records text ≡ header ∷ records
  pub named : NamesColumns columns header
  pub are : AreRows (kinds_of columns) records rows
  pub few : length records ≤ most_records

-- why the fields of a record are no row of columns of these kinds
abbrev pub Reason : Type 1
Reason = List Kind → List (List ℕ) → Type 0

-- the first record of a text that is no row, by its number from 1: the header names the columns, and the records before
-- are rows
pub record IsFirstFault (columns : List Column) (text : List ℕ) (number : ℕ) (Why : Reason) : Type 0 where
  pub header : List (List ℕ)
  pub before : List (List (List ℕ))
  pub fields : List (List ℕ)
  pub after : List (List (List ℕ))
  pub rows : List (List Value)
  pub all : csv_records text ≡ header ∷ (before ++ fields ∷ after)
  pub named : NamesColumns columns header
  pub are : AreRows (kinds_of columns) before rows
  pub few : length before ≤ most_records
  pub place : number ≡ length before + 1
  pub why : Why (kinds_of columns) fields

-- there is no first record, or it does not name the columns
abbrev pub HasNoHeader : List Column → List ℕ → Type 0
HasNoHeader columns text = (csv_records text ≡ [])
    ⊎ ((header : List (List ℕ)) × (rest : List (List (List ℕ))) × (csv_records text ≡ header ∷ rest)
    × (NamesColumns columns header → ⊥))

-- The first fault of a text: the header's, or the first record that is no row, where its length is looked at before its
-- fields, and one beyond the limit counts as one of another length.
abbrev pub IsTextFault : List Column → List ℕ → CsvFault → Type 0
IsTextFault columns text Header = HasNoHeader columns text
IsTextFault columns text (Record n) =
    IsFirstFault columns text n (λ kinds fields. (length fields ≢ length kinds) ⊎ (most_records < n))
IsTextFault columns text (Field n) = (n ≤ most_records)
    × IsFirstFault columns text n (λ kinds fields. (length fields ≡ length kinds) × HasNoField kinds fields)
IsTextFault columns text OutOfMemory = ⊤
IsTextFault columns text _ = ⊥

-- why the record of a number is no row
abbrev pub IsRowFault : List Kind → List (List ℕ) → ℕ → CsvFault → Type 0
IsRowFault kinds fields number (Record n) = (n ≡ number) × (length fields ≢ length kinds)
IsRowFault kinds fields number (Field n) = (n ≡ number) × (length fields ≡ length kinds) × HasNoField kinds fields
IsRowFault kinds fields number OutOfMemory = ⊤
IsRowFault kinds fields number _ = ⊥

-- one more record was taken, as the next of these rows
abbrev pub TakesOne : List Kind → List (List ℕ) → List (List Value) → List (List Value) → Type 0
TakesOne kinds fields old new = (row : List Value) × IsRow kinds fields row × (new ≡ old ++ row ∷ [])
