-- Where the columns of an input stand in its records, and the cells of a record by their readings.
use Rattle.std.specs.Prelude.{◌≡◌, ◌⊎◌, ⊤, Bool, MatchBool, true, false, ℕ, ◌+◌, ◌<◌, List, [], ◌∷◌, length, filter, Option, Some, None, Result, Ok, Err, if◌then◌else◌}
use Rattle.csv.specs.Records.{field_at}
use Rattle.rp_value.specs.Names.{IsUpperCaseName}
use Rattle.rp_value.specs.declared.value.Value.{Value}
use Rattle.rp_columns.specs.Readings.{reads_field, value_of}
use Rattle.rp_columns.specs.declared.columns.InputColumn.{InputColumn}
use Rattle.rp_columns.specs.declared.fault.ReadingFault.{ReadingFault}
use Rattle.rp_columns.specs.declared.fault.ReadingFault.TheVariants.{OutOfMemory}
use Rattle.rp_input.specs.declared.placed.CellFault.{CellFault}
use Rattle.rp_input.specs.declared.placed.CellFault.TheVariants as cell_fault
use Rattle.rp_input.specs.declared.placed.Found.{Found}
use Rattle.rp_input.specs.declared.placed.Found.TheVariants.{Nowhere, Once, Twice}
use Rattle.rp_input.specs.declared.placed.Placed.{Placed}

-- a field of a header names this source: it is the name, or has the form of a name whose upper-case form that is
abbrev pub NamesSource : List ℕ → List ℕ → Type 0
NamesSource source field = (field ≡ source) ⊎ IsUpperCaseName field source

-- the field at a place does
abbrev pub NamesAt : List ℕ → List (List ℕ) → ℕ → Type 0
NamesAt source header place = (field : List ℕ) × (field_at header place ≡ Some field) × NamesSource source field

-- it does, and no other field does
pub record IsOnlyPlace (source : List ℕ) (header : List (List ℕ)) (place : ℕ) : Type 0 where
  pub names : NamesAt source header place
  pub only : (other : ℕ) → NamesAt source header other → other ≡ place

-- no field names it
abbrev pub IsMissing : List ℕ → List (List ℕ) → Type 0
IsMissing source header = (place : ℕ) → NamesAt source header place → ⊥

-- two fields name it
pub record IsDouble (source : List ℕ) (header : List (List ℕ)) : Type 0 where
  pub first : ℕ
  pub second : ℕ
  pub two : first < second
  pub names : NamesAt source header first
  pub also : NamesAt source header second

-- a column that reads a field has this one place in the header
abbrev pub HasPlace : List (List ℕ) → InputColumn → ℕ → Type 0
HasPlace header c place = MatchBool (reads_field c.reading) (IsOnlyPlace c.source header place) ⊤

-- each column that reads a field has one place in the header
abbrev pub ArePlaced : List (List ℕ) → List InputColumn → List Placed → Type 0
ArePlaced header [] [] = ⊤
ArePlaced header (c ∷ cs) (p ∷ ps) = (p.reading ≡ c.reading) × HasPlace header c p.place × ArePlaced header cs ps
ArePlaced header _ _ = ⊥

-- the place behind a column's field
abbrev pub place_after : InputColumn → ℕ → ℕ
place_after c place = if reads_field c.reading then place + 1 else place

-- columns whose fields stand in their order, from this place on
abbrev pub places_from : ℕ → List InputColumn → List Placed
places_from place [] = []
places_from place (c ∷ cs) = record { reading = c.reading; place = place } ∷ places_from (place_after c place) cs

-- how many fields columns read
abbrev pub fields_read : List InputColumn → ℕ
fields_read columns = length (filter (λ c. reads_field c.reading) columns)

-- the field of a record at a place; empty, where there is none
abbrev pub field_or_empty : Option (List ℕ) → List ℕ
field_or_empty None = []
field_or_empty (Some field) = field

-- the cell of the record of this number
abbrev pub cell_of : List (List ℕ) → ℕ → List (List ℕ) → Placed → Result Value ReadingFault
cell_of words number fields p = value_of words p.reading number (field_or_empty (field_at fields p.place))

-- the cells of a record, or the first column that has none, by its index from this one on, and why
abbrev pub then_cell : ℕ → Result Value ReadingFault → Result (List Value) (ℕ × ReadingFault) → Result (List Value) (ℕ × ReadingFault)
then_cell index (Err why) more = Err (index, why)
then_cell index (Ok v) (Ok vs) = Ok (v ∷ vs)
then_cell index (Ok v) (Err e) = Err e

abbrev pub cells_from : ℕ → List (List ℕ) → ℕ → List Placed → List (List ℕ) → Result (List Value) (ℕ × ReadingFault)
cells_from index words number [] fields = Ok []
cells_from index words number (p ∷ ps) fields = then_cell index (cell_of words number fields p) (cells_from (index + 1) words number ps fields)

-- where a name stands in a header
abbrev pub IsFound : List ℕ → List (List ℕ) → Found → Type 0
IsFound source header Nowhere = IsMissing source header
IsFound source header (Once place) = IsOnlyPlace source header place
IsFound source header Twice = IsDouble source header

-- where a column stands in a header; one that reads no field is told a place that says nothing
abbrev pub IsFoundFor : InputColumn → List (List ℕ) → Found → Type 0
IsFoundFor c header found = MatchBool (reads_field c.reading) (IsFound c.source header found) (found ≡ Once 0)

-- where a name stands, with one more place, where it stands too or doesn't
abbrev pub with_place : Found → Bool → ℕ → Found
with_place found false place = found
with_place Nowhere true place = Once place
with_place _ true place = Twice

-- how a field's fault is told, of the column of this index
abbrev pub told_at : ℕ → ReadingFault → CellFault
told_at index OutOfMemory = cell_fault.OutOfMemory
told_at index why = cell_fault.Field index why

-- why the record of a number has no cells, unless memory ran out
abbrev pub IsCellsFault : List (List ℕ) → ℕ → List Placed → List (List ℕ) → CellFault → Type 0
IsCellsFault words number columns fields (cell_fault.Field index why) = cells_from 0 words number columns fields ≡ Err (index, why)
IsCellsFault words number columns fields cell_fault.OutOfMemory = ⊤
