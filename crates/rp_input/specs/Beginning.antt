-- Inside: a reader of csv that stands before the first record that is to be a row.
use Rattle.std.specs.Prelude.{◌≡◌, ℕ, List, [], ◌∷◌, ◌++◌, length}
use Rattle.std.specs.Borrow.{Bor}
use Rattle.csv.specs.declared.reader.Reader.{Reader}
use Rattle.rp_columns.specs.declared.columns.InputColumn.{InputColumn}
use Rattle.rp_value.specs.declared.table.Column.{Column}
use Rattle.rp_input.specs.ByColumns.{AreLaidOut}
use Rattle.rp_input.specs.Headers.{NamesColumns}
use Rattle.rp_input.specs.Layouts.{records_by}
use Rattle.rp_input.specs.Placed.{ArePlaced}
use Rattle.rp_input.specs.Standing.{Stands}
use Rattle.rp_input.specs.declared.layout.CsvLayout.{CsvLayout}
use Rattle.rp_input.specs.declared.placed.Placed.{Placed}
use Rattle.rp_input.specs.declared.places.Places.{Places}

-- it has read a header, which names the columns of a table
pub record IsBelowHeader (columns : List Column) (text : List ℕ) (r : Reader (Bor (List ℕ))) : Type 0 where
  pub header : List (List ℕ)
  pub stands : Stands 44 text (header ∷ []) r
  pub named : NamesColumns columns header

-- it has read a header, in which each column has its place
pub record HasRead (delimiter : ℕ) (columns : List InputColumn) (text : List ℕ) (placed : List Placed) (width : ℕ) (r : Reader (Bor (List ℕ))) : Type 0 where
  pub header : List (List ℕ)
  pub stands : Stands delimiter text (header ∷ []) r
  pub places : ArePlaced header columns placed
  pub wide : width ≡ length header

-- it has read what comes before the records, and the columns stand at these places in each of them
pub record Begins (layout : CsvLayout) (columns : List InputColumn) (text : List ℕ) (placed : List Placed) (width : ℕ) (r : Reader (Bor (List ℕ))) : Type 0 where
  pub first : List (List (List ℕ))
  pub stands : Stands layout.delimiter text first r
  pub laid_out : (records : List (List (List ℕ))) → records_by layout.delimiter text ≡ first ++ records → AreLaidOut layout columns text placed width records

abbrev pub BeginsAt : CsvLayout → List InputColumn → List ℕ → Places → Reader (Bor (List ℕ)) → Type 0
BeginsAt layout columns text places r = Begins layout columns text places.columns.items places.width r
