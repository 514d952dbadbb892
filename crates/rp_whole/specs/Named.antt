-- In an answer that has output rows alone, names head the cells: those of a CSV's header, and those of an object's members.
use Rattle.std.specs.Prelude.{◌≡◌, ℕ, List, [], ◌∷◌, map, length, All, Contains, Option}
use Rattle.std.specs.List.{flat_map}
use Rattle.rp_value.specs.declared.value.Value.{Value}
use Rattle.rp_query.specs.declared.query.QueryData.{QueryData}
use Rattle.rp_query.specs.declared.item.Item.{Item}
use Rattle.rp_query.specs.declared.item.Item.TheVariants.{Row, Fault, End}
use Rattle.rp_query.specs.Keys.{AreRowsOver}
use Rattle.rp_query.specs.Sound.{IsSound}
use Rattle.rp_protocol.specs.ObjectsRead.{AreNamedApart, HasCells, IsReadBack}
use Rattle.rp_protocol.specs.Within.{AreCells}
use Rattle.rp_known.specs.Named.{IsNamed}
use Rattle.rp_known.specs.Typed.{AreTyped}
use Rattle.rp_known.specs.Walk.{known}
use Rattle.rp_numbering.specs.Partitions.{Part}
use Rattle.rp_table.specs.ReadBack.{Reads, records_text}
use Rattle.rp_table.specs.RecordTexts.{field_of}
use Rattle.rp_whole.specs.Answers.{closed}
use Rattle.rp_whole.specs.AnswerObjects.{AreObjectsOver, object_line}
use Rattle.rp_whole.specs.AnswerRecords.{AreRecordsOf, AreRecordsOver}
use Rattle.rp_whole.specs.AnswerRows.{output_names}
use Rattle.rp_whole.specs.declared.stopped.Stopped.{Stopped}

-- the cells of an item that is an output row
abbrev pub row_of : Item → List (List Value)
row_of (Row number cells) = cells ∷ []
row_of (Fault fault) = []
row_of End = []

-- the cells of the output rows of a partition's answer, in their order
abbrev pub part_rows : QueryData → Part → List (List Value)
part_rows q part = flat_map row_of (known q (closed part.1))

-- the cells of an output row of one of these partitions, one for each output column
abbrev pub IsOutputRow : QueryData → List Part → List Value → Type 0
IsOutputRow q parts cells =
    (part : Part) × (number : Option ℕ) × Contains parts part × IsNamed q (closed part.1) (Row number cells)

-- the rows of these partitions are rows of the query's table
abbrev pub AreOfTable : QueryData → List Part → Type 0
AreOfTable q parts = All (λ part. AreRowsOver q.table part.1) parts

-- these are the output rows of these partitions, of one partition after another
pub record AreOutputRows (q : QueryData) (parts : List Part) (rows : List (List Value)) : Type 0 where
  pub all : rows ≡ flat_map (part_rows q) parts
  pub many : All (λ cells. length cells ≡ length (output_names q)) rows
  pub named : All (IsOutputRow q parts) rows
  -- Each cell is null or of its column's kind: the query is sound, as every `Query` is.
  pub typed : IsSound q → AreOfTable q parts → All (AreTyped q.output.items) rows

-- ---- CSV

-- the fields of a header of these names, and of the records of cells below it
abbrev pub header_and_rows : List (List ℕ) → List (List Value) → List (List (List ℕ))
header_and_rows names rows = names ∷ map (map field_of) rows

-- A CSV has a record of the names of the output columns, and below it a record for each output row of these partitions, in their order:
-- under each name the cells of the output column that has it. A reader of CSV reads just these.
pub record IsNamedTable (q : QueryData) (parts : List Part) (csv : List ℕ) : Type 0 where
  pub rows : List (List Value)
  pub are : csv ≡ records_text (header_and_rows (output_names q) rows)
  pub shown : AreOutputRows q parts rows
  pub read : Reads csv (header_and_rows (output_names q) rows)

-- The header names the cells below it,
abbrev pub HeaderNames : Type 0
HeaderNames = (q : QueryData) (rows : List (List Value)) (csv : List ℕ) (stopped : List Stopped) →
    (records : AreRecordsOver q rows csv stopped) → IsNamedTable q records.parts csv

-- and where the rows were read of a text, they are of the query's table.
abbrev pub HeaderNamesOf : Type 0
HeaderNamesOf = (q : QueryData) (text csv : List ℕ) (stopped : List Stopped) →
    (records : AreRecordsOf q text csv stopped) →
    IsNamedTable q records.over.parts csv × AreOfTable q records.over.parts

-- ---- objects

-- A text has a line for each output row of these partitions, in their order: an object that has, under the name of each output column,
-- the cell of this column. A reader of JSON reads just this object.
pub record AreNamedObjects (q : QueryData) (parts : List Part) (text : List ℕ) : Type 0 where
  pub rows : List (List Value)
  pub are : text ≡ flat_map (object_line q) rows
  pub shown : AreOutputRows q parts rows
  -- a whole number has 64 bits with sign, as each of a row has
  pub read : All (λ cells. AreCells cells → IsReadBack q.output.items cells) rows
  -- no two output columns have one name, as in each query of a clause
  pub found : AreNamedApart q.output.items → All (HasCells q.output.items) rows

-- Each object names its cells.
abbrev pub ObjectsName : Type 0
ObjectsName = (q : QueryData) (rows : List (List Value)) (text : List ℕ) (stopped : List Stopped) →
    (objects : AreObjectsOver q rows text stopped) → AreNamedObjects q objects.parts text
