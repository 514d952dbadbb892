-- What an answer that has output rows alone, a CSV or lines of objects, is to its reader: under each name is the cell of the output column
-- of that name, and no two of them have one name. It is said of the text of a clause and the texts of inputs. (own)
use Rattle.std.specs.Prelude.{◌≡◌, ⊤, ℕ, List, [], All, Option, None}
use Rattle.std.specs.List.{flat_map}
use Rattle.rp_value.specs.Tables.{table_fault}
use Rattle.rp_value.specs.declared.table.Column.{Column}
use Rattle.rp_value.specs.declared.value.Value.{Value}
use Rattle.rp_query.specs.Sound.{IsSound}
use Rattle.rp_query.specs.declared.item.Item.{Item}
use Rattle.rp_query.specs.declared.item.Item.TheVariants.{Row, Fault, End}
use Rattle.rp_query.specs.declared.query.QueryData.{QueryData}
use Rattle.rp_protocol.specs.ObjectsRead.{AreNamedApart, HasCells, IsReadBack}
use Rattle.rp_protocol.specs.Within.{AreCells}
use Rattle.rp_known.specs.Known.{Known}
use Rattle.rp_known.specs.Typed.{AreTyped}
use Rattle.rp_known.specs.Walk.{known}
use Rattle.rp_numbering.specs.Numbered.{AreOrderedParts}
use Rattle.rp_numbering.specs.Partitions.{Part}
use Rattle.rp_table.specs.ReadBack.{Reads, records_text}
use Rattle.rp_compile.specs.Compiled.{IsCompiled}
use Rattle.rp_whole.specs.Answers.{AreAnswersWithin}
use Rattle.rp_whole.specs.AnswerObjects.{object_form, object_line}
use Rattle.rp_whole.specs.AnswerRecords.{record_form}
use Rattle.rp_whole.specs.AnswerRows.{output_names}
use Rattle.rp_whole.specs.Named.{IsOutputRow, header_and_rows, part_rows}
use Rattle.rp_whole.specs.declared.stopped.Stopped.{Stopped}
use Rattle.rp_question.specs.Asked.{AreRowsAsked}
use Rattle.rp_question.specs.Read.{columns_seen}
use Rattle.rp_question.specs.declared.question.Question.{Question}

-- the columns make a table
abbrev pub IsTable : List Column → Type 0
IsTable columns = table_fault columns ≡ None

-- The question asks the clause of this text: over the columns that it sees its query was compiled from the text. These columns make a
-- table, as those of each input do, and each query that there is is sound.
pub record Asks (question : Question) (clause : List ℕ) : Type 0 where
  pub table : IsTable (columns_seen question.reading.shape.now)
  pub compiled : IsCompiled clause (columns_seen question.reading.shape.now) question.query
  pub sound : IsSound question.query

-- the whole numbers in the cells of these rows have 64 bits with sign
abbrev pub AreRowsOfCells : List (List Value) → Type 0
AreRowsOfCells rows = All AreCells rows

-- so have those of an output row
abbrev pub IsOfCells : Item → Type 0
IsOfCells (Row number cells) = AreCells cells
IsOfCells (Fault fault) = ⊤
IsOfCells End = ⊤

-- The cells of the output rows over these rows, whose partitions are put into order: those of each partition's answer, of one after
-- another. In each of these lists there is a cell for each output column, what that column has at a row of a match or at one that is in
-- none, and it is null or of the column's kind.
pub record AreShown (q : QueryData) (rows : List (List Value)) (shown : List (List Value)) : Type 0 where
  pub parts : List Part
  pub ordered : AreOrderedParts q.partition.items q.order.items rows parts
  pub all : shown ≡ flat_map (part_rows q) parts
  pub named : All (IsOutputRow q parts) shown
  pub typed : All (AreTyped q.output.items) shown

-- A CSV is a record of the names of the output columns, and below it a record for each output row, with its cells in the same order. A
-- reader of CSV reads just these.
pub record IsTableOver (q : QueryData) (rows : List (List Value)) (csv : List ℕ) : Type 0 where
  pub shown : List (List Value)
  pub are : AreShown q rows shown
  pub text : csv ≡ records_text (header_and_rows (output_names q) shown)
  pub read : Reads csv (header_and_rows (output_names q) shown)

-- A text has a line for each output row. A reader of JSON reads it as the object that has, under the name of each output column, the cell
-- of this column.
pub record AreReadObjects (q : QueryData) (rows : List (List Value)) (text : List ℕ) : Type 0 where
  pub shown : List (List Value)
  pub are : AreShown q rows shown
  pub lines : text ≡ flat_map (object_line q) shown
  pub read : All (IsReadBack q.output.items) shown
  pub found : All (HasCells q.output.items) shown

-- ---- laws

-- No two output columns of a clause have one name.
abbrev pub NamesAreApart : Type 0
NamesAreApart =
    (clause : List ℕ) (columns : List Column) (q : QueryData) → IsTable columns → IsCompiled clause columns q → AreNamedApart q.output.items

-- Over cells of 64 bits output rows have cells of 64 bits: a measure is null where its value is outside of them.
abbrev pub CellsStayWithin : Type 0
CellsStayWithin =
    (clause : List ℕ) (columns : List Column) (q : QueryData) (p : Known) → IsCompiled clause columns q →
    AreRowsOfCells p.rows → All IsOfCells (known q p)

-- A CSV of the answers over the rows that are asked of, where none was given up, is a table,
abbrev pub RecordsAreRead : Type 0
RecordsAreRead =
    (clause : List ℕ) (question : Question) (texts : List (List ℕ)) (rows : List (List Value)) (limit : Option ℕ) (csv : List ℕ)
    (stopped : List Stopped) →
    Asks question clause → AreRowsAsked question texts rows →
    AreAnswersWithin limit record_form question.query rows csv stopped [] → IsTableOver question.query rows csv

-- and objects of them are read as these have it.
abbrev pub ObjectsAreRead : Type 0
ObjectsAreRead =
    (clause : List ℕ) (question : Question) (texts : List (List ℕ)) (rows : List (List Value)) (limit : Option ℕ) (text : List ℕ)
    (stopped : List Stopped) →
    Asks question clause → AreRowsAsked question texts rows → AreRowsOfCells rows →
    AreAnswersWithin limit object_form question.query rows text stopped [] → AreReadObjects question.query rows text
