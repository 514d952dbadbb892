-- The CSV records that answer a query.
use Rattle.std.specs.Prelude.{ℕ, List, Option}
use Rattle.rp_value.specs.declared.value.Value.{Value}
use Rattle.rp_query.specs.declared.query.QueryData.{QueryData}
use Rattle.rp_table.specs.RecordTexts.{cells_record, names_record}
use Rattle.rp_whole.specs.Answers.{AreAnswersOf, AreAnswersOver, Form, WritesFrontOf, WritesOf}
use Rattle.rp_whole.specs.AnswerRows.{output_names, row_form}
use Rattle.rp_whole.specs.declared.stopped.Stopped.{Stopped}

-- the first record
abbrev pub header_text : QueryData → List ℕ
header_text q = names_record (output_names q)

-- a record for each output row, below a header
abbrev pub record_form : Form
record_form = row_form header_text (λ q cells. cells_record cells)

-- the CSV over rows: below the header each of their partitions, in order, has the records of its answer's rows
abbrev pub AreRecordsOver : QueryData → List (List Value) → List ℕ → List Stopped → Type 0
AreRecordsOver q rows csv stopped = AreAnswersOver record_form q rows csv stopped

-- the CSV of a text: it is a header and the records of rows, and this is the CSV over them
abbrev pub AreRecordsOf : QueryData → List ℕ → List ℕ → List Stopped → Type 0
AreRecordsOf q text csv stopped = AreAnswersOf record_form q text csv stopped

-- Where the bytes of the input are known: those written, where they are known too, grow by its CSV.
abbrev pub WritesRecords : QueryData → Option (List ℕ) → Option (List ℕ) → Option (List ℕ) → List Stopped → Type 0
WritesRecords q input old new stopped = WritesOf record_form q input old new stopped

-- they grow by a front of its CSV
abbrev pub WritesRecordsFront : QueryData → Option (List ℕ) → Option (List ℕ) → Option (List ℕ) → Type 0
WritesRecordsFront q input old new = WritesFrontOf record_form q input old new
