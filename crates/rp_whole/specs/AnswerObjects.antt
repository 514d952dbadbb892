-- The objects that answer a query, a line each.
use Rattle.std.specs.Prelude.{ℕ, List, [], ◌∷◌, ◌++◌}
use Rattle.rp_value.specs.declared.value.Value.{Value}
use Rattle.rp_query.specs.declared.query.QueryData.{QueryData}
use Rattle.rp_protocol.specs.ObjectTexts.{object_text}
use Rattle.rp_whole.specs.Answers.{AreAnswersOver, Form}
use Rattle.rp_whole.specs.AnswerRows.{row_form}
use Rattle.rp_whole.specs.declared.stopped.Stopped.{Stopped}

-- the line of an output row: its cells under the names of the output columns
abbrev pub object_line : QueryData → List Value → List ℕ
object_line q cells = object_text q.output.items cells ++ 10 ∷ []

-- an object for each output row
abbrev pub object_form : Form
object_form = row_form (λ q. []) object_line

-- the objects over rows: each of their partitions, in order, has those of its answer's rows
abbrev pub AreObjectsOver : QueryData → List (List Value) → List ℕ → List Stopped → Type 0
AreObjectsOver q rows text stopped = AreAnswersOver object_form q rows text stopped
