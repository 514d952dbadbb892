-- What the answer to a question leaves behind.
use Rattle.std.specs.Prelude.{◌≡◌, ℕ, List, Option, Result, Ok, Err}
use Rattle.rp_value.specs.declared.value.Value.{Value}
use Rattle.rp_whole.specs.Answers.{Form, WritesFrontWithin, WritesWithin}
use Rattle.rp_io.specs.Counts.{raised}
use Rattle.rp_whole.specs.Faults.{IsOfOutput}
use Rattle.rp_whole.specs.declared.answers.EndedEarly.{EndedEarly}
use Rattle.rp_whole.specs.declared.fault.WholeFault.{WholeFault}
use Rattle.rp_whole.specs.declared.fault.WholeFault.TheVariants.{Csv, Write, OutOfMemory}
use Rattle.rp_question.specs.Asked.{AreRowsOfInputs}
use Rattle.rp_question.specs.Inputs.{InputsSeen}
use Rattle.rp_question.specs.Read.{AreNoRows}
use Rattle.rp_question.specs.declared.fault.AnswerFault.{AnswerFault}
use Rattle.rp_question.specs.declared.fault.AnswerFault.TheVariants.{Input, Output}
use Rattle.rp_question.specs.declared.question.Question.{Question}

-- Over some texts of the inputs, which are those that are known: the bytes written, where they are known too, grow by the answers over the
-- rows that are asked of,
abbrev pub Answers : Option ℕ → Form → Question → InputsSeen → Option (List ℕ) → Option (List ℕ) → EndedEarly → Type 0
Answers limit form question inputs old new early = (rows : List (List Value)) × AreRowsOfInputs question inputs rows
    × WritesWithin limit form question.query rows old new early.stopped.items early.halted.items

-- or by a front of them.
abbrev pub AnswersFront : Option ℕ → Form → Question → InputsSeen → Option (List ℕ) → Option (List ℕ) → Type 0
AnswersFront limit form question inputs old new = (rows : List (List Value)) × AreRowsOfInputs question inputs rows
    × WritesFrontWithin limit form question.query rows old new

-- Of inputs that have no rows nothing is written; a fault of the output leaves a front.
abbrev pub LeavesAnswer : Option ℕ → Form → Question → InputsSeen → Option (List ℕ) → Option (List ℕ) → AnswerFault → Type 0
LeavesAnswer limit form question inputs old new (Input why) = (new ≡ old) × AreNoRows question.reading inputs why
LeavesAnswer limit form question inputs old new (Output why) = IsOfOutput why × AnswersFront limit form question inputs old new

-- What answering comes to: all of the answer, and which partitions ended early, or a fault and what it leaves.
abbrev pub IsAnswered : Option ℕ → Form → Question → InputsSeen → Option (List ℕ) → Option (List ℕ) → Result EndedEarly AnswerFault → Type 0
IsAnswered limit form question inputs old new (Ok early) = Answers limit form question inputs old new early
IsAnswered limit form question inputs old new (Err why) = LeavesAnswer limit form question inputs old new why

-- Another write has failed where that is the fault of the output, and else none.
abbrev pub CountsWrite : WholeFault → ℕ → ℕ → Type 0
CountsWrite (Csv why) old new = new ≡ old
CountsWrite Write old new = new ≡ raised old
CountsWrite OutOfMemory old new = new ≡ old

-- The same of the fault of an answer.
abbrev pub CountsFailure : Result EndedEarly AnswerFault → ℕ → ℕ → Type 0
CountsFailure (Ok early) old new = new ≡ old
CountsFailure (Err (Input why)) old new = new ≡ old
CountsFailure (Err (Output why)) old new = CountsWrite why old new
