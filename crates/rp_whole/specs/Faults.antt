-- What a fault of a run says of the input and of the devices.
use Rattle.std.specs.Prelude.{◌≡◌, ◌≢◌, ◌⊎◌, ⊤, ℕ, List, Option, IfSome, Result, Ok, Err}
use Rattle.rp_value.specs.declared.value.Value.{Value}
use Rattle.rp_query.specs.declared.query.QueryData.{QueryData}
use Rattle.rp_io.specs.Counts.{raised}
use Rattle.rp_io.specs.Reading.{Told}
use Rattle.rp_io.specs.Reading.Told.{Ended, Other}
use Rattle.rp_input.specs.Devices.{IsInputFault, fault_told as csv_told}
use Rattle.rp_input.specs.declared.rows.CsvFault.{CsvFault}
use Rattle.rp_input.specs.declared.rows.CsvFault.TheVariants.{Header, Record, Field, Read, Turns, OutOfMemory}
use Rattle.rp_whole.specs.Answers.{Form, WritesFrontOf, WritesFrontWithin, WritesWithin}
use Rattle.rp_whole.specs.AnswerLines.{WritesFront}
use Rattle.rp_whole.specs.AnswerRecords.{WritesRecordsFront}
use Rattle.rp_whole.specs.declared.answers.EndedEarly.{EndedEarly}
use Rattle.rp_whole.specs.declared.fault.WholeFault.{WholeFault}
use Rattle.rp_whole.specs.declared.fault.WholeFault.TheVariants.{Csv, Write, OutOfMemory as WholeOutOfMemory}

-- the fault of a run for one of its input
abbrev pub told_csv : CsvFault → WholeFault
told_csv Header = Csv Header
told_csv (Record n) = Csv (Record n)
told_csv (Field n) = Csv (Field n)
told_csv Read = Csv Read
told_csv Turns = Csv Turns
told_csv OutOfMemory = WholeOutOfMemory

-- Of a refused input nothing is written. A write that fails leaves a front of what is to be written, and being out of memory, which is
-- told as such wherever it comes, nothing or a front of it.
abbrev pub Leaves : QueryData → Option (List ℕ) → Option (List ℕ) → Option (List ℕ) → Type 0 → WholeFault → Type 0
Leaves q input old new front (Csv why) = (why ≢ OutOfMemory) × (new ≡ old) × IfSome input (λ text. IsInputFault q.table text why)
Leaves q input old new front Write = front
Leaves q input old new front WholeOutOfMemory = (new ≡ old) ⊎ front

-- what a run that writes answers in a form leaves after a fault
abbrev pub LeavesOf : Form → QueryData → Option (List ℕ) → Option (List ℕ) → Option (List ℕ) → WholeFault → Type 0
LeavesOf form q input old new = Leaves q input old new (WritesFrontOf form q input old new)

-- what a run that writes lines leaves after a fault
abbrev pub LeavesFront : QueryData → Option (List ℕ) → Option (List ℕ) → Option (List ℕ) → WholeFault → Type 0
LeavesFront q input old new = Leaves q input old new (WritesFront q input old new)

-- what a run that writes records leaves after a fault
abbrev pub LeavesRecords : QueryData → Option (List ℕ) → Option (List ℕ) → Option (List ℕ) → WholeFault → Type 0
LeavesRecords q input old new = Leaves q input old new (WritesRecordsFront q input old new)

-- What a fault of a run tells of its reads. A fault of the output comes when all of the input was read, and memory may run out
-- before or after.
abbrev pub fault_told : WholeFault → Told
fault_told (Csv why) = csv_told why
fault_told Write = Other
fault_told WholeOutOfMemory = Other

-- what a run tells of its reads
abbrev pub whole_told : {X : Type 0} → Result X WholeFault → Told
whole_told (Ok done) = Ended
whole_told (Err fault) = fault_told fault

-- One more write has failed where that is the fault, and else none.
abbrev pub TellsWrite : {X : Type 0} → Result X WholeFault → ℕ → ℕ → Type 0
TellsWrite (Err Write) old new = new ≡ raised old
TellsWrite _ old new = new ≡ old

-- a fault that says nothing of the input
abbrev pub IsOfOutput : WholeFault → Type 0
IsOfOutput (Csv why) = ⊥
IsOfOutput Write = ⊤
IsOfOutput WholeOutOfMemory = ⊤

-- What writing the answers over rows comes to: all of them, and which ended early; or a front of them, and a fault of the output.
abbrev pub WritesAnswers : Option ℕ → Form → QueryData → List (List Value) → Option (List ℕ) → Option (List ℕ) → Result EndedEarly WholeFault → Type 0
WritesAnswers limit form q rows old new (Ok early) = WritesWithin limit form q rows old new early.stopped.items early.halted.items
WritesAnswers limit form q rows old new (Err why) = WritesFrontWithin limit form q rows old new × IsOfOutput why
