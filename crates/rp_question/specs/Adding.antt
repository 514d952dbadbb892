-- Inside: one input more.
use Rattle.std.specs.Prelude.{◌≡◌, ⊤, ℕ, List, ◌++◌, length, take, slice_get, Option, Some, None}
use Rattle.rp_value.specs.declared.value.Value.{Value}
use Rattle.rp_question.specs.Inputs.{AreTextsOf, InputsSeen}
use Rattle.rp_question.specs.Read.{AreRowsIn, AreRowsOfAll, IsFaultIn}
use Rattle.rp_question.specs.declared.fault.InputFault.{InputFault}
use Rattle.rp_question.specs.declared.fault.InputFault.TheVariants.{Unread, Table, Columns, Objects, OutOfMemory}
use Rattle.rp_question.specs.declared.reading.Reading.{Reading}

-- the rows of this text, where there is one, were added
abbrev pub AddsRows : Reading → Option (List ℕ) → (old new : List (List Value)) → Type 0
AddsRows r None old new = ⊥
AddsRows r (Some text) old new = (here : List (List Value)) × AreRowsIn r text here × (new ≡ old ++ here)

-- this is the first fault of the text, where there is one
abbrev pub IsFaultAmong : Reading → Option (List ℕ) → InputFault → Type 0
IsFaultAmong r None why = ⊥
IsFaultAmong r (Some text) why = IsFaultIn r text why

-- the text is no rows for this reason
abbrev pub IsFaultAt : Reading → Option (List ℕ) → InputFault → Type 0
IsFaultAt r text Unread = ⊤
IsFaultAt r text OutOfMemory = ⊤
IsFaultAt r text (Table why) = IsFaultAmong r text (Table why)
IsFaultAt r text (Columns why) = IsFaultAmong r text (Columns why)
IsFaultAt r text (Objects why) = IsFaultAmong r text (Objects why)

-- The rows of the input at this place were added: those of its text, or where none is known, of some text.
abbrev pub AddsRowsAt : Reading → Option (List (List ℕ)) → ℕ → (old new : List (List Value)) → Type 0
AddsRowsAt r None place old new = (text : List ℕ) × AddsRows r (Some text) old new
AddsRowsAt r (Some texts) place old new = AddsRows r (slice_get texts place) old new

-- The input at this place is no rows for this reason: its text isn't, or where none is known, some text.
abbrev pub IsFaultOfInput : Reading → Option (List (List ℕ)) → ℕ → InputFault → Type 0
IsFaultOfInput r None place why = (text : List ℕ) × IsFaultAt r (Some text) why
IsFaultOfInput r (Some texts) place why = IsFaultAt r (slice_get texts place) why

-- The first so many inputs are these rows: those of their texts, or where none are known, of so many texts.
abbrev pub AreRowsOfFirst : Reading → Option (List (List ℕ)) → ℕ → List (List Value) → Type 0
AreRowsOfFirst r None count rows = (texts : List (List ℕ)) × (length texts ≡ count) × AreRowsOfAll r texts rows
AreRowsOfFirst r (Some texts) count rows = AreRowsOfAll r (take count texts) rows

-- the rows of all inputs: those of some texts, which are those of the inputs that are known
pub record AreRowsRead (r : Reading) (inputs : InputsSeen) (rows : List (List Value)) : Type 0 where
  pub texts : List (List ℕ)
  pub are : AreTextsOf inputs texts
  pub read : AreRowsOfAll r texts rows
