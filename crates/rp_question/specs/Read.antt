-- The rows of inputs, read by a table, by columns, or by columns of objects: those of one input, and those of all, one after another.
use Rattle.std.specs.Prelude.{◌≡◌, ⊤, ℕ, List, [], ◌∷◌, ◌++◌}
use Rattle.rp_value.specs.declared.table.Column.{Column}
use Rattle.rp_value.specs.declared.value.Value.{Value}
use Rattle.rp_columns.specs.Headings.{headings}
use Rattle.rp_input.specs.ByColumns.{AreRowsByColumns, IsByColumnsFault}
use Rattle.rp_input.specs.CsvRows.{AreRowsOf, IsTextFault}
use Rattle.rp_input.specs.declared.layout.CsvLayout.{CsvLayout}
use Rattle.rp_objects.specs.ObjectRows.{AreRowsByObjects, IsByObjectsFault}
use Rattle.rp_question.specs.Inputs.{AreAsKnown, InputsSeen}
use Rattle.rp_question.specs.declared.fault.InputFault.{InputFault}
use Rattle.rp_question.specs.declared.fault.InputFault.TheVariants as fault
use Rattle.rp_question.specs.declared.reading.Reading.{Reading}
use Rattle.rp_question.specs.declared.shape.InputShape.{InputShape}
use Rattle.rp_question.specs.declared.shape.InputShape.TheVariants.{Table, Columns, Objects}

-- the columns that a clause sees
abbrev pub columns_seen : InputShape → List Column
columns_seen (Table columns) = columns
columns_seen (Columns columns) = headings columns
columns_seen (Objects columns) = headings columns

-- a text is these rows, by columns, the layout of a CSV, and the words for null
abbrev pub AreRowsBy : InputShape → CsvLayout → (words : List (List ℕ)) → (text : List ℕ) → List (List Value) → Type 0
AreRowsBy (Table columns) layout words text rows = AreRowsOf columns text rows
AreRowsBy (Columns columns) layout words text rows = AreRowsByColumns words layout columns text rows
AreRowsBy (Objects columns) layout words text rows = AreRowsByObjects words columns text rows

-- the first fault of a text
abbrev pub IsFaultBy : InputShape → CsvLayout → (words : List (List ℕ)) → (text : List ℕ) → InputFault → Type 0
IsFaultBy (Table columns) layout words text (fault.Table why) = IsTextFault columns text why
IsFaultBy (Columns columns) layout words text (fault.Columns why) = IsByColumnsFault words layout columns text why
IsFaultBy (Objects columns) layout words text (fault.Objects why) = IsByObjectsFault words columns text why
IsFaultBy _ layout words text _ = ⊥

-- the same by a reading: the text of an input is these rows
abbrev pub AreRowsIn : Reading → (text : List ℕ) → List (List Value) → Type 0
AreRowsIn r text rows = AreRowsBy r.shape.now r.layout r.nulls.now text rows

-- and this is its first fault
abbrev pub IsFaultIn : Reading → (text : List ℕ) → InputFault → Type 0
IsFaultIn r text why = IsFaultBy r.shape.now r.layout r.nulls.now text why

-- the texts of inputs are these rows: those of each, one input after another
abbrev pub AreRowsOfAll : Reading → (texts : List (List ℕ)) → List (List Value) → Type 0
AreRowsOfAll r [] rows = rows ≡ []
AreRowsOfAll r (text ∷ texts) rows = (here : List (List Value)) × (others : List (List Value))
    × AreRowsIn r text here × AreRowsOfAll r texts others × (rows ≡ here ++ others)

-- the first text of inputs that is no rows, and its first fault
pub record IsFirstFaultOf (r : Reading) (texts : List (List ℕ)) (why : InputFault) : Type 0 where
  pub before : List (List ℕ)
  pub text : List ℕ
  pub after : List (List ℕ)
  pub rows : List (List Value)
  pub all : texts ≡ before ++ text ∷ after
  pub are : AreRowsOfAll r before rows
  pub is : IsFaultIn r text why

-- why the texts of inputs are no rows; an input that can't be read and a lack of memory say nothing of them
abbrev pub IsInputsFault : Reading → (texts : List (List ℕ)) → InputFault → Type 0
IsInputsFault r texts fault.Unread = ⊤
IsInputsFault r texts fault.OutOfMemory = ⊤
IsInputsFault r texts (fault.Table why) = IsFirstFaultOf r texts (fault.Table why)
IsInputsFault r texts (fault.Columns why) = IsFirstFaultOf r texts (fault.Columns why)
IsInputsFault r texts (fault.Objects why) = IsFirstFaultOf r texts (fault.Objects why)

-- Inputs have no rows for this reason: that is so of some texts, which are those that are known.
abbrev pub AreNoRows : Reading → InputsSeen → InputFault → Type 0
AreNoRows r inputs why = (texts : List (List ℕ)) × AreAsKnown inputs.texts texts × IsInputsFault r texts why
