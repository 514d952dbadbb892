-- The lines that answer a query.
use Rattle.std.specs.Prelude.{ℕ, List, [], ◌∷◌, ◌++◌, Option}
use Rattle.rp_query.specs.declared.query.QueryData.{QueryData}
use Rattle.rp_protocol.specs.ReplyLines.{item_text}
use Rattle.rp_whole.specs.Answers.{Form, WritesFrontOf, WritesOf}

-- a line for each item
abbrev pub line_form : Form
line_form = record {
  head = λ q. [];
  bytes = λ q key place item. item_text key place item ++ 10 ∷ [];
  stops = λ key item. [];
}

-- Where the bytes of the input are known: those written, where they are known too, grow by its lines.
abbrev pub WritesLines : QueryData → Option (List ℕ) → Option (List ℕ) → Option (List ℕ) → Type 0
WritesLines q input old new = WritesOf line_form q input old new []

-- they grow by a front of its lines
abbrev pub WritesFront : QueryData → Option (List ℕ) → Option (List ℕ) → Option (List ℕ) → Type 0
WritesFront q input old new = WritesFrontOf line_form q input old new
