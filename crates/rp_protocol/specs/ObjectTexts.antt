-- The object of an output row: under the name of each output column its cell. The text is compact JSON (RFC 8259).
use Rattle.std.specs.Prelude.{ℕ, ◌++◌, List, [], ◌∷◌, codes, zip}
use Rattle.json.specs.Print.{quoted}
use Rattle.rp_value.specs.declared.value.Value.{Value}
use Rattle.rp_query.specs.declared.query.OutputColumn.{OutputColumn}
use Rattle.rp_protocol.specs.ReplyLines.{value_text}

-- an output column, and a row's cell in it
abbrev pub Field : Type 0
Field = OutputColumn × Value

-- "NAME":CELL
abbrev pub field_text : Field → List ℕ
field_text f = quoted f.0.name ++ (codes ":" ++ value_text f.1)

-- further fields, each after a comma, and the closing bracket
abbrev pub more_fields : List Field → List ℕ
more_fields [] = codes "}"
more_fields (f ∷ fs) = codes "," ++ (field_text f ++ more_fields fs)

-- {"NAME":CELL,"NAME":CELL}
abbrev pub fields_text : List Field → List ℕ
fields_text [] = codes "{}"
fields_text (f ∷ fs) = codes "{" ++ (field_text f ++ more_fields fs)

-- the object of these cells, without a line feed
abbrev pub object_text : List OutputColumn → List Value → List ℕ
object_text columns cells = fields_text (zip columns cells)
