-- The text of a node's object: a literal with its holes.
use Rattle.std.specs.Prelude.{ℕ, ◌++◌, Bool, true, false, List, [], ◌∷◌, Option, Some, None, codes, decimal}
use Rattle.json.specs.Print.{quoted}
use Rattle.serde_json.specs.Written.{compact_text}
use Rattle.rp_value.specs.declared.table.Column.{Column}
use Rattle.rp_value.specs.declared.value.Kind.{Kind}
use Rattle.rp_value.specs.declared.value.Kind.TheVariants as kind
use Rattle.rp_value.specs.declared.value.Value.{Value}
use Rattle.rp_json.specs.Forms.{cell_data}
use Rattle.rp_checkpoint.specs.declared.node_data.HeldRow.{HeldRow}
use Rattle.rp_checkpoint.specs.declared.node_data.PartitionData.{PartitionData}
use Rattle.rp_checkpoint.specs.declared.node_data.NodeData.{NodeData}

-- further elements, each after a comma, and the closing bracket
abbrev pub more_text : {A : Type 0} → (A → List ℕ) → List A → List ℕ
more_text write [] = codes "]"
more_text write (a ∷ more) = codes "," ++ (write a ++ more_text write more)

-- a list
abbrev pub list_text : {A : Type 0} → (A → List ℕ) → List A → List ℕ
list_text write [] = codes "[]"
list_text write (a ∷ more) = codes "[" ++ (write a ++ more_text write more)

-- a number or null
abbrev pub optional_text : Option ℕ → List ℕ
optional_text None = codes "null"
optional_text (Some n) = decimal n

abbrev pub flag_text : Bool → List ℕ
flag_text true = codes "true"
flag_text false = codes "false"

abbrev pub cells_text : List Value → List ℕ
cells_text cells = list_text (λ cell. compact_text (cell_data cell)) cells

abbrev pub kind_text : Kind → List ℕ
kind_text kind.Int = codes "int"
kind_text kind.Text = codes "text"

-- ["NAME","int"]
abbrev pub column_text : Column → List ℕ
column_text c = codes "[" ++ (quoted c.name ++ (codes ",\"" ++ (kind_text c.kind ++ codes "\"]")))

-- [N,[..]]
abbrev pub row_text : HeldRow → List ℕ
row_text r = codes "[" ++ (decimal r.number ++ (codes "," ++ (cells_text r.cells ++ codes "]")))

abbrev pub partition_text : PartitionData → List ℕ
partition_text p =
    codes "{\"at\":" ++ (decimal p.at
    ++ (codes ",\"close\":" ++ (optional_text p.close
    ++ (codes ",\"covered\":" ++ (decimal p.covered
    ++ (codes ",\"first\":" ++ (decimal p.first
    ++ (codes ",\"given\":" ++ (quoted (decimal p.given)
    ++ (codes ",\"here\":" ++ (decimal p.here
    ++ (codes ",\"key\":" ++ (cells_text p.key
    ++ (codes ",\"matches\":" ++ (decimal p.matches
    ++ (codes ",\"over\":" ++ (flag_text p.over
    ++ (codes ",\"rows\":" ++ (list_text row_text p.rows ++ codes "}")))))))))))))))))))

abbrev pub node_text : NodeData → List ℕ
node_text n =
    codes "{\"clause\":" ++ (quoted n.clause
    ++ (codes ",\"partitions\":" ++ (list_text partition_text n.partitions
    ++ (codes ",\"table\":" ++ (list_text column_text n.table ++ codes ",\"version\":2}")))))
