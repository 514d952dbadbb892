-- The text of a node's object is what JSON's writer gives for it.
use Rattle.std.proofs.Common.{◌≡◌, ◌∙◌, ℕ, List, [], ◌∷◌, ◌++◌, refl, ap, ap₂}
use Rattle.std.specs.Prelude.{Bool, true, false, Option, Some, None, codes, decimal}
use Rattle.std.specs.Fmt.{digits}
use Rattle.json.specs.Print.{quoted}
use Rattle.serde_json.specs.Data.{Data, boolean, string, array, item, no_items}
use Rattle.serde_json.specs.Written.{compact_text, items_text}
use Rattle.serde_json.proofs.OnLiterals.{serde_json_on_literals}
use Rattle.rp_value.specs.declared.table.Column.{Column}
use Rattle.rp_value.specs.declared.value.Kind.{Kind}
use Rattle.rp_value.specs.declared.value.Kind.TheVariants as kind
use Rattle.rp_value.specs.declared.value.Value.{Value}
use Rattle.rp_json.specs.Forms.{cell_data, cells_data, list_items, optional_data}
use Rattle.rp_checkpoint.specs.Checkpoints.{column_data, node_data, partition_data, row_data}
use Rattle.rp_checkpoint.specs.ObjectTexts.{cells_text, column_text, flag_text, kind_text, list_text, more_text, node_text, optional_text, partition_text, row_text}
use Rattle.rp_checkpoint.specs.declared.node_data.HeldRow.{HeldRow}
use Rattle.rp_checkpoint.specs.declared.node_data.PartitionData.{PartitionData}
use Rattle.rp_checkpoint.specs.declared.node_data.NodeData.{NodeData}

more_written : {A : Type 0} (form : A → Data) (write : A → List ℕ) (each : (a : A) → compact_text (form a) ≡ write a) (xs : List A) → items_text true (list_items form xs) ≡ more_text write xs
more_written form write each [] = refl
more_written form write each (a ∷ more) = ap₂ (λ s t. codes "," ++ (s ++ t)) (each a) (more_written form write each more)

list_written : {A : Type 0} (form : A → Data) (write : A → List ℕ) (each : (a : A) → compact_text (form a) ≡ write a) (xs : List A) → compact_text (array (list_items form xs)) ≡ list_text write xs
list_written form write each [] = refl
list_written form write each (a ∷ more) = ap₂ (λ s t. codes "[" ++ (s ++ t)) (each a) (more_written form write each more)

cells_written : (cells : List Value) → compact_text (cells_data cells) ≡ cells_text cells
cells_written cells = list_written cell_data (λ cell. compact_text (cell_data cell)) (λ cell. refl) cells

optional_written : (n : Option ℕ) → compact_text (optional_data n) ≡ optional_text n
optional_written None = refl
optional_written (Some n) = refl

flag_written : (b : Bool) → compact_text (boolean b) ≡ flag_text b
flag_written true = refl
flag_written false = refl

kind_written : (name : List ℕ) (k : Kind) → compact_text (array (item (string name) (item (string (kind_text k)) no_items))) ≡ codes "[" ++ (quoted name ++ (codes ",\"" ++ (kind_text k ++ codes "\"]")))
unfolding serde_json_on_literals
kind_written name kind.Int = refl
kind_written name kind.Text = refl

column_written : (c : Column) → compact_text (column_data c) ≡ column_text c
column_written c = kind_written c.name c.kind

row_written : (r : HeldRow) → compact_text (row_data r) ≡ row_text r
row_written r = ap (λ t. codes "[" ++ (decimal r.number ++ (codes "," ++ (t ++ codes "]")))) (cells_written r.cells)

-- a partition's text round the texts of its close, its key, its flag and its rows
abbrev around : PartitionData → List ℕ → List ℕ → List ℕ → List ℕ → List ℕ
around p close key over rows =
    codes "{\"at\":" ++ (decimal p.at ++ (codes ",\"close\":" ++ (close ++ (codes ",\"covered\":" ++ (decimal p.covered
    ++ (codes ",\"first\":" ++ (decimal p.first ++ (codes ",\"given\":" ++ (quoted (decimal p.given) ++ (codes ",\"here\":" ++ (decimal p.here
    ++ (codes ",\"key\":" ++ (key ++ (codes ",\"matches\":" ++ (decimal p.matches ++ (codes ",\"over\":" ++ (over
    ++ (codes ",\"rows\":" ++ (rows ++ codes "}")))))))))))))))))))

partition_written : (p : PartitionData) → compact_text (partition_data p) ≡ partition_text p
unfolding serde_json_on_literals
partition_written p =
    let close = optional_text p.close in
    let key = compact_text (cells_data p.key) in
    let over = compact_text (boolean p.over) in
    let rows = compact_text (array (list_items row_data p.rows)) in
    ap (λ t. around p t key over rows) (optional_written p.close)
    ∙ ap (λ t. around p close t over rows) (cells_written p.key)
    ∙ ap (λ t. around p close (cells_text p.key) t rows) (flag_written p.over)
    ∙ ap (around p close (cells_text p.key) (flag_text p.over)) (list_written row_data row_text row_written p.rows)

pub node_written : (n : NodeData) → compact_text (node_data n) ≡ node_text n
unfolding serde_json_on_literals digits
node_written n =
    ap₂ (λ s t. codes "{\"clause\":" ++ (quoted n.clause ++ (codes ",\"partitions\":" ++ (s ++ (codes ",\"table\":" ++ (t ++ codes ",\"version\":2}"))))))
    (list_written partition_data partition_text partition_written n.partitions)
    (list_written column_data column_text column_written n.table)
