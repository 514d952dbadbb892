-- The object of a checkpoint, as it is written.
use Rattle.std.proofs.Common.{◌≡◌, ◌≤◌, ℕ, List, [], ◌∷◌, refl, true, false, arith}
use Rattle.std.specs.Prelude.{Some, None, is_some, Option}
use Rattle.serde_json.specs.Data.{Data, depth, items_depth}
use Rattle.serde_json.specs.Find.{as_object}
use Rattle.serde_json.specs.Written.{has_float}
use Rattle.rp_checkpoint.specs.Checkpoints.{column_data, node_data, partition_data, row_data}
use Rattle.rp_json.specs.Forms.{list_items, optional_data}
use Rattle.rp_checkpoint.specs.declared.node_data.HeldRow.{HeldRow}
use Rattle.rp_checkpoint.specs.declared.node_data.PartitionData.{PartitionData}
use Rattle.rp_checkpoint.specs.declared.node_data.NodeData.{NodeData}
use Rattle.rp_json.proofs.Steps.{flat, list_has_no_float, no_float}

list_depth : {A : Type 0} (write : A → Data) (n : ℕ) (each : (a : A) → depth (write a) ≤ n) (xs : List A) → items_depth (list_items write xs) ≤ n
list_depth write n each [] = omega arith
list_depth write n each (a ∷ more) = let h = each a in let t = list_depth write n each more in omega (arith, h, t)

optional_float : (o : Option ℕ) → has_float (optional_data o) ≡ false
optional_float None = refl
optional_float (Some n) = refl

optional_depth : (o : Option ℕ) → depth (optional_data o) ≡ 0
optional_depth None = refl
optional_depth (Some n) = refl

row_float : (r : HeldRow) → has_float (row_data r) ≡ false
row_float r = rw (no_float r.cells) refl

row_depth : (r : HeldRow) → depth (row_data r) ≤ 2
row_depth r = rw (flat r.cells) (omega arith)

partition_float : (p : PartitionData) → has_float (partition_data p) ≡ false
partition_float p = rw (optional_float p.close, no_float p.key, list_has_no_float row_data row_float p.rows) refl

partition_depth : (p : PartitionData) → depth (partition_data p) ≤ 4
partition_depth p = let rows = list_depth row_data 2 row_depth p.rows in rw (optional_depth p.close, flat p.key) (omega (arith, rows))

pub node_has_no_float : (n : NodeData) → has_float (node_data n) ≡ false
node_has_no_float n = rw (list_has_no_float partition_data partition_float n.partitions, list_has_no_float column_data (λ c. refl) n.table) refl

pub node_depth : (n : NodeData) → depth (node_data n) ≤ 127
node_depth n =
    let partitions = list_depth partition_data 4 partition_depth n.partitions in
    let columns = list_depth column_data 1 (λ c. omega arith) n.table in
    omega (arith, partitions, columns)

pub node_is_object : (n : NodeData) → is_some (as_object (node_data n)) ≡ true
node_is_object n = refl
