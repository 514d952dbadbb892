-- What is written reads as what it was written of.
use Rattle.std.proofs.Common.{◌≡◌, ◌∙◌, ℕ, Bool, List, Some, refl, ap₂, rules}
use Rattle.serde_json.specs.Data.{Data, Members, array, boolean, put}
use Rattle.serde_json.specs.View.{view}
use Rattle.serde_json.specs.declared.value.Value.{the_lemmas}
use Rattle.serde_json.specs.declared.value.Value as Json
use Rattle.rp_json.specs.Forms.{cell_data, cell_of, list_in, list_items, optional_data, optional_of, place_data, place_of}
use Rattle.rp_checkpoint.specs.declared.node_data.HeldRow.{HeldRow}
use Rattle.rp_checkpoint.specs.declared.node_data.PartitionData.{PartitionData}
use Rattle.rp_checkpoint.specs.Checkpoints.{partition_data, partition_of, row_data, row_of, rows_of}

pub row_back : (r : HeldRow) → list_in cell_of (list_items cell_data r.cells) ≡ Some r.cells → row_of (row_data r) ≡ Some r
row_back r cells = rw cells refl

pub partition_back : (p : PartitionData) → optional_of (optional_data p.close) ≡ Some p.close → place_of (place_data p.given) ≡ Some p.given
    → list_in cell_of (list_items cell_data p.key) ≡ Some p.key → rows_of (array (list_items row_data p.rows)) ≡ Some p.rows → partition_of 2 (partition_data p) ≡ Some p
partition_back p close given key rows = rw (close, given, key, rows) refl

pub view-Bool : (b : Bool) → view (Json.Bool b) ≡ boolean b
view-Bool b = search (rules, the_lemmas)

-- a field is put into what was put before
pub put_into : {new old older : Members} {d e : Data} (name : List ℕ) → new ≡ put name d old → d ≡ e → old ≡ older → new ≡ put name e older
put_into name one value before = one ∙ ap₂ (put name) value before
