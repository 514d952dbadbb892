-- The bytes of a checkpoint, and what they stand for.
use Rattle.std.specs.Prelude.{ℕ, ◌==◌, ◌||◌, List, [], ◌∷◌, Option, Some, None, Result, Ok, Err, if◌then◌else◌, codes}
use Rattle.serde_json.specs.Data.{Data, boolean, string, array, object, Items, no_items, item, no_members, member}
use Rattle.serde_json.specs.Find.{as_array, as_bool, as_str}
use Rattle.rp_value.specs.declared.table.Column.{Column}
use Rattle.rp_value.specs.declared.value.Kind.{Kind}
use Rattle.rp_value.specs.declared.value.Kind.TheVariants as kind
use Rattle.rp_value.specs.declared.value.Value.{Value}
use Rattle.rp_json.specs.Digits.{digits_of}
use Rattle.rp_json.specs.Forms.{cells_data, cells_of, list_items, list_of, named, optional_data, optional_of, place_data, whole_data, whole_of}
use Rattle.rp_json.specs.Objects.{field, object_of, only}
use Rattle.rp_seal.specs.Sealed.{opened, sealed}
use Rattle.rp_checkpoint.specs.HeldRows.{ascend}
use Rattle.rp_checkpoint.specs.ObjectTexts.{kind_text, node_text}
use Rattle.rp_checkpoint.specs.declared.node_data.HeldRow.{HeldRow}
use Rattle.rp_checkpoint.specs.declared.node_data.PartitionData.{PartitionData}
use Rattle.rp_checkpoint.specs.declared.node_data.NodeData.{NodeData}
use Rattle.rp_checkpoint.specs.declared.node_data.CheckpointFault.{CheckpointFault}
use Rattle.rp_checkpoint.specs.declared.restore.Progress.{Progress}
use Rattle.rp_checkpoint.specs.declared.node_data.CheckpointFault.TheVariants.{Digest, NotJson, Version, BadField}

-- with what was read, or nothing
abbrev pub need : {A B : Type 0} → Option A → (A → Option B) → Option B
need None next = None
need (Some a) next = next a

-- ---- a column: ["NAME","int"]

abbrev pub column_data : Column → Data
column_data c = array (item (string c.name) (item (string (kind_text c.kind)) no_items))

abbrev pub two_of : Items → Option (Data × Data)
two_of (item a (item b no_items)) = Some (a, b)
two_of _ = None

-- an array of two
abbrev pub pair_of : Data → Option (Data × Data)
pair_of d = need (as_array d) two_of

abbrev pub kind_of : Data → Option Kind
kind_of d = need (as_str d) (named kind_text (kind.Int ∷ kind.Text ∷ []))

abbrev pub column_of : Data → Option Column
column_of d = need (pair_of d) λ pair. need (as_str pair.0) λ name. need (kind_of pair.1) λ kind. Some (record { name = name; kind = kind })

-- ---- a row: [N,[cells]]

abbrev pub row_data : HeldRow → Data
row_data r = array (item (whole_data r.number) (item (cells_data r.cells) no_items))

abbrev pub row_of : Data → Option HeldRow
row_of d = need (pair_of d) λ pair. need (whole_of pair.0) λ n. need (cells_of pair.1) λ cells. Some (record { number = n; cells = cells })

abbrev pub if_ascending : List HeldRow → Option (List HeldRow)
if_ascending rows = if ascend rows then Some rows else None

abbrev pub rows_of : Data → Option (List HeldRow)
rows_of d = need (list_of row_of d) if_ascending

-- ---- a partition

-- the number of given items: a whole number in version 1, its digits as a text in version 2
abbrev pub given_of : ℕ → Data → Option ℕ
given_of version d = if version == 1 then whole_of d else need (as_str d) digits_of

abbrev pub partition_data : PartitionData → Data
partition_data p = object (
    member (codes "at") (whole_data p.at) (
    member (codes "close") (optional_data p.close) (
    member (codes "covered") (whole_data p.covered) (
    member (codes "first") (whole_data p.first) (
    member (codes "given") (place_data p.given) (
    member (codes "here") (whole_data p.here) (
    member (codes "key") (cells_data p.key) (
    member (codes "matches") (whole_data p.matches) (
    member (codes "over") (boolean p.over) (
    member (codes "rows") (array (list_items row_data p.rows)) no_members))))))))))

-- of so much progress, with its key and its rows
abbrev pub progressed : List Value → List HeldRow → Progress → PartitionData
progressed key rows p = record {
  at = p.at;
  close = p.close;
  covered = p.covered;
  first = p.first;
  given = p.given;
  here = p.here;
  key = key;
  matches = p.matches;
  over = p.over;
  rows = rows;
}

-- with its key and its rows
abbrev pub partition_with : ℕ → List Value → List HeldRow → Data → Option PartitionData
partition_with version key rows d =
    need (field (codes "at") whole_of d) λ at.
    need (field (codes "close") optional_of d) λ close.
    need (field (codes "covered") whole_of d) λ covered.
    need (field (codes "first") whole_of d) λ first.
    need (field (codes "given") (given_of version) d) λ given.
    need (field (codes "here") whole_of d) λ here.
    need (field (codes "matches") whole_of d) λ matches.
    need (field (codes "over") as_bool d) λ over.
    only 10 d (Some (record { at = at; close = close; covered = covered; first = first; given = given; here = here; key = key; matches = matches; over = over; rows = rows }))

abbrev pub partition_of : ℕ → Data → Option PartitionData
partition_of version d =
    need (field (codes "key") cells_of d) λ key.
    need (field (codes "rows") rows_of d) λ rows.
    partition_with version key rows d

-- ---- the whole object

abbrev pub node_data : NodeData → Data
node_data n = object (
    member (codes "clause") (string n.clause) (
    member (codes "partitions") (array (list_items partition_data n.partitions)) (
    member (codes "table") (array (list_items column_data n.table)) (
    member (codes "version") (whole_data 2) no_members))))

abbrev pub node_of : ℕ → Data → Option NodeData
node_of version d =
    need (field (codes "clause") as_str d) λ clause.
    need (field (codes "table") (list_of column_of) d) λ table.
    need (field (codes "partitions") (list_of (partition_of version)) d) λ partitions.
    only 4 d (Some (record { clause = clause; table = table; partitions = partitions }))

abbrev pub known_version : ℕ → Option ℕ
known_version n = if (n == 1) || (n == 2) then Some n else None

abbrev pub version_of : Data → Option ℕ
version_of d = need (field (codes "version") whole_of d) known_version

-- ---- bytes

abbrev pub or_fault : {A : Type 0} → Option A → CheckpointFault → (A → Result NodeData CheckpointFault) → Result NodeData CheckpointFault
or_fault None fault next = Err fault
or_fault (Some a) fault next = next a

abbrev pub restored_object : Data → Result NodeData CheckpointFault
restored_object d =
    or_fault (version_of d) Version λ version.
    or_fault (node_of version d) BadField λ node. Ok node

-- what the bytes stand for, or their first fault
abbrev pub restored : List ℕ → Result NodeData CheckpointFault
restored bytes =
    or_fault (opened bytes) Digest λ text.
    or_fault (object_of text) NotJson restored_object

-- a node's object behind its digest
abbrev pub checkpoint : NodeData → List ℕ
checkpoint n = sealed (node_text n)
