-- Which bytes a node goes on from.
use Rattle.std.specs.Prelude.{◌≡◌, ℕ, ◌&&◌, not, Bool, true, false, List, [], ◌∷◌, Option, None, Some, Ok, Err, is_some, if◌then◌else◌, ⊤}
use Rattle.rp_query.specs.declared.query.QueryData.{QueryData}
use Rattle.rp_checkpoint.specs.declared.node_data.PartitionData.{PartitionData}
use Rattle.rp_checkpoint.specs.declared.node_data.NodeData.{NodeData}
use Rattle.rp_checkpoint.specs.declared.node_data.CheckpointFault.{CheckpointFault}
use Rattle.rp_checkpoint.specs.declared.node_data.CheckpointFault.TheVariants as bytes
use Rattle.rp_checkpoint.specs.Checkpoints.{restored}
use Rattle.rp_schedules.specs.Records.{Held}
use Rattle.rp_checkpoint.specs.declared.restart_fault.RestartFault.{RestartFault}
use Rattle.rp_checkpoint.specs.declared.restart_fault.RestartFault.TheVariants.{Digest, NotJson, Version, BadField, ClauseDiffers, BadState, OutOfMemory}
use Rattle.rp_node.specs.ClauseTexts.{AreOneClause}
use Rattle.rp_partition.specs.Joined.{held_of}
use Rattle.rp_node.specs.NodeSeen.{Entries, Map, AllJoined, entries_by, entry_at, with_entry}
use Rattle.rp_node.specs.Resuming.{held_in, is_restorable}

-- a node may go on from it, and its key is no earlier partition's
abbrev pub is_next : QueryData → Entries Held → PartitionData → Bool
is_next q before p = is_restorable q p && not (is_some (entry_at before p.key))

-- the records of all partitions after these, if a node may go on from each
abbrev pub records_from : QueryData → Entries Held → List PartitionData → Option (Entries Held)
records_from q before [] = Some before
records_from q before (p ∷ ps) = if is_next q before p then records_from q (with_entry p.key (held_in p) before) ps
    else None

-- the clause and the table are the query's
pub record IsOfQuery (q : QueryData) (kept : NodeData) : Type 0 where
  pub clause : AreOneClause kept.clause q.text
  pub table : kept.table ≡ q.table

-- The bytes are a checkpoint of the query, and these are the records in it.
pub record RestartsTo (q : QueryData) (bs : List ℕ) (told : Entries Held) : Type 0 where
  pub kept : NodeData
  pub is : restored bs ≡ Ok kept
  pub of : IsOfQuery q kept
  pub records : records_from q [] kept.partitions ≡ Some told

-- the bytes are a checkpoint of another query
pub record IsOfAnother (q : QueryData) (bs : List ℕ) : Type 0 where
  pub kept : NodeData
  pub is : restored bs ≡ Ok kept
  pub other : IsOfQuery q kept → ⊥

-- it is one of the query, of a state in which no node can be
pub record IsBadState (q : QueryData) (bs : List ℕ) : Type 0 where
  pub kept : NodeData
  pub is : restored bs ≡ Ok kept
  pub of : IsOfQuery q kept
  pub bad : records_from q [] kept.partitions ≡ None

abbrev pub bytes_fault : CheckpointFault → RestartFault
bytes_fault bytes.Digest = Digest
bytes_fault bytes.NotJson = NotJson
bytes_fault bytes.Version = Version
bytes_fault bytes.BadField = BadField
bytes_fault bytes.OutOfMemory = OutOfMemory

-- why the bytes are refused; being out of memory says nothing of them
abbrev pub IsRefused : QueryData → List ℕ → RestartFault → Type 0
IsRefused q bs Digest = restored bs ≡ Err bytes.Digest
IsRefused q bs NotJson = restored bs ≡ Err bytes.NotJson
IsRefused q bs Version = restored bs ≡ Err bytes.Version
IsRefused q bs BadField = restored bs ≡ Err bytes.BadField
IsRefused q bs ClauseDiffers = IsOfAnother q bs
IsRefused q bs BadState = IsBadState q bs
IsRefused q bs OutOfMemory = ⊤

-- ---- the inner calls

-- one partition more goes on
abbrev pub RestoredOne : QueryData → Map → PartitionData → Map → Bool → Type 0
RestoredOne q es p new true =
    (is_next q (entries_by held_of es) p ≡ true)
    × (entries_by held_of new ≡ with_entry p.key (held_in p) (entries_by held_of es)) × AllJoined q new
RestoredOne q es p new false = is_next q (entries_by held_of es) p ≡ false

-- all do, or none
abbrev pub RestoredAll : QueryData → List PartitionData → Option Map → Type 0
RestoredAll q ps None = records_from q [] ps ≡ None
RestoredAll q ps (Some es) = (records_from q [] ps ≡ Some (entries_by held_of es)) × AllJoined q es
