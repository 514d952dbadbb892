-- What a node is saved as, what it goes back to, and where it begins.
use Rattle.std.specs.Prelude.{◌≡◌, ◌≢◌, ℕ, List, [], Option, Some, None}
use Rattle.rp_checkpoint.specs.Checkpoints.{checkpoint}
use Rattle.rp_protocol.specs.declared.reply.Reply.{Reply}
use Rattle.rp_query.specs.declared.query.QueryData.{QueryData}
use Rattle.rp_schedules.specs.Records.{Held}
use Rattle.rp_protocol.specs.declared.request.Request.{Request}
use Rattle.rp_node.specs.NodeSeen.{Entries, NodeSeen, AllBounded}
use Rattle.rp_node.specs.Keeping.{kept_of}
use Rattle.rp_node.specs.Restarting.{IsRefused, RestartsTo}
use Rattle.rp_checkpoint.specs.declared.restart_fault.RestartFault.{RestartFault}
use Rattle.rp_checkpoint.specs.declared.restart_fault.RestartFault.TheVariants.{OutOfMemory}
use Rattle.rp_node.specs.Replies.{Does}

-- the bytes are the node's checkpoint, and a node goes on from them with its records
pub record IsSaved (node : NodeSeen) (bytes : List ℕ) : Type 0 where
  pub written : bytes ≡ checkpoint (kept_of node)
  pub back : RestartsTo node.query bytes node.records

-- a node of the query goes on from these bytes
abbrev pub CanRestart : QueryData → List ℕ → Type 0
CanRestart q bytes = (records : Entries Held) × RestartsTo q bytes records

-- what a node is saved as it goes on from
pub saved_stays : (node : NodeSeen) (bytes : List ℕ) → IsSaved node bytes → CanRestart node.query bytes
saved_stays node bytes is = (node.records, is.back)

-- It has the records of what was saved, and none where nothing was.
abbrev pub HasSaved : QueryData → Option (List ℕ) → Entries Held → Type 0
HasSaved q None records = records ≡ []
HasSaved q (Some bytes) records = RestartsTo q bytes records

-- It goes back to what was saved, or to its beginning where nothing was, and each record is bounded.
pub record GoesBack (old : NodeSeen) (saved : Option (List ℕ)) (new : NodeSeen) : Type 0 where
  pub query : new.query ≡ old.query
  pub records : HasSaved old.query saved new.records
  pub bounded : AllBounded new

-- a request leaves what the node can go back to
pub restarts_still : (old : NodeSeen) (asked : Request) (reply : Option Reply) (new : NodeSeen) (bytes : List ℕ)
    → Does old asked reply new → CanRestart old.query bytes → CanRestart new.query bytes
restarts_still old asked reply new bytes does can = rw does.query can

-- and what it went back to it can go back to again
pub back_again : (old new : NodeSeen) (bytes : List ℕ)
    → CanRestart old.query bytes → GoesBack old (Some bytes) new → CanRestart new.query bytes
back_again old new bytes can back = rw back.query can

-- A node of this query that has taken nothing.
pub record IsNew (q : QueryData) (node : NodeSeen) : Type 0 where
  pub query : node.query ≡ q
  pub records : node.records ≡ []

-- A node that goes on from these bytes.
pub record GoesOn (q : QueryData) (bytes : List ℕ) (node : NodeSeen) : Type 0 where
  pub query : node.query ≡ q
  pub records : RestartsTo q bytes node.records

-- Where a node begins: at what was saved, or with nothing where nothing was, or where that is refused for what it is. What it can go
-- back to is what it went on from.
abbrev pub Begins : QueryData → Option (List ℕ) → Option RestartFault → NodeSeen → Option (List ℕ) → Type 0
Begins q None None node saved = IsNew q node × (saved ≡ None)
Begins q None (Some why) node saved = ⊥
Begins q (Some bytes) None node saved = GoesOn q bytes node × (saved ≡ Some bytes)
Begins q (Some bytes) (Some why) node saved =
    (why ≢ OutOfMemory) × IsRefused q bytes why × IsNew q node × (saved ≡ None)
