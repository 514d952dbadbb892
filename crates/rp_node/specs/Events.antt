-- How the calls of a node are events of the law over schedules.
use Rattle.std.specs.Prelude.{◌≡◌, ◌≢◌, ℕ, ◌-◌, List, length, Some, Ok, Err, slice_get}
use Rattle.rp_value.specs.declared.value.Value.{Value}
use Rattle.rp_query.specs.declared.query.QueryData.{QueryData}
use Rattle.rp_query.specs.Keys.{key_of}
use Rattle.rp_query.specs.Sound.{IsSound}
use Rattle.rp_same_query.specs.SameQuery.{IsSameQuery}
use Rattle.rp_feed.specs.declared.answer.Taken.TheVariants.{New}
use Rattle.rp_feed.specs.declared.packet.Packet.TheVariants.{Row as RowPacket, Close as ClosePacket}
use Rattle.rp_walker.specs.declared.poll.Poll.{Poll}
use Rattle.rp_schedules.specs.Schedules.{Done, Refused, Takes, Closes}
use Rattle.rp_schedules.specs.Records.{Row, Held, Nodes, CallsBySame}
use Rattle.rp_node.specs.declared.fault.NodeFault.TheVariants.{OutOfMemory}
use Rattle.rp_checkpoint.specs.declared.restart_fault.RestartFault.{RestartFault}
use Rattle.rp_checkpoint.specs.declared.restart_fault.RestartFault.TheVariants.{OutOfMemory as NoMemory}
use Rattle.rp_node.specs.NodeSeen.{NodeSeen, Entries, entry_at}
use Rattle.rp_node.specs.Accepting.{packet_answer, Accepted}
use Rattle.rp_partition.specs.Polling.{act_by}
use Rattle.rp_node.specs.Polling.{PolledAt}
use Rattle.rp_node.specs.Restarting.{RestartsTo, IsRefused}

-- the nodes of a world, whose keys are lists of values
abbrev pub World : Type 0
World = Nodes (List Value)

-- the whole partition of each key
abbrev pub Wholes : Type 0
Wholes = List Value → List Row

-- A call of node `a`, whose query is the same as this one, and which has the records of `old` before and of `new` afterwards;
-- other nodes and all that was saved are as before.
pub record IsCallOf (q : QueryData) (a : ℕ) (w w' : World) (old new : NodeSeen) : Type 0 where
  pub same : IsSameQuery q old.query
  pub sound : IsSound old.query
  pub before : (key : List Value) → w.now a key ≡ entry_at old.records key
  pub after : (key : List Value) → w'.now a key ≡ entry_at new.records key
  pub nodes : (b : ℕ) → b ≢ a → w'.now b ≡ w.now b
  pub saves : w'.saved ≡ w.saved

-- A row that is New, and is the whole partition's at its number, is an event of its key.
abbrev pub RowsAreEvents : Type 0
RowsAreEvents = (q : QueryData) (whole : Wholes) (a : ℕ) (w w' : World) (old new : NodeSeen) (n : ℕ) (row : Row)
    → IsCallOf q a w w' old new → packet_answer old (RowPacket n row) ≡ Ok New → Accepted old (RowPacket n row) new
    → slice_get (whole (key_of old.query row)) (n - 1) ≡ Some row
    → CallsBySame q whole w (Done a (key_of old.query row) (Takes n)) w'

-- A close that is New, and counts the whole partition's rows, is an event of its key.
abbrev pub ClosesAreEvents : Type 0
ClosesAreEvents = (q : QueryData) (whole : Wholes) (a : ℕ) (w w' : World) (old new : NodeSeen) (key : List Value) (count : ℕ)
    → IsCallOf q a w w' old new → Accepted old (ClosePacket key count) new → count ≡ length (whole key)
    → CallsBySame q whole w (Done a key Closes) w'

-- A poll that is answered is the event of its answer, whatever the partitions are.
abbrev pub PollsAreEvents : Type 0
PollsAreEvents = (q : QueryData) (whole : Wholes) (a : ℕ) (w w' : World) (old new : NodeSeen) (key : List Value) (answer : Poll)
    → IsCallOf q a w w' old new → PolledAt old new key (Ok answer)
    → CallsBySame q whole w (Done a key (act_by answer)) w'

-- A poll that finds no memory is a refused call.
abbrev pub RefusedPollsAreEvents : Type 0
RefusedPollsAreEvents = (q : QueryData) (whole : Wholes) (a : ℕ) (w w' : World) (old new : NodeSeen) (key : List Value)
    → IsCallOf q a w w' old new → PolledAt old new key (Err OutOfMemory) → CallsBySame q whole w (Refused a) w'

-- Bytes restart to one list of records, those that were saved in them, whichever queries save and go on.
abbrev pub RestartsAreOne : Type 0
RestartsAreOne = (q r : QueryData) (bytes : List ℕ) (saved restarted : Entries Held)
    → RestartsTo q bytes saved → RestartsTo r bytes restarted → restarted ≡ saved

-- What a query restarts from, a query that is the same restarts from too.
abbrev pub RestartsAreSame : Type 0
RestartsAreSame = (q r : QueryData) (bytes : List ℕ) (saved : Entries Held)
    → IsSameQuery q r → RestartsTo q bytes saved → RestartsTo r bytes saved

-- And it refuses none of these bytes, unless no memory is left.
abbrev pub RestartsAreTaken : Type 0
RestartsAreTaken = (q r : QueryData) (bytes : List ℕ) (saved : Entries Held) (why : RestartFault)
    → IsSameQuery q r → RestartsTo q bytes saved → IsRefused r bytes why → why ≡ NoMemory
