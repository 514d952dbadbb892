-- Inside: what the inner calls for a packet do to a node's map.
use Rattle.std.specs.Prelude.{◌≡◌, ◌≢◌, ◌≤◌, ◌-◌, ℕ, List, Option, Result, Ok, None, Some, OnOk, OnErr, IfOk, slice_get}
use Rattle.std.specs.Map.{values_of}
use Rattle.std.specs.declared.vec.Vec.{Vec}
use Rattle.std.specs.declared.alloc.Global.{Global}
use Rattle.std.specs.declared.alloc.AllocError.{AllocError}
use Rattle.indexmap.specs.IndexMap.{insert_entry, set_value_at}
use Rattle.rp_value.specs.declared.value.Value.{Value}
use Rattle.rp_query.specs.declared.query.QueryData.{QueryData}
use Rattle.rp_query.specs.Keys.{same_key}
use Rattle.rp_feed.specs.declared.answer.Taken.TheVariants.{New}
use Rattle.rp_feed.specs.Fed.{Numbered, fed_from}
use Rattle.rp_feed.specs.Answers.{Answer, memory_aside}
use Rattle.rp_feed.specs.declared.packet.Packet.{Packet}
use Rattle.rp_walker.specs.declared.poll.Poll.{Poll}
use Rattle.rp_walker.specs.declared.poll.Poll.TheVariants.{Paused as PausedPoll}
use Rattle.rp_walker.specs.Bound.{SearchSeen, SeenRises, SeenWorks}
use Rattle.rp_walker.specs.Polls.{PollLowers, PollTakes, TurnsAreCounted}
use Rattle.rp_schedules.specs.Records.{Held, fresh, with_fed, or_fresh}
use Rattle.rp_partition.specs.declared.partition.Partition.{Partition}
use Rattle.rp_partition.specs.Joined.{Joined, Work, held_of, work_of}
use Rattle.rp_node.specs.Keyed.{IsOfKey}
use Rattle.rp_partition.specs.PartRows.{known_by}
use Rattle.rp_partition.specs.Taking.{TakenBy}
use Rattle.rp_node.specs.NodeSeen.{Map, AllJoined, entries_by, entry_at, with_entry, or_no_work}
use Rattle.rp_node.specs.Accepting.{feed_answer, fed_with, packet_fault, packet_key, rows_taken}
use Rattle.rp_partition.specs.Polling.{HoldsNoMore, PolledTo}

-- the partition at a place is joined
abbrev pub IsJoinedAt : QueryData → Map → ℕ → Type 0
IsJoinedAt q es place = (p : Partition) → slice_get (values_of es) place ≡ Some p → Joined q p

-- rows that have a key are left with it
abbrev pub KeepsKey : QueryData → List Numbered → List Numbered → Type 0
KeepsKey q before later = (key : List Value) → IsOfKey q key before → IsOfKey q key later

-- a partition takes a packet
abbrev pub TakesPacket : QueryData → Packet → Partition → Partition → Answer → Type 0
TakesPacket q packet before later result =
    TakenBy q (feed_answer (held_of before).feed packet) (fed_with packet (held_of before).feed) before later result

-- the partition at a place takes it
pub record TakenAt (q : QueryData) (packet : Packet) (es : Map) (place : ℕ) (new : Map)
    (result : Answer) : Type 0 where
  pub before : Partition
  pub later : Partition
  pub there : slice_get (values_of es) place ≡ Some before
  pub now : new ≡ set_value_at es place later
  pub taken : TakesPacket q packet before later result

-- a partition that has taken it alone is added
pub record IsAdded (q : QueryData) (packet : Packet) (es : Map) (key : Vec Value Global) (new : Map)
    (result : Answer) : Type 0 where
  pub is : result ≡ Ok New
  pub later : Partition
  pub joined : Joined q later
  pub held : held_of later ≡ with_fed fresh (fed_with packet fresh.feed)
  pub entered : (work_of q later).entered ≡ 0
  pub search : (work_of q later).search ≡ None
  pub now : new ≡ insert_entry (λ j k. same_key j.items k.items) es key later

pub record AddedAs (q : QueryData) (packet : Packet) (es : Map) (key : Vec Value Global) (new : Map)
    (result : Answer) : Type 0 where
  pub answer : memory_aside result ≡ feed_answer (fed_from 1) packet
  pub added : OnOk result (IsAdded q packet es key new result)
  pub refused : OnErr result (new ≡ es)

-- what a poll of the partition at a place comes to
pub record PolledPlace (q : QueryData) (es : Map) (place : ℕ) (new : Map) (budget steps steps' : ℕ)
    (result : Result Poll AllocError) : Type 0 where
  pub before : Partition
  pub later : Partition
  pub there : slice_get (values_of es) place ≡ Some before
  pub now : new ≡ set_value_at es place later
  pub joined : Joined q later
  pub keeps : KeepsKey q (held_of before).feed.rows (held_of later).feed.rows
  pub polled : PolledTo q (held_of before) (held_of later) result
  pub lowers : IfOk result (PollLowers budget (work_of q before).left (work_of q later).left)
  pub turns : TurnsAreCounted budget steps steps' (work_of q before).entered (work_of q later).entered
  pub takes : IfOk result (PollTakes budget steps steps')
  pub works : IfOk result (SeenWorks (steps' - steps) q (known_by (held_of before).feed) (work_of q before).search (work_of q later).search
      (held_of before).state (held_of later).state)
  pub held : OnOk result (1 ≤ budget → HoldsNoMore q (held_of later))
  pub none : budget ≡ 0 → (result ≡ Ok PausedPoll) × (later ≡ before) × (steps' ≡ steps)

-- the record of a key, a fresh one where nothing of it was taken, and the work done for it
abbrev pub held_at : Map → List Value → Held
held_at es key = or_fresh (entry_at (entries_by held_of es) key)

abbrev pub work_done : QueryData → Map → List Value → Work
work_done q es key = or_no_work (entry_at (entries_by (work_of q) es) key)

-- the key's record has taken it
pub record MapTaken (q : QueryData) (packet : Packet) (key : List Value) (es new : Map) : Type 0 where
  pub records : entries_by held_of new
      ≡ with_entry key (with_fed (held_at es key) (fed_with packet (held_at es key).feed)) (entries_by held_of es)
  pub left : ℕ
  pub search : Option SearchSeen
  pub rises : SeenRises (rows_taken (held_at es key).feed packet) (work_done q es key).search search
  pub work : entries_by (work_of q) new
      ≡ with_entry key (record { left = left; entered = (work_done q es key).entered; search = search })
      (entries_by (work_of q) es)

-- the partition of a key takes it
pub record MapTakes (q : QueryData) (packet : Packet) (key : List Value) (es new : Map)
    (result : Answer) : Type 0 where
  pub answer : memory_aside result ≡ feed_answer (held_at es key).feed packet
  pub joined : packet_fault q packet ≡ None → key ≡ packet_key q packet → AllJoined q new
  pub taken : result ≡ Ok New → MapTaken q packet key es new
  pub unchanged : result ≢ Ok New → new ≡ es
