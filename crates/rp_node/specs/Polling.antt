-- What a poll of a node comes to.
use Rattle.std.specs.Prelude.{◌≡◌, ◌+◌, ◌≤◌, ◌⊎◌, ℕ, List, None, Some, Result, Ok, Err, IfOk, OnOk}
use Rattle.std.specs.declared.alloc.AllocError.{AllocError}
use Rattle.rp_value.specs.declared.value.Value.{Value}
use Rattle.rp_walker.specs.declared.poll.Poll.{Poll}
use Rattle.rp_walker.specs.declared.poll.Poll.TheVariants.{Paused as PausedPoll}
use Rattle.rp_walker.specs.Polls.{PollLowers}
use Rattle.rp_schedules.specs.Records.{Held}
use Rattle.rp_partition.specs.Joined.{Work}
use Rattle.rp_partition.specs.Polling.{HoldsNoMore, PolledTo}
use Rattle.rp_node.specs.declared.fault.NodeFault.{NodeFault}
use Rattle.rp_node.specs.declared.fault.NodeFault.TheVariants.{UnknownPartition, OutOfMemory}
use Rattle.rp_node.specs.NodeSeen.{AllBounded, NodeSeen, entry_at, with_entry, work_at}

-- what is told of a poll of a partition
abbrev pub told_poll : Result Poll AllocError → Result Poll NodeFault
told_poll (Ok answer) = Ok answer
told_poll (Err e) = Err OutOfMemory

-- of the record of a key
abbrev pub HoldsNoMoreAt : NodeSeen → List Value → Type 0
HoldsNoMoreAt n key = (r : Held) → entry_at n.records key ≡ Some r → HoldsNoMore n.query r

-- The partition of a key was polled, and all others are as before.
pub record PolledAt (old new : NodeSeen) (key : List Value) (result : Result Poll NodeFault) : Type 0 where
  pub before : Held
  pub after : Held
  pub there : entry_at old.records key ≡ Some before
  pub records : new.records ≡ with_entry key after old.records
  pub polled : PolledTo old.query before after result
  pub working : Work
  pub work : new.work ≡ with_entry key working old.work

pub record IsUnknown (old new : NodeSeen) (key : List Value) : Type 0 where
  pub none : entry_at old.records key ≡ None
  pub kept : new ≡ old

-- what a poll of a key comes to: an answer, out of memory, or no packet of that key was accepted; no other
-- fault is told
abbrev pub NodePolls : NodeSeen → NodeSeen → List Value → Result Poll NodeFault → Type 0
NodePolls old new key (Ok answer) = PolledAt old new key (Ok answer)
NodePolls old new key (Err UnknownPartition) = IsUnknown old new key
NodePolls old new key (Err OutOfMemory) = PolledAt old new key (Err OutOfMemory)
NodePolls old new key (Err other) = ⊥

-- An answer goes by its budget: one of 0 is answered by a pause that changes nothing, wherever the key is known. A poll that is
-- paused takes its budget off the turns that are left, an item one at least, and no more rows are entered than the budget. By a budget of
-- 1 or more the rows below the horizon are dropped, where it is answered.
pub record GoesByBudget (budget : ℕ) (old new : NodeSeen) (key : List Value) (answer : Result Poll NodeFault) : Type 0 where
  pub lowers : IfOk answer (PollLowers budget (work_at old key).left (work_at new key).left)
  pub enters : (work_at new key).entered ≤ (work_at old key).entered + budget
  pub held : OnOk answer (1 ≤ budget → HoldsNoMoreAt new key)
  pub pauses : budget ≡ 0 → (answer ≡ Ok PausedPoll) ⊎ (answer ≡ Err UnknownPartition)
  pub nothing : budget ≡ 0 → new ≡ old

-- What a poll of a key by a budget does that nobody counts. By a budget of 1 or more the rows below the horizon are dropped, where
-- it is answered.
pub record Advances (key : List Value) (budget : ℕ) (old new : NodeSeen) (result : Result Poll NodeFault) : Type 0 where
  pub query : new.query ≡ old.query
  pub polls : NodePolls old new key result
  pub lowers : IfOk result (PollLowers budget (work_at old key).left (work_at new key).left)
  pub bounded : AllBounded new
  pub enters : ((work_at old key).entered ≤ (work_at new key).entered) × ((work_at new key).entered ≤ (work_at old key).entered + budget)
  pub held : OnOk result (1 ≤ budget → HoldsNoMoreAt new key)
  pub paused : budget ≡ 0 → (result ≡ Ok PausedPoll) ⊎ (result ≡ Err UnknownPartition)
  pub nothing : budget ≡ 0 → new ≡ old
