-- How many turns polls of a key take at most.
use Rattle.std.specs.Prelude.{◌≡◌, ℕ, List, Some}
use Rattle.rp_value.specs.declared.value.Value.{Value}
use Rattle.rp_walker.specs.declared.poll.Poll.{Poll}
use Rattle.rp_walker.specs.Bound.{SeenWorks}
use Rattle.rp_schedules.specs.Records.{Held}
use Rattle.rp_node.specs.NodeSeen.{NodeSeen, entry_at, work_at}
use Rattle.rp_partition.specs.PartRows.{known_by}

-- What a poll's turns take off what is seen to be left to the search of the key's partition: as rp_walker, specs/Bound, has it of a
-- walker. Once the answer is over, no search is left.
abbrev pub KeyWorks : ℕ → NodeSeen → NodeSeen → List Value → Poll → Type 0
KeyWorks taken old new key answer = (before after : Held) →
    entry_at old.records key ≡ Some before → entry_at new.records key ≡ Some after →
    SeenWorks taken old.query (known_by before.feed) (work_at old key).search (work_at new key).search before.state after.state answer
