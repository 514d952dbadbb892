-- How a partition's walk stands to its feed, and what contracts see of a partition.
use Rattle.std.specs.Prelude.{◌≡◌, ℕ, Option}
use Rattle.rp_query.specs.declared.query.QueryData.{QueryData}
use Rattle.rp_feed.specs.Fed.{IsFeed}
use Rattle.rp_walker.specs.Walking.{record_of, CanGoOn, Stands}
use Rattle.rp_walker.specs.Records.{StandsInRows}
use Rattle.rp_walker.specs.Polls.{left_in, entered_by}
use Rattle.rp_walker.specs.Bound.{SearchSeen, SeenWorks, search_seen}
use Rattle.rp_walker.specs.declared.poll.Poll.{Poll}
use Rattle.rp_schedules.specs.Records.{Held}
use Rattle.rp_partition.specs.declared.partition.Partition.{Partition}
use Rattle.rp_partition.specs.PartRows.{known_by}

-- The walk stands over the feed's rows and in them, and keeps the first one's number.
pub record Joined (q : QueryData) (p : Partition) : Type 0 where
  pub feed : IsFeed p.feed
  pub stands : Stands q (known_by p.feed) p.walker
  pub first : (record_of p.walker).first ≡ p.feed.first
  pub in_rows : StandsInRows (known_by p.feed) (record_of p.walker)

-- the record of a partition
abbrev pub held_of : Partition → Held
held_of p = record { feed = p.feed; state = record_of p.walker }

-- A partition may go on from the record: its walk begins with the first row that is held, may go on, and stands in the rows.
pub record CanResume (q : QueryData) (r : Held) : Type 0 where
  pub first : r.state.first ≡ r.feed.first
  pub can : CanGoOn q r.state
  pub in_rows : StandsInRows (known_by r.feed) r.state

-- the turns that it has left, the rows that its searches have entered, and what is seen of its search
pub record Work : Type 0 where
  pub left : ℕ
  pub entered : ℕ
  pub search : Option SearchSeen

abbrev pub work_of : QueryData → Partition → Work
work_of q p =
    record {
      left = left_in q (known_by p.feed) p.walker;
      entered = entered_by p.walker;
      search = search_seen q (known_by p.feed) p.walker;
    }

-- What so many turns and this answer make of its search and its walk, over the rows that its feed held before.
abbrev pub WorksBy : QueryData → ℕ → (old new : Partition) → Poll → Type 0
WorksBy q turns old new answer =
    SeenWorks turns q (known_by (held_of old).feed) (work_of q old).search (work_of q new).search
    (held_of old).state (held_of new).state answer
