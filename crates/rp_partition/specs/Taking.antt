-- What a row or the close does to a partition.
use Rattle.std.specs.Prelude.{◌≡◌, ◌-◌}
use Rattle.rp_query.specs.declared.query.QueryData.{QueryData}
use Rattle.rp_feed.specs.Fed.{Fed, front_of}
use Rattle.rp_feed.specs.Answers.{Answer, after, memory_aside}
use Rattle.rp_walker.specs.Bound.{SeenRises}
use Rattle.rp_partition.specs.declared.partition.Partition.{Partition}
use Rattle.rp_partition.specs.Joined.{Joined, work_of}

-- A partition takes a row or the close: the answer is the one that is due, memory aside, and where it is New the feed is the
-- changed one; the walk is as before, and what is seen of its search rises with the rows that become known.
pub record TakenBy (q : QueryData) (due : Answer) (changed : Fed) (before later : Partition) (result : Answer) : Type 0 where
  pub joined : Joined q later
  pub answer : memory_aside result ≡ due
  pub feed : later.feed ≡ after result changed before.feed
  pub walker : later.walker ≡ before.walker
  pub search : SeenRises (front_of later.feed - front_of before.feed) (work_of q before).search (work_of q later).search
