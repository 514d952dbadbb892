-- What a poll makes of the record of a partition.
use Rattle.std.specs.Prelude.{◌≡◌, ◌≤◌, ℕ, false, List, Result, Ok, Err, OnErr}
use Rattle.rp_query.specs.declared.item.Item.{Item}
use Rattle.rp_query.specs.declared.query.QueryData.{QueryData}
use Rattle.rp_feed.specs.Fed.{Fed, is_taken, rows_from}
use Rattle.rp_walker.specs.declared.poll.Poll.{Poll}
use Rattle.rp_walker.specs.declared.poll.Poll.TheVariants.{Item as ItemPoll, Idle as IdlePoll, Paused as PausedPoll}
use Rattle.rp_walker.specs.LeftLaw.{HoldsNoMore as NoMoreIsKept}
use Rattle.rp_walker.specs.Polls.{GivenBy}
use Rattle.rp_walker.specs.Records.{IsLastStart}
use Rattle.rp_schedules.specs.Schedules.{Act, Gives, Idles, Pauses}
use Rattle.rp_schedules.specs.Records.{Row, Held, Fits, PollFits, seen_part}
use Rattle.rp_partition.specs.PartRows.{known_by}

abbrev pub act_by : Poll → Act Item
act_by (ItemPoll place x) = Gives place x
act_by IdlePoll = Idles
act_by PausedPoll = Pauses

-- what a poll did: where it is refused, it did as much as one that is paused
abbrev pub act_of : {E : Type 0} → Result Poll E → Act Item
act_of (Ok p) = act_by p
act_of (Err e) = Pauses

-- only an item raises the number of given items, which is its place then
abbrev pub given_by : {E : Type 0} → Held → Held → Result Poll E → Type 0
given_by old new (Ok answer) = GivenBy old.state new.state answer
given_by old new (Err e) = new.state.given ≡ old.state.given

-- no row below the horizon is held, unless all rows up to the front are dropped
abbrev pub HoldsNoMore : QueryData → Held → Type 0
HoldsNoMore q r = NoMoreIsKept q (known_by r.feed) (record r.state { first = r.feed.first })

-- What a poll leaves of a feed: rows below a number are dropped, and nothing else. The rows from there on are held as before,
-- the same numbers were taken, and the close is the same.
pub record OnlyDrops (before after : Fed) : Type 0 where
  pub first : before.first ≤ after.first
  pub rows : after.rows ≡ rows_from after.first before.rows
  pub taken : (n : ℕ) → is_taken after n ≡ is_taken before n
  pub closed : after.closed ≡ before.closed

-- What a poll makes of a record: whichever whole partition the record fits, the answer is by what is known of it. And of every
-- record, whether it fits one or not, rows alone are dropped, and none where no memory is left.
pub record PolledTo {E : Type 0} (q : QueryData) (old new : Held) (result : Result Poll E) : Type 0 where
  pub polls : (whole : List Row) → Fits q whole old → PollFits q whole old new (act_of result)
  pub drops : OnlyDrops old.feed new.feed
  pub refused : OnErr result (new.feed ≡ old.feed)
  pub given : given_by old new result
  -- where it is idle and the answer isn't over, the walk comes to no later start row
  pub last : result ≡ Ok IdlePoll → (whole : List Row) → Fits q whole old → new.state.over ≡ false
      → IsLastStart q (seen_part whole old.feed) new.state.at
