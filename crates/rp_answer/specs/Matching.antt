-- Inside: how a matcher's parts stand to each other, and what a poll comes to.
use Rattle.std.specs.Prelude.{◌≡◌, ℕ, ◌+◌, ◌≤◌, Result, Ok, IfOk, OnErr, OnOk}
use Rattle.std.specs.declared.alloc.AllocError.{AllocError}
use Rattle.rp_query.specs.declared.query.QueryData.{QueryData}
use Rattle.rp_known.specs.Known.{Known, count}
use Rattle.rp_walker.specs.declared.poll.Poll.{Poll}
use Rattle.rp_walker.specs.declared.poll.Poll.TheVariants.{Paused}
use Rattle.rp_walker.specs.declared.record.MatcherState.{MatcherState}
use Rattle.rp_walker.specs.declared.walker.Walker.{Walker}
use Rattle.rp_walker.specs.FitLaws.{AgreesFrom}
use Rattle.rp_walker.specs.LeftLaw.{HoldsNoMore}
use Rattle.rp_walker.specs.Walking.{record_of, Stands}
use Rattle.rp_walker.specs.Polls.{left_in, entered_by, Answers, GivenBy, GoesAlong, PollLowers, StartsAgain, StopsAtLast, TurnsAreCounted, PollTakes, IdleTakes}
use Rattle.rp_answer.specs.declared.kept.Kept.{Kept}
use Rattle.rp_answer.specs.Kept.{kept_rows}
use Rattle.rp_answer.specs.MatcherData.{MatcherData}

abbrev pub known_by : Kept → Known
known_by k = record { rows = kept_rows k; end = k.end }

-- what contracts see of a matcher of this query, these kept rows and this walker
abbrev pub matcher_by : QueryData → Kept → Walker → MatcherData
matcher_by q k w =
    record {
      query = q;
      known = known_by k;
      state = record_of w;
      left = left_in q (known_by k) w;
      entered = entered_by w;
    }

-- The walker stands over the rows that are kept, and its record has the first of them.
pub record Ready (q : QueryData) (k : Kept) (w : Walker) : Type 0 where
  pub stands : Stands q (known_by k) w
  pub first : (record_of w).first ≡ k.first

-- What a poll comes to, for each partition that the record fits: the next item with its place; idle only where all that
-- is known was given; and the record fits afterwards. Only an item raises the number of given items. Where a poll is
-- idle, the answer is over or the walk comes to no later start row.
pub record PollComesTo (q : QueryData) (k : Known) (old new : MatcherState) (answer : Poll) : Type 0 where
  pub answers : Answers q k old new answer
  pub given : GivenBy old new answer
  pub stops : StopsAtLast q k old new answer

-- What a poll counts: no more turns than its budget, as many at least as its answer says, and no more rows entered than turns.
abbrev pub PollCounts : ℕ → MatcherState → ℕ → ℕ → ℕ → ℕ → Result Poll AllocError → Type 0
PollCounts budget old steps steps' entered entered' result =
    TurnsAreCounted budget steps steps' entered entered'
    × IfOk result (PollTakes budget steps steps') × IfOk result (IdleTakes old steps steps')

-- What a poll by a budget does that nobody counts. The query, how many rows are known and the end stay. Where memory ran out the
-- same item is still to come and the same rows are held; else, by a budget of 1 or more, the rows below the horizon are dropped.
pub record Advances (budget : ℕ) (old new : MatcherData) (result : Result Poll AllocError) : Type 0 where
  pub query : new.query ≡ old.query
  pub count : count new.known ≡ count old.known
  pub end : new.known.end ≡ old.known.end
  pub answers : IfOk result (PollComesTo old.query old.known old.state new.state)
  pub moves : GoesAlong old.query old.known old.state new.state
  pub out_of_memory : OnErr result (StartsAgain old.query old.known old.state.given new.state new.left)
  pub lowers : IfOk result (PollLowers budget old.left new.left)
  pub rows : (p : Known) → AgreesFrom old.state.first old.known p → AgreesFrom new.state.first new.known p
  pub held : OnOk result (1 ≤ budget → HoldsNoMore new.query new.known new.state)
  pub kept : OnErr result (new.known ≡ old.known)
  pub enters : (old.entered ≤ new.entered) × (new.entered ≤ old.entered + budget)
  pub nothing : budget ≡ 0 → (result ≡ Ok Paused) × (new ≡ old)
