-- Inside: what a step of a walker keeps.
use Rattle.std.specs.Prelude.{◌≡◌, ℕ, ◌+◌, ◌<◌, ◌≤◌, Bool, true, false, ⊤}
use Rattle.rp_query.specs.declared.query.QueryData.{QueryData}
use Rattle.rp_query.specs.Sound.{IsSound}
use Rattle.rp_known.specs.Known.{Known}
use Rattle.rp_known.specs.WalkLaws.{GoesOnFrom}
use Rattle.rp_known.specs.Plans.{first_read}
use Rattle.rp_walker.specs.declared.record.MatcherState.{MatcherState}
use Rattle.rp_walker.specs.declared.stage.Stage.{Stage}
use Rattle.rp_walker.specs.declared.stage.Step.{Step}
use Rattle.rp_walker.specs.declared.stage.Step.TheVariants.{Went, Gave, Idle}
use Rattle.rp_walker.specs.declared.walker.Walker.{Walker}
use Rattle.rp_walker.specs.Records.{IsWithin, IsLast, PlaceStays}
use Rattle.rp_walker.specs.Steps.{Moves}
use Rattle.rp_walker.specs.Stages.{IsGoing, StageStands, left_with, StepIs, Lowers}

-- the answer goes on, and the stage stands
pub record GoesOnWell (q : QueryData) (p : Known) (w : Walker) : Type 0 where
  pub going : IsGoing q w.state
  pub stands : StageStands q p w.state w.stage

abbrev pub stands_by : Bool → QueryData → Known → Walker → Type 0
stands_by true q p w = w.state.here ≤ w.state.given
stands_by false q p w = GoesOnWell q p w

-- the record of a walker
unfoldable pub record_of : Walker → MatcherState
record_of w = w.state

-- While the answer goes on, what it has found so far fits these rows; once it is over, no more were given of the last search than in
-- all.
unfoldable pub Stands : QueryData → Known → Walker → Type 0
Stands q p w = stands_by w.state.over q p w

-- With 1 ≤ first, all that `resume` asks of a record.
pub record CanGoOn (q : QueryData) (r : MatcherState) : Type 0 where
  pub here : r.here ≤ r.given
  pub going : r.over ≡ false → (1 ≤ r.at) × (r.matches < r.at) × (r.first ≤ first_read q r.at)

-- A walker stands over rows that go on, and over the same rows when those out of reach are dropped; once its answer is
-- over, it stands over any.
abbrev pub StandsStays : Type 0
StandsStays = (q : QueryData) (p p' : Known) (w : Walker) →
    IsSound q → ((record_of w).over ≡ false → GoesOnFrom (first_read q (record_of w).at) p p') →
    Stands q p w → Stands q p' w

-- `resume` may go on from the record of a walker that stands.
abbrev pub StandsCanGoOn : Type 0
StandsCanGoOn = (q : QueryData) (p : Known) (w : Walker) → Stands q p w → CanGoOn q (record_of w)

-- the walk's part of a step, for a record whose items are within its search's
pub record Follows (q : QueryData) (p : Known) (old new : MatcherState) (step : Step) : Type 0 where
  pub moves : Moves q p old new
  pub is : StepIs q p old new step

-- only an item raises the number of given items, by one
abbrev pub IsGivenBy : Step → ℕ → ℕ → Type 0
IsGivenBy Went before after = after ≡ before
IsGivenBy (Gave x) before after = after ≡ before + 1
IsGivenBy Idle before after = after ≡ before

-- with the last item the answer is over
abbrev pub EndsBy : Step → Bool → Type 0
EndsBy Went over = ⊤
EndsBy (Gave x) over = IsLast x → over ≡ true
EndsBy Idle over = ⊤

-- A step of so many turns from a stage on.
pub record KeepsGoing (taken : ℕ) (q : QueryData) (p : Known) (old : MatcherState) (stage : Stage) (new : Walker) (step : Step) : Type 0 where
  pub given : IsGivenBy step old.given new.state.given
  pub over : EndsBy step new.state.over
  pub first : new.state.first ≡ old.first
  pub stands : stands_by new.state.over q p new
  pub in_rows : PlaceStays p old new.state
  pub lowers : Lowers taken step (left_with q p old stage) (left_with q p new.state new.stage)
  pub follows : IsWithin q p old → Follows q p old new.state step
