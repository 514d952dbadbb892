-- Inside: what a matcher's steps mean for each partition that its record fits.
use Rattle.std.specs.Prelude.{◌≡◌, ℕ, ◌≤◌, length, Some, slice_get, true, false}
use Rattle.rp_query.specs.declared.query.QueryData.{QueryData}
use Rattle.rp_query.specs.declared.item.Item.{Item}
use Rattle.rp_known.specs.Known.{Known}
use Rattle.rp_known.specs.WalkLaws.{GoesOnFrom, Continues}
use Rattle.rp_query.specs.Sound.{IsSound}
use Rattle.rp_known.specs.Walk.{known, walk_from, leg}
use Rattle.rp_known.specs.WalkLaws.{IsInRows}
use Rattle.rp_walker.specs.declared.record.MatcherState.{MatcherState}
use Rattle.rp_walker.specs.Records.{place_of, IsWithin, IsOnWalk, IsLastStart, Fits, first_state}
use Rattle.rp_walker.specs.Steps.{IsDone, Moves, IsEnd}

-- The one is the other, as far as the rows from this one on are looked at.
pub record AgreesFrom (first : ℕ) (p p' : Known) : Type 0 where
  pub on : GoesOnFrom first p p'
  pub back : GoesOnFrom first p' p

-- what steps over rows that are kept say of the partition that they are of
pub record Meant (q : QueryData) (old new : MatcherState) (k p : Known) : Type 0 where
  pub fits : Fits q new p
  pub moves : Moves q p old new
  pub next : (x : Item) →
      slice_get (walk_from q k (place_of old)) old.here ≡ Some x → slice_get (known q p) old.given ≡ Some x
  pub done : IsDone q k new → length (known q p) ≡ new.given
  pub last : IsDone q k new → IsLastStart q p new.at
  pub ended : IsDone q k new → IsEnd (leg q p (place_of new)) → new.over ≡ true

-- A step over the rows that are kept of a partition is one over the partition.
abbrev pub StepsMean : Type 0
StepsMean = (q : QueryData) (old new : MatcherState) (k p : Known) →
    IsSound q → 1 ≤ old.at → AgreesFrom old.first k p → IsOnWalk q old p →
    IsWithin q k old × (new.first ≡ old.first → Moves q k old new → Meant q old new k p)

-- A record that fits what is known of an open partition fits what is known of every continuation.
abbrev pub FitsStay : Type 0
FitsStay = (q : QueryData) (r : MatcherState) (p p' : Known) → IsSound q → Continues p p' → Fits q r p → Fits q r p'

-- The record of a matcher that has known nothing fits every partition.
abbrev pub FirstFits : Type 0
FirstFits = (q : QueryData) (p : Known) → Fits q first_state p

-- A record that fits stands in the rows while its answer goes on.
abbrev pub FitsInRows : Type 0
FitsInRows = (q : QueryData) (r : MatcherState) (p : Known) → r.over ≡ false → Fits q r p → IsInRows p (place_of r)
