-- Inside: what steps do to the record of a matcher.
use Rattle.std.specs.Prelude.{◌≡◌, ℕ, ◌+◌, Bool, true, false, length, ⊤}
use Rattle.rp_query.specs.declared.query.QueryData.{QueryData}
use Rattle.rp_known.specs.Known.{Known}
use Rattle.rp_known.specs.Walk.{Leg, Goes, Pauses, Ends, leg, leg_items, ComesTo}
use Rattle.rp_walker.specs.declared.record.MatcherState.{MatcherState}
use Rattle.rp_walker.specs.Records.{place_of, IsWithin}

-- the leg is the last
abbrev pub IsEnd : Leg → Type 0
IsEnd (Goes xs next) = ⊥
IsEnd (Pauses xs) = ⊥
IsEnd (Ends xs) = ⊤

-- the walk doesn't go on for now
abbrev pub IsStop : Leg → Type 0
IsStop (Goes xs next) = ⊥
IsStop (Pauses xs) = ⊤
IsStop (Ends xs) = ⊤

-- All items of the record's search were given, and the walk stops there; where it ends there, the answer is over.
pub record IsDone (q : QueryData) (p : Known) (r : MatcherState) : Type 0 where
  pub stops : IsStop (leg q p (place_of r))
  pub all : r.here ≡ length (leg_items (leg q p (place_of r)))
  pub over : IsEnd (leg q p (place_of r)) → r.over ≡ true

-- where the answer is over, its last leg was given
pub record HasEnded (q : QueryData) (p : Known) (r : MatcherState) : Type 0 where
  pub ends : IsEnd (leg q p (place_of r))
  pub all : r.here ≡ length (leg_items (leg q p (place_of r)))

abbrev pub ended_by : Bool → QueryData → Known → MatcherState → Type 0
ended_by true q p r = HasEnded q p r
ended_by false q p r = ⊤

-- From one record to another the walk goes on, and what is given is counted.
pub record Moves (q : QueryData) (p : Known) (old new : MatcherState) : Type 0 where
  pub before : ℕ
  pub comes : ComesTo q p (place_of old) before (place_of new)
  pub counted : old.given + before + new.here ≡ new.given + old.here
  pub within : IsWithin q p new
  pub ended : ended_by new.over q p new
