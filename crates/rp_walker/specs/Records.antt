-- The record of a matcher, and when it fits a known partition.
use Rattle.std.specs.Prelude.{◌≡◌, ℕ, ◌+◌, ◌≤◌, Bool, true, false, List, [], ◌∷◌, ◌++◌, length, ⊤, if◌then◌else◌}
use Rattle.rp_query.specs.declared.query.QueryData.{QueryData}
use Rattle.rp_query.specs.declared.item.Item.{Item}
use Rattle.rp_query.specs.declared.item.Item.TheVariants.{Row as RowItem, Fault as FaultItem, End as EndItem}
use Rattle.rp_known.specs.declared.place.Place.{Place}
use Rattle.rp_known.specs.Known.{Known, count}
use Rattle.rp_known.specs.Plans.{first_read}
use Rattle.rp_known.specs.Walk.{leg, leg_items, first_place, known, ComesTo}
use Rattle.rp_walker.specs.declared.record.MatcherState.{MatcherState}

abbrev pub place_of : MatcherState → Place
place_of r = record { start = r.at; matches = r.matches; covered = r.covered }

-- what earlier matches cover is known, and while the answer goes on the walk stands in the rows, or just past them
abbrev pub StandsInRows : Known → MatcherState → Type 0
StandsInRows p r = (r.covered ≤ count p) × (r.over ≡ false → r.at ≤ count p + 1)

abbrev pub PlaceStays : Known → MatcherState → MatcherState → Type 0
PlaceStays p old new = StandsInRows p old → StandsInRows p new

-- What no poll changes: which row is the first that is kept; and a walk that stands in the rows stands in them.
pub record StaysInRows (p : Known) (old new : MatcherState) : Type 0 where
  pub first : new.first ≡ old.first
  pub place : PlaceStays p old new

-- no more items of its search were given than there are
abbrev pub IsWithin : QueryData → Known → MatcherState → Type 0
IsWithin q p r = r.here ≤ length (leg_items (leg q p (place_of r)))

-- The walk comes to the record's search, of whose items so many as `here` were given.
pub record IsOnWalk (q : QueryData) (r : MatcherState) (p : Known) : Type 0 where
  pub before : ℕ
  pub comes : ComesTo q p first_place before (place_of r)
  pub counted : r.given ≡ before + r.here
  pub within : IsWithin q p r
  pub kept : r.first ≤ first_read q r.at

-- no start row that the walk comes to is greater
abbrev pub IsLastStart : QueryData → Known → ℕ → Type 0
IsLastStart q p row = (before : ℕ) (place : Place) → ComesTo q p first_place before place → place.start ≤ row

abbrev pub IsLast : Item → Type 0
IsLast (RowItem number cells) = ⊥
IsLast (FaultItem fault) = ⊤
IsLast EndItem = ⊤

-- Each item was given, and the last is the end or a fault.
pub record IsOver (q : QueryData) (r : MatcherState) (p : Known) : Type 0 where
  pub front : List Item
  pub last : Item
  pub is : known q p ≡ front ++ last ∷ []
  pub ends : IsLast last
  pub counted : r.given ≡ length (known q p)

abbrev pub fits_by : Bool → QueryData → MatcherState → Known → Type 0
fits_by true q r p = IsOver q r p
fits_by false q r p = IsOnWalk q r p

-- a record fits a known partition
abbrev pub Fits : QueryData → MatcherState → Known → Type 0
Fits q r p = fits_by r.over q r p

-- the search from another place is next
abbrev pub at_place : Place → MatcherState → MatcherState
at_place place r = record r { at = place.start; matches = place.matches; covered = place.covered; here = 0 }

-- the last item was given before
abbrev pub was_last : MatcherState → MatcherState
was_last r = record r { over = true }

-- the last item, which comes after so many of its search, is given
abbrev pub gave_last : ℕ → MatcherState → MatcherState
gave_last before r = record r { here = before + 1; given = r.given + 1; over = true }

-- the record of a matcher that has known nothing
abbrev pub first_state : MatcherState
first_state = record { first = 1; at = 1; matches = 0; covered = 0; here = 0; given = 0; over = false }

-- the first row that is still read
abbrev pub horizon_of : QueryData → Known → MatcherState → ℕ
horizon_of q p r = if r.over then count p + 1 else first_read q r.at
