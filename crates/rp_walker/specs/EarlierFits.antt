-- When a record fitted under the older rule, by which AND and OR were open where either side was. It stands for one law: such a
-- record fits now.
use Rattle.std.specs.Prelude.{◌≡◌, ℕ, ◌+◌, ◌≤◌, Bool, true, false, List, length}
use Rattle.rp_query.specs.declared.query.QueryData.{QueryData}
use Rattle.rp_query.specs.declared.item.Item.{Item}
use Rattle.rp_known.specs.declared.place.Place.{Place}
use Rattle.rp_known.specs.Known.{Known}
use Rattle.rp_known.specs.Plans.{first_read}
use Rattle.rp_known.specs.Walk.{Ends, leg_items, first_place}
use Rattle.rp_known.specs.Earlier.{early_leg, EarlyComesTo}
use Rattle.rp_walker.specs.declared.record.MatcherState.{MatcherState}
use Rattle.rp_walker.specs.Records.{place_of, Fits}

-- The walk came to the record's search, of whose items so many as `here` were given.
pub record WasOnWalk (q : QueryData) (r : MatcherState) (p : Known) : Type 0 where
  pub before : ℕ
  pub came : EarlyComesTo q p first_place before (place_of r)
  pub counted : r.given ≡ before + r.here
  pub within : r.here ≤ length (leg_items (early_leg q p (place_of r)))
  pub kept : r.first ≤ first_read q r.at

-- The answer had ended with the items of a start row, and each item was given.
pub record WasOver (q : QueryData) (r : MatcherState) (p : Known) : Type 0 where
  pub before : ℕ
  pub place : Place
  pub last : List Item
  pub came : EarlyComesTo q p first_place before place
  pub ended : early_leg q p place ≡ Ends last
  pub counted : r.given ≡ before + length last

abbrev pub fitted_by : Bool → QueryData → MatcherState → Known → Type 0
fitted_by true q r p = WasOver q r p
fitted_by false q r p = WasOnWalk q r p

-- A record that fitted what was known of some rows fits what is known of them now.
abbrev pub EarlierFits : Type 0
EarlierFits = (q : QueryData) (r : MatcherState) (p : Known) → fitted_by r.over q r p → Fits q r p
