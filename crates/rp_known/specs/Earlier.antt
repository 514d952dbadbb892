-- The known answer by the older rule, under which AND and OR were open where either side was. It stands for the law alone that it
-- begins the present one.
use Rattle.std.specs.Prelude.{◌≡◌, ℕ, zero, suc, ◌+◌, ◌-◌, List, [], length, nat_le, Option, Some, None, slice_get, if◌then◌else◌}
use Rattle.rp_words.specs.declared.word.Label.{Label}
use Rattle.rp_words.specs.declared.word.Seen.{Seen}
use Rattle.rp_words.specs.declared.word.Seen.TheVariants.{True, NotTrue}
use Rattle.rp_words.specs.PatternForm.{form_of}
use Rattle.rp_words.specs.Words.{words}
use Rattle.rp_search.specs.Found.{Found, found}
use Rattle.rp_query.specs.declared.plan.Condition.{Condition}
use Rattle.rp_query.specs.declared.query.QueryData.{QueryData}
use Rattle.rp_query.specs.Definitions.{definition_of}
use Rattle.rp_eval.specs.Early.{early_judged}
use Rattle.rp_eval.specs.ValueOf.{Setting, seen_as}
use Rattle.rp_conditions.specs.Tested.{Tested, last_row}
use Rattle.rp_query.specs.declared.item.Item.{Item}
use Rattle.rp_known.specs.declared.place.Place.{Place}
use Rattle.rp_known.specs.Known.{Known, count}
use Rattle.rp_known.specs.Plans.{tested_by}
use Rattle.rp_known.specs.Walk.{Leg, Goes, at_last, searched, leg, and_then, first_place, known, ComesTo}
use Rattle.rp_known.specs.WalkLaws.{IsPrefixOf, Stays}

-- a variable without a definition admits each row
abbrev pub early_seen_by : Setting → Option Condition → Seen
early_seen_by s (Some c) = seen_as (early_judged s c)
early_seen_by s None = True

abbrev pub early_seen_at : Tested → Setting → Option Label → Seen
early_seen_at t s None = NotTrue
early_seen_at t s (Some l) = early_seen_by s (definition_of t.query.plan l.var)

abbrev pub early_outcome : Tested → ℕ → List Label → Seen
early_outcome t start labels = early_seen_at t (last_row t start labels) (slice_get labels (length labels - 1))

-- what the search from a row found
abbrev pub early_found : QueryData → Known → ℕ → Found
early_found q p start = found (early_outcome (tested_by q p) start) (words (count p) p.end (form_of q.pattern) start)

abbrev pub early_leg : QueryData → Known → Place → Leg
early_leg q p place =
    if nat_le place.start (count p) then searched q p place (early_found q p place.start) else at_last p.end

abbrev pub early_walk : ℕ → QueryData → Known → Place → List Item
early_walk zero q p place = []
early_walk (suc legs) q p place = and_then (early_leg q p place) (early_walk legs q p)

abbrev pub early_known : QueryData → Known → List Item
early_known q p = early_walk (suc (suc (count p) - first_place.start)) q p first_place

-- What was known then begins what is known now of the same rows.
abbrev pub EarlierBegins : Type 0
EarlierBegins = (q : QueryData) (p : Known) → IsPrefixOf (early_known q p) (known q p)

-- the walk came from a place to another after so many items
pub data EarlyComesTo (q : QueryData) (p : Known) : Place → ℕ → Place → Type 0 where
  was_here : {place : Place} → EarlyComesTo q p place 0 place
  went_on : {place next last : Place} {xs : List Item} {d : ℕ} →
      early_leg q p place ≡ Goes xs next → EarlyComesTo q p next d last → EarlyComesTo q p place (length xs + d) last

-- Where the walk came to then it comes to now, after as many items.
abbrev pub EarlierWalkStays : Type 0
EarlierWalkStays = (q : QueryData) (p : Known) (d : ℕ) (from to : Place) →
    EarlyComesTo q p from d to → ComesTo q p from d to

-- A start row whose leg went on or ended then gives the same now. Where the walk waited then, what it had given comes first now.
abbrev pub EarlierLegStays : Type 0
EarlierLegStays = (q : QueryData) (p : Known) (place : Place) → Stays (early_leg q p place) (leg q p place)
