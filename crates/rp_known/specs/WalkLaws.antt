-- What is known only grows.
use Rattle.std.specs.Prelude.{◌≡◌, ◌≢◌, ℕ, ◌-◌, ◌^◌, ◌<◌, ◌≤◌, List, ◌++◌, length, suc, ⊤, ◌+◌}
use Rattle.rp_words.specs.declared.word.End.TheVariants.{Open as OpenEnd}
use Rattle.rp_query.specs.declared.query.QueryData.{QueryData}
use Rattle.rp_search.specs.Found.{Found, Match, NoMatch, Waits}
use Rattle.rp_query.specs.Sound.{IsSound}
use Rattle.rp_query.specs.declared.item.Item.{Item}
use Rattle.rp_eval.specs.GoesOn.{GoesOn}
use Rattle.rp_eval.specs.Partition.{Rows}
use Rattle.rp_known.specs.declared.place.Place.{Place}
use Rattle.rp_known.specs.Known.{Known, count}
use Rattle.rp_known.specs.Plans.{first_read}
use Rattle.rp_known.specs.Walk.{Leg, Goes, Pauses, Ends, after_found, found_at, leg, leg_items, known, ComesTo}

-- A continuation of an open partition: no rows or more come, and it may be closed.
pub record Continues (old new : Known) : Type 0 where
  pub open_before : old.end ≡ OpenEnd
  pub more : Rows
  pub rows : new.rows ≡ old.rows ++ more

-- The one goes on as the other, as far as the rows from this one on are looked at.
abbrev pub GoesOnFrom : ℕ → Known → Known → Type 0
GoesOnFrom first old new = GoesOn first old.rows old.end new.rows new.end

pub record IsPrefixOf (xs ys : List Item) : Type 0 where
  pub rest : List Item
  pub is : xs ++ rest ≡ ys

-- What is known of an open partition is a prefix of what is known of every continuation, its answer too.
abbrev pub KnownGrows : Type 0
KnownGrows = (q : QueryData) (p p' : Known) → IsSound q → Continues p p' → IsPrefixOf (known q p) (known q p')

-- a leg that goes on or ends stays, and what a leg that pauses has given comes first of what it gives later
abbrev pub Stays : Leg → Leg → Type 0
Stays (Goes xs next) new = new ≡ Goes xs next
Stays (Pauses xs) new = IsPrefixOf xs (leg_items new)
Stays (Ends xs) new = new ≡ Ends xs

-- What a start row gives stays over rows that go on, whatever becomes of the rows that are out of its reach.
abbrev pub LegStays : Type 0
LegStays = (q : QueryData) (p p' : Known) (place : Place) →
    IsSound q → 1 ≤ place.start → GoesOnFrom (first_read q place.start) p p' → Stays (leg q p place) (leg q p' place)

-- Where a walk comes to, it comes to over rows that go on.
abbrev pub WalkStays : Type 0
WalkStays = (q : QueryData) (p p' : Known) (d : ℕ) (from to : Place) →
    IsSound q → 1 ≤ from.start → GoesOnFrom (first_read q from.start) p p' →
    ComesTo q p from d to → ComesTo q p' from d to

-- An answer has fewer items than places can tell.
abbrev pub KnownIsShort : Type 0
KnownIsShort = (q : QueryData) (p : Known) → count p < 2 ^ 64 - 1 → length (known q p) < 2 ^ 128 - 1

-- a leg that goes on leads to a later row, and counts one match more at most
abbrev pub LeadsOn : Place → Leg → Type 0
LeadsOn from (Goes xs next) = (from.start < next.start) × (next.matches ≤ suc from.matches)
LeadsOn from (Pauses xs) = ⊤
LeadsOn from (Ends xs) = ⊤

abbrev pub LegsLeadOn : Type 0
LegsLeadOn = (q : QueryData) (p : Known) (place : Place) → LeadsOn place (leg q p place)

-- what follows a search leads on too
abbrev pub SearchesLeadOn : Type 0
SearchesLeadOn = (q : QueryData) (place : Place) (result : Found) → LeadsOn place (after_found q place result)

-- the labels of a match are of known rows
abbrev pub AreKnown : ℕ → ℕ → Found → Type 0
AreKnown start n (Match ls) = start + length ls ≤ suc n
AreKnown start n NoMatch = ⊤
AreKnown start n Waits = ⊤

abbrev pub MatchesAreKnown : Type 0
MatchesAreKnown = (q : QueryData) (p : Known) (start : ℕ) →
    start ≤ count p → AreKnown start (count p) (found_at q p start)

-- a place in the rows of a partition: it starts one row past the last at most, and what earlier matches cover is known
abbrev pub IsInRows : Known → Place → Type 0
IsInRows p place = (place.start ≤ count p + 1) × (place.covered ≤ count p)

-- a leg that goes on leads to a place in the rows
abbrev pub LeadsInRows : Known → Leg → Type 0
LeadsInRows p (Goes xs next) = IsInRows p next
LeadsInRows p (Pauses xs) = ⊤
LeadsInRows p (Ends xs) = ⊤

-- What follows a search from a known row leads to a place in the rows.
abbrev pub SearchesLeadInRows : Type 0
SearchesLeadInRows = (q : QueryData) (p : Known) (place : Place) (result : Found) →
    place.start ≤ count p → place.covered ≤ count p → AreKnown place.start (count p) result →
    LeadsInRows p (after_found q place result)

-- From a place in the rows a walk comes to places in the rows.
abbrev pub WalkIsInRows : Type 0
WalkIsInRows = (q : QueryData) (p : Known) (d : ℕ) (from to : Place) →
    IsInRows p from → ComesTo q p from d to → IsInRows p to

-- What a search has found stays over rows that go on, unless it waits.
abbrev pub FindingsStay : Type 0
FindingsStay = (q : QueryData) (p p' : Known) (start : ℕ) →
    IsSound q → 1 ≤ start → GoesOnFrom (first_read q start) p p' →
    found_at q p start ≢ Waits → found_at q p' start ≡ found_at q p start

-- Over a continuation all rows go on.
abbrev pub ContinuationsGoOn : Type 0
ContinuationsGoOn = (p p' : Known) → Continues p p' → GoesOnFrom 1 p p'
