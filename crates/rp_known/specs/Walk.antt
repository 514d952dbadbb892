-- The walk over a partition's start rows, and the known answer.
use Rattle.std.specs.Prelude.{◌≡◌, ℕ, zero, suc, ◌+◌, ◌-◌, max, List, [], ◌∷◌, ◌++◌, length, Option, Some, None, Result, Ok, Err, nat_le, if◌then◌else◌}
use Rattle.rp_words.specs.declared.word.Label.{Label}
use Rattle.rp_words.specs.declared.word.End.{End}
use Rattle.rp_words.specs.declared.word.End.TheVariants.{Open as OpenEnd, Closed as ClosedEnd}
use Rattle.rp_words.specs.PatternForm.{form_of}
use Rattle.rp_words.specs.Words.{words}
use Rattle.rp_search.specs.Found.{Found, Match, NoMatch, Waits, found}
use Rattle.rp_query.specs.declared.query.QueryData.{QueryData}
use Rattle.rp_conditions.specs.Tested.{outcome_of}
use Rattle.rp_query.specs.declared.item.Item.{Item}
use Rattle.rp_query.specs.declared.item.Item.TheVariants.{Fault as FaultItem, End as EndItem}
use Rattle.rp_query.specs.declared.item.SkipFault.{SkipFault}
use Rattle.rp_known.specs.declared.place.Place.{Place}
use Rattle.rp_known.specs.Known.{Known, count}
use Rattle.rp_known.specs.Plans.{tested_by}
use Rattle.rp_known.specs.Skips.{next_start}
use Rattle.rp_known.specs.Items.{items_of}

-- A leg of the walk: what one start row gives. The walk goes on from another place, or it waits, or the answer ends there.
pub data Leg : Type 0 where
  Goes : List Item → Place → Leg
  Pauses : List Item → Leg
  Ends : List Item → Leg

-- one more item before the others
abbrev pub after_item : Item → Leg → Leg
after_item x (Goes xs next) = Goes (x ∷ xs) next
after_item x (Pauses xs) = Pauses (x ∷ xs)
after_item x (Ends xs) = Ends (x ∷ xs)

-- the items before the first that isn't ready, or all of them and then what follows
abbrev pub after_items : List (Option Item) → Leg → Leg
after_items [] follows = follows
after_items (Some x ∷ xs) follows = after_item x (after_items xs follows)
after_items (None ∷ xs) follows = Pauses []

-- the last row of a match, 0 where it has none
abbrev pub last_row : ℕ → List Label → ℕ
last_row start [] = 0
last_row start (l ∷ ls) = start + length ls

-- what follows a match: the search at the row that the skip rule names, or its fault
abbrev pub after_match : Place → List Label → Result ℕ SkipFault → Leg
after_match place labels (Ok row) = Goes [] (record { start = row; matches = suc place.matches; covered = max place.covered (last_row place.start labels) })
after_match place labels (Err fault) = Ends (FaultItem fault ∷ [])

-- what follows the items of a search
abbrev pub after_found : QueryData → Place → Found → Leg
after_found q place Waits = Pauses []
after_found q place NoMatch = Goes [] (record place { start = suc place.start })
after_found q place (Match labels) = after_match place labels (next_start q.plan.skip place.start labels)

-- what the search from a row finds
abbrev pub found_at : QueryData → Known → ℕ → Found
found_at q p start = found (outcome_of (tested_by q p) start) (words (count p) p.end (form_of q.pattern) start)

-- past the last start row
abbrev pub at_last : End → Leg
at_last OpenEnd = Pauses []
at_last ClosedEnd = Ends (EndItem ∷ [])

-- what a search that found this gives
abbrev pub searched : QueryData → Known → Place → Found → Leg
searched q p place result = after_items (items_of q p place result) (after_found q place result)

-- the leg of the walk at a place
abbrev pub leg : QueryData → Known → Place → Leg
leg q p place = if nat_le place.start (count p) then searched q p place (found_at q p place.start) else at_last p.end

abbrev pub leg_items : Leg → List Item
leg_items (Goes xs next) = xs
leg_items (Pauses xs) = xs
leg_items (Ends xs) = xs

abbrev pub and_then : Leg → (Place → List Item) → List Item
and_then (Goes xs next) walk_on = xs ++ walk_on next
and_then (Pauses xs) walk_on = xs
and_then (Ends xs) walk_on = xs

-- the items of at most this many legs from a place on
abbrev pub walk : ℕ → QueryData → Known → Place → List Item
walk zero q p place = []
walk (suc legs) q p place = and_then (leg q p place) (walk legs q p)

-- the items from a place on: each start row takes a leg at most, and so does what lies past the last
abbrev pub walk_from : QueryData → Known → Place → List Item
walk_from q p place = walk (suc (suc (count p) - place.start)) q p place

abbrev pub first_place : Place
first_place = record { start = 1; matches = 0; covered = 0 }

-- the known answer
abbrev pub known : QueryData → Known → List Item
known q p = walk_from q p first_place

-- the answer of a whole partition
abbrev pub answer : QueryData → Known → List Item
answer q p = known q (record p { end = ClosedEnd })

-- the walk comes from a place to another after so many items
pub data ComesTo (q : QueryData) (p : Known) : Place → ℕ → Place → Type 0 where
  here : {place : Place} → ComesTo q p place 0 place
  on : {place next last : Place} {xs : List Item} {d : ℕ} → leg q p place ≡ Goes xs next → ComesTo q p next d last → ComesTo q p place (length xs + d) last
