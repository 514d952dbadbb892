-- How long a known answer is at most.
use Rattle.std.proofs.Common.{◌≡◌, ℕ, zero, suc, ◌+◌, ◌-◌, ◌*◌, ◌^◌, ◌<◌, ◌≤◌, List, [], ◌∷◌, length, length-append, Bool, true, false, cond, Option, Some, None, refl, arith}
use Rattle.std.specs.Prelude.{nat_le, Result, Ok, Err}
use Rattle.std.proofs.lemmas.List.{length-map}
use Rattle.std.proofs.lemmas.Bool.Decides.{nat_tests}
use Rattle.rp_words.specs.declared.word.Label.{Label}
use Rattle.rp_words.specs.declared.word.End.{End}
use Rattle.rp_words.specs.declared.word.End.TheVariants.{Open as OpenEnd, Closed as ClosedEnd}
use Rattle.rp_words.specs.WordLaws.{WordsEnd}
use Rattle.rp_query.specs.declared.query.RowsPerMatch.{RowsPerMatch}
use Rattle.rp_query.specs.declared.query.RowsPerMatch.TheVariants.{One, AllShowEmpty, AllOmitEmpty, AllWithUnmatched}
use Rattle.rp_search.specs.Found.{Found, Match, NoMatch, Waits}
use Rattle.rp_query.specs.declared.query.QueryData.{QueryData}
use Rattle.rp_conditions.specs.Tested.{outcome_of}
use Rattle.rp_query.specs.declared.item.Item.{Item}
use Rattle.rp_query.specs.declared.item.SkipFault.{SkipFault}
use Rattle.rp_known.specs.declared.place.Place.{Place}
use Rattle.rp_known.specs.Known.{Known, count}
use Rattle.rp_known.specs.Plans.{tested_by}
use Rattle.rp_known.specs.Skips.{next_start}
use Rattle.rp_known.specs.Items.{unexcluded, match_rows, item_rows, item_at, items_of}
use Rattle.rp_known.specs.Walk.{Leg, Goes, Pauses, Ends, after_item, after_items, after_match, after_found, found_at, at_last, searched, leg, leg_items, and_then, walk, first_place, known}
use Rattle.rp_known.specs.WalkLaws.{AreKnown}
use Rattle.rp_known.proofs.Legs.{match_known}

one_more : (x : Item) (t : Leg) → length (leg_items (after_item x t)) ≡ suc (length (leg_items t))
one_more x (Goes xs next) = refl
one_more x (Pauses xs) = refl
one_more x (Ends xs) = refl

items_short : (xs : List (Option Item)) (t : Leg) → length (leg_items (after_items xs t)) ≤ length xs + length (leg_items t)
items_short [] t = omega arith
items_short (Some x ∷ xs) t = omega (arith, one_more x (after_items xs t), items_short xs t)
items_short (None ∷ xs) t = omega arith

unexcluded_short : (row : ℕ) (ls : List Label) → length (unexcluded row ls) ≤ length ls
unexcluded_short row [] = omega arith
unexcluded_short row (l ∷ ls) = go l.excluded (unexcluded_short (suc row) ls)
  where
    go : (b : Bool) → length (unexcluded (suc row) ls) ≤ length ls → length (cond b (unexcluded (suc row) ls) (row ∷ unexcluded (suc row) ls)) ≤ suc (length ls)
    go true h = omega arith
    go false h = omega arith

match_short : (shows : RowsPerMatch) (start : ℕ) (l : Label) (ls : List Label) → length (match_rows shows start (l ∷ ls)) ≤ length (l ∷ ls)
match_short One start l ls = omega arith
match_short AllShowEmpty start l ls = unexcluded_short start (l ∷ ls)
match_short AllOmitEmpty start l ls = unexcluded_short start (l ∷ ls)
match_short AllWithUnmatched start l ls = unexcluded_short start (l ∷ ls)

one_short : (b : Bool) (row n : ℕ) → length (cond b (row ∷ []) []) ≤ suc n
one_short true row n = omega arith
one_short false row n = omega arith

rows_short : (shows : RowsPerMatch) (place : Place) (n : ℕ) (f : Found) → AreKnown place.start n f → length (item_rows shows place f) ≤ suc n
rows_short shows place n Waits h = omega arith
rows_short shows place n NoMatch h = one_short _ place.start n
rows_short shows place n (Match []) h = one_short _ place.start n
rows_short shows place n (Match (l ∷ ls)) h = omega (arith, h, match_short shows place.start l ls)

after_short : (place : Place) (labels : List Label) (r : Result ℕ SkipFault) → length (leg_items (after_match place labels r)) ≤ 1
after_short place labels (Ok row) = omega arith
after_short place labels (Err fault) = omega arith

found_short : (q : QueryData) (place : Place) (f : Found) → length (leg_items (after_found q place f)) ≤ 1
found_short q place Waits = omega arith
found_short q place NoMatch = omega arith
found_short q place (Match ls) = after_short place ls (next_start q.plan.skip place.start ls)

last_short : (e : End) (n : ℕ) → length (leg_items (at_last e)) ≤ suc (suc n)
last_short OpenEnd n = omega arith
last_short ClosedEnd n = omega arith

module _ (within : WordsEnd) (q : QueryData) (p : Known) where
  leg_short : (place : Place) → length (leg_items (leg q p place)) ≤ suc (suc (count p))
  leg_short place = go (nat_le place.start (count p)) refl
    where
      go : (b : Bool) → nat_le place.start (count p) ≡ b → length (leg_items (cond b (searched q p place (found_at q p place.start)) (at_last p.end))) ≤ suc (suc (count p))
      go true e =
          let low : place.start ≤ count p = grind (arith, nat_tests) in
          let a = items_short (items_of q p place (found_at q p place.start)) (after_found q place (found_at q p place.start)) in
          let b = found_short q place (found_at q p place.start) in
          let c = rows_short q.plan.rows place (count p) (found_at q p place.start) (match_known within (outcome_of (tested_by q p) place.start) q p place.start low (found_at q p place.start) refl) in
          let d = length-map (item_rows q.plan.rows place (found_at q p place.start)) (item_at q p place (found_at q p place.start)) in
          omega (arith, a, b, c, d)
      go false e = last_short p.end (count p)

  step_short : (t : Leg) (on : Place → List Item) (k : ℕ) → length (leg_items t) ≤ 2 ^ 64 → ((next : Place) → length (on next) ≤ k * 2 ^ 64) → length (and_then t on) ≤ suc k * 2 ^ 64
  step_short (Goes xs next) on k h i = omega (arith, h, i next, length-append xs (on next))
  step_short (Pauses xs) on k h i = omega (arith, h)
  step_short (Ends xs) on k h i = omega (arith, h)

  walk_short : count p < 2 ^ 64 - 1 → (k : ℕ) (place : Place) → length (walk k q p place) ≤ k * 2 ^ 64
  walk_short few zero place = omega arith
  walk_short few (suc k) place = step_short (leg q p place) (walk k q p) k (omega (arith, few, leg_short place)) (walk_short few k)

  pub known_short : count p < 2 ^ 64 - 1 → length (known q p) < 2 ^ 128 - 1
  known_short few = omega (arith, few, walk_short few (suc (suc (count p) - 1)) first_place)
