-- A walk that stands in the rows of a partition comes to places in its rows.
use Rattle.std.proofs.Common.{◌≡◌, ℕ, zero, suc, ◌+◌, ◌≤◌, List, [], ◌∷◌, length, Bool, true, false, cond, Option, Some, None, refl, subst, arith}
use Rattle.std.specs.Prelude.{nat_le, option_map, ⊤}
use Rattle.std.proofs.lemmas.Bool.Decides.{nat_tests}
use Rattle.rp_words.specs.declared.word.Label.{Label}
use Rattle.rp_words.specs.declared.word.End.{End}
use Rattle.rp_words.specs.declared.word.End.TheVariants.{Open as OpenEnd, Closed as ClosedEnd}
use Rattle.rp_search.specs.Found.{Found, Match, NoMatch, Waits}
use Rattle.rp_query.specs.declared.query.QueryData.{QueryData}
use Rattle.rp_query.specs.declared.query.SkipTo.{SkipTo}
use Rattle.rp_query.specs.declared.query.SkipTo.TheVariants.{PastLastRow, NextRow, First, Last}
use Rattle.rp_query.specs.declared.item.Item.{Item}
use Rattle.rp_known.specs.declared.place.Place.{Place}
use Rattle.rp_known.specs.Known.{Known, count}
use Rattle.rp_known.specs.Skips.{is_of, first_passing, last_passing, or_here, skipped, start_after}
use Rattle.rp_known.specs.Items.{items_of}
use Rattle.rp_known.specs.Walk.{Leg, Goes, Pauses, Ends, after_item, after_items, after_match, after_found, found_at, at_last, searched, leg, ComesTo, here, on}
use Rattle.rp_known.specs.WalkLaws.{AreKnown, MatchesAreKnown, IsInRows, LeadsInRows}

-- ---- a skip stays in the match, or goes one row past it

abbrev IsAtMost : ℕ → Option ℕ → Type 0
IsAtMost n None = ⊤
IsAtMost n (Some k) = k ≤ n

first_in : (test : Label → Bool) (ls : List Label) → IsAtMost (length ls) (first_passing test ls)
first_in test [] = tt
first_in test (l ∷ ls) = go (test l) (first_passing test ls) (first_in test ls)
  where
    go : (b : Bool) (o : Option ℕ) → IsAtMost (length ls) o → IsAtMost (suc (length ls)) (cond b (Some 0) (option_map suc o))
    go true o h = omega arith
    go false None h = tt
    go false (Some k) h = omega (arith, h)

last_in : (test : Label → Bool) (ls : List Label) → IsAtMost (length ls) (last_passing test ls)
last_in test [] = tt
last_in test (l ∷ ls) = go (test l) (last_passing test ls) (last_in test ls)
  where
    go : (b : Bool) (o : Option ℕ) → IsAtMost (length ls) o → IsAtMost (suc (length ls)) (or_here b o)
    go true None h = omega arith
    go false None h = tt
    go true (Some k) h = omega (arith, h)
    go false (Some k) h = omega (arith, h)

skip_in : (skip : SkipTo) (l : Label) (ls : List Label) → IsAtMost (length (l ∷ ls)) (skipped skip (l ∷ ls))
skip_in PastLastRow l ls = omega arith
skip_in NextRow l ls = omega arith
skip_in (First variables) l ls = first_in (is_of variables) (l ∷ ls)
skip_in (Last variables) l ls = last_in (is_of variables) (l ∷ ls)

-- ---- where a leg leads

module _ (p : Known) (place : Place) (known : place.start ≤ count p) (covered : place.covered ≤ count p) where
  match_in : (l : Label) (ls : List Label) (o : Option ℕ) → place.start + length (l ∷ ls) ≤ suc (count p) → IsAtMost (length (l ∷ ls)) o → LeadsInRows p (after_match place (l ∷ ls) (start_after place.start o))
  match_in l ls None h k = tt
  match_in l ls (Some zero) h k = tt
  match_in l ls (Some (suc i)) h k = (omega (arith, h, k), omega (arith, covered, h))

  pub found_in : (q : QueryData) (f : Found) → AreKnown place.start (count p) f → LeadsInRows p (after_found q place f)
  found_in q Waits h = tt
  found_in q NoMatch h = (omega (arith, known), covered)
  found_in q (Match []) h = (omega (arith, known), omega (arith, covered))
  found_in q (Match (l ∷ ls)) h = match_in l ls (skipped q.plan.skip (l ∷ ls)) h (skip_in q.plan.skip l ls)

item_in : (p : Known) (x : Item) (t : Leg) → LeadsInRows p t → LeadsInRows p (after_item x t)
item_in p x (Goes xs next) h = h
item_in p x (Pauses xs) h = tt
item_in p x (Ends xs) h = tt

items_in : (p : Known) (xs : List (Option Item)) (t : Leg) → LeadsInRows p t → LeadsInRows p (after_items xs t)
items_in p [] t h = h
items_in p (Some x ∷ xs) t h = item_in p x (after_items xs t) (items_in p xs t h)
items_in p (None ∷ xs) t h = tt

last_in_rows : (p : Known) (e : End) → LeadsInRows p (at_last e)
last_in_rows p OpenEnd = tt
last_in_rows p ClosedEnd = tt

leg_in : MatchesAreKnown → (q : QueryData) (p : Known) (place : Place) → IsInRows p place → LeadsInRows p (leg q p place)
leg_in matches q p place h = go (nat_le place.start (count p)) refl
  where
    go : (b : Bool) → nat_le place.start (count p) ≡ b → LeadsInRows p (cond b (searched q p place (found_at q p place.start)) (at_last p.end))
    go false e = last_in_rows p p.end
    go true e =
        let known : place.start ≤ count p = grind (arith, nat_tests) in
        items_in p (items_of q p place (found_at q p place.start)) (after_found q place (found_at q p place.start))
        (found_in p place known h.1 q (found_at q p place.start) (matches q p place.start known))

pub walk_in : MatchesAreKnown → (q : QueryData) (p : Known) {from to : Place} {d : ℕ} → ComesTo q p from d to → IsInRows p from → IsInRows p to
walk_in matches q p here h = h
walk_in matches q p (on {place = place} is r) h = walk_in matches q p r (subst (LeadsInRows p) is (leg_in matches q p place h))
