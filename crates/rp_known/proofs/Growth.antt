-- The known answer only grows.
use Rattle.std.proofs.Common.{◌≡◌, ℕ, zero, suc, ◌+◌, ◌-◌, ◌<◌, ◌≤◌, List, [], Bool, true, false, cond, refl, subst, arith}
use Rattle.std.specs.Prelude.{nat_le}
use Rattle.std.proofs.lemmas.Bool.Decides.{nat_tests}
use Rattle.rp_words.specs.declared.word.End.{End}
use Rattle.rp_words.specs.declared.word.End.TheVariants.{Open as OpenEnd, Closed as ClosedEnd}
use Rattle.rp_query.specs.declared.query.QueryData.{QueryData}
use Rattle.rp_query.specs.Sound.{IsSound}
use Rattle.rp_query.specs.declared.item.Item.{Item}
use Rattle.rp_known.specs.declared.place.Place.{Place}
use Rattle.rp_known.specs.Known.{Known, count}
use Rattle.rp_known.specs.WalkLaws.{Continues, GoesOnFrom}
use Rattle.rp_known.specs.Plans.{first_read}
use Rattle.rp_known.specs.Walk.{Leg, Goes, Pauses, Ends, found_at, at_last, searched, leg, leg_items, and_then, walk, first_place, known, ComesTo, here, on}
use Rattle.rp_known.specs.WalkLaws.{IsPrefixOf, Stays, LegStays, LeadsOn}
use Rattle.rp_known.proofs.Prefixes.{prefix_nil, prefix_same, prefix_more, prefix_after}
use Rattle.rp_known.proofs.Values.{goes_on_later, continues_on}
use Rattle.rp_known.proofs.Legs.{leg_on}

before_more : (t : Leg) (walk_on : Place → List Item) (xs : List Item) → IsPrefixOf xs (leg_items t) → IsPrefixOf xs (and_then t walk_on)
before_more (Goes ys next) walk_on xs h = prefix_more xs ys (walk_on next) h
before_more (Pauses ys) walk_on xs h = h
before_more (Ends ys) walk_on xs h = h

pub and_then_grows : (from : Place) (s t : Leg) (old_on new_on : Place → List Item) → LeadsOn from s → Stays s t → ((next : Place) → from.start < next.start → IsPrefixOf (old_on next) (new_on next)) → IsPrefixOf (and_then s old_on) (and_then t new_on)
and_then_grows from (Goes xs next) t old_on new_on g h k = rw h (prefix_after xs (old_on next) (new_on next) (k next g.0))
and_then_grows from (Pauses xs) t old_on new_on g h k = before_more t new_on xs h
and_then_grows from (Ends xs) t old_on new_on g h k = rw h (prefix_same xs)

-- what is read from a later start row on is read from an earlier one on too
pub reads_on : (q : QueryData) (p p' : Known) (x y : ℕ) → x ≤ y → GoesOnFrom (first_read q x) p p' → GoesOnFrom (first_read q y) p p'
reads_on q p p' x y le g = goes_on_later (first_read q x) (first_read q y) p p' (omega arith) g

-- ---- past the last start row

last_none : (e : End) → e ≡ OpenEnd → (walk_on : Place → List Item) → and_then (at_last e) walk_on ≡ []
last_none OpenEnd h walk_on = refl
last_none ClosedEnd h walk_on = cc

past_last : (k : ℕ) (q : QueryData) (p : Known) (place : Place) → p.end ≡ OpenEnd → count p < place.start → walk k q p place ≡ []
past_last zero q p place is h = refl
past_last (suc k) q p place is h = go (nat_le place.start (count p)) refl
  where
    go : (b : Bool) → nat_le place.start (count p) ≡ b → and_then (cond b (searched q p place (found_at q p place.start)) (at_last p.end)) (walk k q p) ≡ []
    go true e = absurd (grind (arith, nat_tests))
    go false e = last_none p.end is (walk k q p)

module _ (law : LegStays) (q : QueryData) (p p' : Known) (reaches : IsSound q) where
  pub comes_stays : {d : ℕ} {from to : Place} → 1 ≤ from.start → GoesOnFrom (first_read q from.start) p p' → ComesTo q p from d to → ComesTo q p' from d to
  comes_stays one g here = here
  comes_stays one g (on {place = place} {next = next} {xs = xs} is r) =
      let leads : LeadsOn place (Goes xs next) = subst (LeadsOn place) is (leg_on q p place) in
      let later : place.start < next.start = leads.0 in
      on (stayed (leg q p place) (leg q p' place) is (law q p p' place reaches one g)) (comes_stays (omega (arith, one, later)) (reads_on q p p' place.start next.start (omega (arith, later)) g) r)
    where
      stayed : (s t : Leg) → s ≡ Goes xs next → Stays s t → t ≡ Goes xs next
      stayed s t e h = subst (λ z. Stays z t) e h

  walk_grows : (k k' : ℕ) (place : Place) → 1 ≤ place.start → p.end ≡ OpenEnd → GoesOnFrom (first_read q place.start) p p' → suc (count p') < place.start + k' → IsPrefixOf (walk k q p place) (walk k' q p' place)
  walk_grows k zero place one is g h = let m : count p ≤ count p' = g.later.0 in rw (past_last k q p place is (omega (arith, m, h))) (prefix_nil [])
  walk_grows zero (suc k') place one is g h = prefix_nil (walk (suc k') q p' place)
  walk_grows (suc k) (suc k') place one is g h =
      and_then_grows place (leg q p place) (leg q p' place) (walk k q p) (walk k' q p') (leg_on q p place) (law q p p' place reaches one g)
      (λ next later. walk_grows k k' next (omega (arith, one, later)) is (reads_on q p p' place.start next.start (omega (arith, later)) g) (omega (arith, h, later)))

  pub known_grows : Continues p p' → IsPrefixOf (known q p) (known q p')
  known_grows c =
      walk_grows (suc (suc (count p) - 1)) (suc (suc (count p') - 1)) first_place (omega arith) c.open_before
      (goes_on_later 1 (first_read q 1) p p' (omega arith) (continues_on p p' c)) (omega arith)
