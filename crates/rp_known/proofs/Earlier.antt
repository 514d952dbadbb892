-- The known answer as it was begins the present one.
use Rattle.std.proofs.Common.{◌≡◌, ℕ, zero, suc, ◌-◌, List, [], length, Bool, true, false, cond, Option, Some, None, refl, sym, ap, subst, arith}
use Rattle.std.specs.Prelude.{◌≢◌, slice_get, nat_le}
use Rattle.rp_value.specs.declared.truth.Tri.TheVariants.{True as T, False as F, Unknown as U}
use Rattle.rp_value.specs.declared.truth.Judged.{Judged}
use Rattle.rp_value.specs.declared.truth.Judged.TheVariants.{Told, Open as OpenJudgement}
use Rattle.rp_value.specs.TruthLaws.{KeepsTold}
use Rattle.rp_words.specs.declared.word.Label.{Label}
use Rattle.rp_words.specs.PatternForm.{form_of}
use Rattle.rp_words.specs.Words.{words}
use Rattle.rp_words.specs.WordLaws.{WordsExtend, WordsEnd}
use Rattle.rp_search.specs.Found.{Found, Match, NoMatch, Waits}
use Rattle.rp_search.specs.FoundLaws.{FoundStays}
use Rattle.rp_search.specs.SeenStays.{SeenStays, TestsStay}
use Rattle.rp_query.specs.declared.plan.Condition.{Condition}
use Rattle.rp_query.specs.declared.query.QueryData.{QueryData}
use Rattle.rp_query.specs.Definitions.{definition_of}
use Rattle.rp_eval.specs.Early.{early_judged, EarlierStays}
use Rattle.rp_eval.specs.ValueOf.{Setting, judged, seen_as}
use Rattle.rp_conditions.specs.Tested.{Tested, seen_by, seen_at, last_row, outcome_of}
use Rattle.rp_query.specs.declared.item.Item.{Item}
use Rattle.rp_known.specs.declared.place.Place.{Place}
use Rattle.rp_known.specs.Known.{Known, count}
use Rattle.rp_known.specs.Plans.{tested_by}
use Rattle.rp_known.specs.Walk.{Leg, Goes, Pauses, Ends, found_at, at_last, searched, leg, leg_items, and_then, walk, first_place, known, ComesTo, here, on}
use Rattle.rp_known.specs.WalkLaws.{IsPrefixOf, Stays}
use Rattle.rp_known.specs.Earlier.{early_seen_by, early_seen_at, early_outcome, early_found, early_leg, early_walk, early_known, EarlyComesTo, was_here, went_on}
use Rattle.rp_known.proofs.Prefixes.{prefix_nil, prefix_same, prefix_more, prefix_after}

-- ---- a test

told_stays : (j j' : Judged) → KeepsTold j j' → SeenStays (seen_as j) (seen_as j')
told_stays (Told T) j' h = ap seen_as h
told_stays (Told F) j' h = ap seen_as h
told_stays (Told U) j' h = ap seen_as h
told_stays OpenJudgement j' h = tt

module _ (earlier : EarlierStays) where
  by_stays : (s : Setting) (o : Option Condition) → SeenStays (early_seen_by s o) (seen_by s o)
  by_stays s None = refl
  by_stays s (Some c) = told_stays (early_judged s c) (judged s c) (earlier s c)

  at_stays : (t : Tested) (s : Setting) (l : Option Label) → SeenStays (early_seen_at t s l) (seen_at t s l)
  at_stays t s None = refl
  at_stays t s (Some l) = by_stays s (definition_of t.query.plan l.var)

  tests_stay : (t : Tested) (start rows : ℕ) → TestsStay rows (early_outcome t start) (outcome_of t start)
  tests_stay t start rows ls short = at_stays t (last_row t start ls) (slice_get ls (length ls - 1))

-- ---- a leg

itself : (t : Leg) → Stays t t
itself (Goes xs next) = refl
itself (Pauses xs) = prefix_same xs
itself (Ends xs) = refl

searched_stays : (q : QueryData) (p : Known) (place : Place) (f f' : Found) → (f ≢ Waits → f' ≡ f) → Stays (searched q p place f) (searched q p place f')
searched_stays q p place Waits f' same = prefix_nil (leg_items (searched q p place f'))
searched_stays q p place NoMatch f' same = subst (λ z. Stays (searched q p place NoMatch) (searched q p place z)) (sym (same (λ e. cc))) (itself (searched q p place NoMatch))
searched_stays q p place (Match ls) f' same = subst (λ z. Stays (searched q p place (Match ls)) (searched q p place z)) (sym (same (λ e. cc))) (itself (searched q p place (Match ls)))

before_more : (t : Leg) (walk_on : Place → List Item) (xs : List Item) → IsPrefixOf xs (leg_items t) → IsPrefixOf xs (and_then t walk_on)
before_more (Goes ys next) walk_on xs h = prefix_more xs ys (walk_on next) h
before_more (Pauses ys) walk_on xs h = h
before_more (Ends ys) walk_on xs h = h

legs_grow : (s t : Leg) (old_on new_on : Place → List Item) → Stays s t → ((next : Place) → IsPrefixOf (old_on next) (new_on next)) → IsPrefixOf (and_then s old_on) (and_then t new_on)
legs_grow (Goes xs next) t old_on new_on h k = rw h (prefix_after xs (old_on next) (new_on next) (k next))
legs_grow (Pauses xs) t old_on new_on h k = before_more t new_on xs h
legs_grow (Ends xs) t old_on new_on h k = rw h (prefix_same xs)

-- ---- the walk

module _ (earlier : EarlierStays) (extend : WordsExtend) (within : WordsEnd) (found_stays : FoundStays) (q : QueryData) (p : Known) where
  found_kept : (start : ℕ) → early_found q p start ≢ Waits → found_at q p start ≡ early_found q p start
  found_kept start h =
      let ws = words (count p) p.end (form_of q.pattern) start in
      found_stays (suc (count p) - start) (early_outcome (tested_by q p) start) (outcome_of (tested_by q p) start) ws ws
      (tests_stay earlier (tested_by q p) start (suc (count p) - start)) (within (form_of q.pattern) (count p) p.end start)
      (extend (form_of q.pattern) (count p) (count p) p.end p.end start (omega arith, λ closed. (refl, closed))) h

  pub leg_stays : (place : Place) → Stays (early_leg q p place) (leg q p place)
  leg_stays place = go (nat_le place.start (count p))
    where
      go : (b : Bool) → Stays (cond b (searched q p place (early_found q p place.start)) (at_last p.end)) (cond b (searched q p place (found_at q p place.start)) (at_last p.end))
      go true = searched_stays q p place (early_found q p place.start) (found_at q p place.start) (found_kept place.start)
      go false = itself (at_last p.end)

  walk_grows : (k : ℕ) (place : Place) → IsPrefixOf (early_walk k q p place) (walk k q p place)
  walk_grows zero place = prefix_nil []
  walk_grows (suc k) place = legs_grow (early_leg q p place) (leg q p place) (early_walk k q p) (walk k q p) (leg_stays place) (walk_grows k)

  pub came_stays : {d : ℕ} {from to : Place} → EarlyComesTo q p from d to → ComesTo q p from d to
  came_stays was_here = here
  came_stays (went_on {place = place} {next = next} {xs = xs} is r) =
      let now : leg q p place ≡ Goes xs next = subst (λ t. Stays t (leg q p place)) is (leg_stays place) in
      on now (came_stays r)

  pub earlier_begins : IsPrefixOf (early_known q p) (known q p)
  earlier_begins = walk_grows (suc (suc (count p) - 1)) first_place
