-- A record that fits goes on fitting.
use Rattle.std.proofs.Common.{◌≡◌, ℕ, zero, suc, ◌+◌, ◌-◌, ◌<◌, ◌≤◌, List, [], ◌∷◌, ◌++◌, length, length-append, map, Bool, true, false, cond, Option, Some, None, refl, sym, ap, ◌∙◌, subst, arith}
use Rattle.std.specs.Prelude.{nat_le, option_map, ⊤, Result, Ok, Err}
use Rattle.std.proofs.lemmas.Bool.Decides.{nat_tests}
use Rattle.rp_value.specs.declared.value.Value.{Value}
use Rattle.rp_words.specs.declared.word.Label.{Label}
use Rattle.rp_words.specs.declared.word.End.{End}
use Rattle.rp_words.specs.declared.word.End.TheVariants.{Open as OpenEnd, Closed as ClosedEnd}
use Rattle.rp_search.specs.Found.{Found, Match, NoMatch, Waits}
use Rattle.rp_query.specs.declared.query.QueryData.{QueryData}
use Rattle.rp_query.specs.Sound.{IsSound}
use Rattle.rp_query.specs.declared.item.Item.{Item}
use Rattle.rp_query.specs.declared.item.Item.TheVariants.{Row as RowItem, Fault as FaultItem, End as EndItem}
use Rattle.rp_query.specs.declared.item.SkipFault.{SkipFault}
use Rattle.rp_known.specs.declared.place.Place.{Place}
use Rattle.rp_known.specs.Known.{Known, count}
use Rattle.rp_known.specs.WalkLaws.{Continues, GoesOnFrom}
use Rattle.rp_known.specs.Plans.{first_read, setting_of, cells_in}
use Rattle.rp_known.specs.Skips.{next_start}
use Rattle.rp_known.specs.Items.{item_at, item_rows}
use Rattle.rp_known.specs.Walk.{Leg, Goes, Pauses, Ends, after_item, after_items, after_match, after_found, found_at, at_last, searched, leg, leg_items, and_then, walk, first_place, known, here}
use Rattle.rp_known.specs.WalkLaws.{IsPrefixOf, Stays, LegStays, WalkStays, LeadsOn, LegsLeadOn, IsInRows, WalkIsInRows}
use Rattle.rp_walker.specs.declared.record.MatcherState.{MatcherState}
use Rattle.rp_walker.specs.Records.{place_of, IsLast, IsOnWalk, IsOver, Fits, fits_by, first_state}
use Rattle.rp_walker.proofs.Agreeing.{goes_on_later}
use Rattle.rp_walker.proofs.Fitting.{comes_up}

abbrev is_last : Item → Bool
is_last (RowItem number cells) = false
is_last (FaultItem fault) = true
is_last EndItem = true

-- the last item is the end or a fault
abbrev ends : List Item → Bool
ends [] = false
ends (x ∷ []) = is_last x
ends (x ∷ y ∷ xs) = ends (y ∷ xs)

last_is : (x : Item) → IsLast x → is_last x ≡ true
last_is (RowItem number cells) h = absurd h
last_is (FaultItem fault) h = refl
last_is EndItem h = refl

ends_with : (front : List Item) (x : Item) → IsLast x → ends (front ++ x ∷ []) ≡ true
ends_with [] x h = last_is x h
ends_with (y ∷ []) x h = last_is x h
ends_with (y ∷ z ∷ front) x h = ends_with (z ∷ front) x h

goes_with : (x : Item) (xs : List Item) → is_last x ≡ false → ends xs ≡ false → ends (x ∷ xs) ≡ false
goes_with x [] h k = h
goes_with x (y ∷ ys) h k = k

-- ---- only a leg that ends has a last item

abbrev EndsOnly : Leg → Type 0
EndsOnly (Goes xs next) = ends xs ≡ false
EndsOnly (Pauses xs) = ends xs ≡ false
EndsOnly (Ends xs) = ⊤

item_only : (x : Item) (t : Leg) → is_last x ≡ false → EndsOnly t → EndsOnly (after_item x t)
item_only x (Goes xs next) h k = goes_with x xs h k
item_only x (Pauses xs) h k = goes_with x xs h k
item_only x (Ends xs) h k = tt

abbrev IsInside : Option Item → Type 0
IsInside None = ⊤
IsInside (Some x) = is_last x ≡ false

row_inside : (number : Option ℕ) (cells : Option (List Value)) → IsInside (option_map (RowItem number) cells)
row_inside number None = tt
row_inside number (Some cells) = refl

item_inside : (q : QueryData) (p : Known) (place : Place) (f : Found) (row : ℕ) → IsInside (item_at q p place f row)
item_inside q p place Waits row = tt
item_inside q p place NoMatch row = refl
item_inside q p place (Match ls) row = row_inside (Some (suc place.matches)) (cells_in q (setting_of q p place.start ls (suc place.matches) row) q.output.items)

rows_only : (q : QueryData) (p : Known) (place : Place) (f : Found) (rows : List ℕ) (t : Leg) → EndsOnly t → EndsOnly (after_items (map (item_at q p place f) rows) t)
rows_only q p place f [] t h = h
rows_only q p place f (r ∷ rs) t h = go (item_at q p place f r) (item_inside q p place f r) (rows_only q p place f rs t h)
  where
    go : (o : Option Item) → IsInside o → EndsOnly (after_items (map (item_at q p place f) rs) t) → EndsOnly (after_items (o ∷ map (item_at q p place f) rs) t)
    go None i later = refl
    go (Some x) i later = item_only x (after_items (map (item_at q p place f) rs) t) i later

match_only : (place : Place) (labels : List Label) (r : Result ℕ SkipFault) → EndsOnly (after_match place labels r)
match_only place labels (Ok row) = refl
match_only place labels (Err fault) = tt

found_only : (q : QueryData) (place : Place) (f : Found) → EndsOnly (after_found q place f)
found_only q place Waits = refl
found_only q place NoMatch = refl
found_only q place (Match ls) = match_only place ls (next_start q.plan.skip place.start ls)

last_only : (e : End) → EndsOnly (at_last e)
last_only OpenEnd = refl
last_only ClosedEnd = tt

leg_only : (q : QueryData) (p : Known) (place : Place) → EndsOnly (leg q p place)
leg_only q p place = go (nat_le place.start (count p))
  where
    go : (b : Bool) → EndsOnly (cond b (searched q p place (found_at q p place.start)) (at_last p.end))
    go true = rows_only q p place (found_at q p place.start) (item_rows q.plan.rows place (found_at q p place.start)) (after_found q place (found_at q p place.start)) (found_only q place (found_at q p place.start))
    go false = last_only p.end

-- ---- an answer that has ended

ends_later : (xs ys : List Item) → ends xs ≡ false → ends (xs ++ ys) ≡ true → ends ys ≡ true
ends_later [] ys f t = t
ends_later (x ∷ []) [] f t = absurd (cc)
ends_later (x ∷ []) (y ∷ ys) f t = t
ends_later (x ∷ z ∷ xs) ys f t = ends_later (z ∷ xs) ys f t

and_then_ends : (s t : Leg) (old_on new_on : Place → List Item) → Stays s t → EndsOnly s → ((next : Place) → s ≡ Goes (leg_items s) next → ends (old_on next) ≡ true → new_on next ≡ old_on next) → ends (and_then s old_on) ≡ true → and_then t new_on ≡ and_then s old_on
and_then_ends (Goes xs next) t old_on new_on h f k e = rw h (ap (λ z. xs ++ z) (k next refl (ends_later xs (old_on next) f e)))
and_then_ends (Pauses xs) t old_on new_on h f k e = absurd (cc)
and_then_ends (Ends xs) t old_on new_on h f k e = rw h refl

prefix_short : (xs ys : List Item) → IsPrefixOf xs ys → length xs ≤ length ys
prefix_short xs ys h = omega (arith, length-append xs h.rest, ap length h.is)

takes_more : (s t : Leg) → Stays s t → length (leg_items s) ≤ length (leg_items t)
takes_more (Goes xs next) t h = rw h (omega arith)
takes_more (Pauses xs) t h = prefix_short xs (leg_items t) h
takes_more (Ends xs) t h = rw h (omega arith)

nothing : (xs : List Item) → xs ≡ [] → ends xs ≡ true → ⊥
nothing [] n t = cc
nothing (x ∷ xs) n t = cc

last_none : (e : End) → e ≡ OpenEnd → (walk_on : Place → List Item) → and_then (at_last e) walk_on ≡ []
last_none OpenEnd h walk_on = refl
last_none ClosedEnd h walk_on = cc

past_last : (k : ℕ) (q : QueryData) (p : Known) (place : Place) → p.end ≡ OpenEnd → count p < place.start → walk k q p place ≡ []
past_last zero q p place is h = refl
past_last (suc k) q p place is h = go (nat_le place.start (count p)) refl
  where
    go : (b : Bool) → nat_le place.start (count p) ≡ b → and_then (cond b (searched q p place (found_at q p place.start)) (at_last p.end)) (walk k q p) ≡ []
    go true e = absurd (grind (arith, nat_tests))
    go false e = last_none p.end is (walk k q p)

later_of : (p p' : Known) → Continues p p' → count p ≤ count p'
later_of p p' c = omega (arith, ap length c.rows, length-append p.rows c.more)

module _ (law : LegStays) (walks : WalkStays) (leads : LegsLeadOn) (q : QueryData) (sound : IsSound q) (p p' : Known) (c : Continues p p') (on1 : GoesOnFrom 1 p p') where
  goes : (x : ℕ) → GoesOnFrom (first_read q x) p p'
  goes x = goes_on_later 1 (first_read q x) p p' (omega arith) on1

  ended : (k j : ℕ) (place : Place) → 1 ≤ place.start → suc (count p') < place.start + j → ends (walk k q p place) ≡ true → walk j q p' place ≡ walk k q p place
  ended zero j place one h f = absurd (cc)
  ended (suc k) zero place one h f =
      let m : count p ≤ count p' = later_of p p' c in
      absurd (nothing (walk (suc k) q p place) (past_last (suc k) q p place c.open_before (omega (arith, m, h))) f)
  ended (suc k) (suc j) place one h f =
      and_then_ends (leg q p place) (leg q p' place) (walk k q p) (walk j q p') (law q p p' place sound one (goes place.start)) (leg_only q p place)
      (λ next is t.
      (let l : LeadsOn place (Goes (leg_items (leg q p place)) next) = subst (LeadsOn place) is (leads q p place) in
      let g : place.start < next.start = l.0 in
      ended k j next (omega (arith, one, g)) (omega (arith, h, g)) t)) f

  on_walk_later : (r : MatcherState) → IsOnWalk q r p → IsOnWalk q r p'
  on_walk_later r h =
      let one : 1 ≤ r.at = comes_up leads h.comes in
      record {
        before = h.before;
        comes = walks q p p' h.before first_place (place_of r) sound (omega arith) (goes 1) h.comes;
        counted = h.counted;
        within = le_trans r.here (length (leg_items (leg q p (place_of r)))) (length (leg_items (leg q p' (place_of r)))) h.within
            (takes_more (leg q p (place_of r)) (leg q p' (place_of r)) (law q p p' (place_of r) sound one (goes r.at)));
        kept = h.kept;
      }
    where
      le_trans : (x y z : ℕ) → x ≤ y → y ≤ z → x ≤ z
      le_trans x y z u v = omega arith

  over_later : (r : MatcherState) → IsOver q r p → IsOver q r p'
  over_later r h =
      let same : known q p' ≡ known q p =
      ended (suc (suc (count p) - 1)) (suc (suc (count p') - 1)) first_place (omega arith) (omega arith) (ap ends h.is ∙ ends_with h.front h.last h.ends) in
      record { front = h.front; last = h.last; is = same ∙ h.is; ends = h.ends; counted = h.counted ∙ ap length (sym same) }

  pub fits_later : (r : MatcherState) → Fits q r p → Fits q r p'
  fits_later r = go r.over
    where
      go : (b : Bool) → fits_by b q r p → fits_by b q r p'
      go true h = over_later r h
      go false h = on_walk_later r h

pub first_fits : (q : QueryData) (p : Known) → Fits q first_state p
first_fits q p = record { before = 0; comes = here; counted = refl; within = omega arith; kept = grind arith }

-- a record that fits stands in the rows
pub fits_in_rows : WalkIsInRows → (q : QueryData) (r : MatcherState) (p : Known) → r.over ≡ false → Fits q r p → IsInRows p (place_of r)
fits_in_rows walks q r p going h =
    let fits : IsOnWalk q r p = subst (λ b. fits_by b q r p) going h in
    walks q p fits.before first_place (place_of r) (omega arith, omega arith) fits.comes
