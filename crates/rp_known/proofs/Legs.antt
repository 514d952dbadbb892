-- What a leg of the walk gives stays, and leads to a later row.
use Rattle.std.proofs.Common.{◌≡◌, ℕ, zero, suc, ◌-◌, ◌<◌, ◌≤◌, List, [], ◌∷◌, length, map, Bool, true, false, cond, Option, Some, None, refl, sym, ap, subst, arith}
use Rattle.std.specs.Prelude.{◌≢◌, nat_le}
use Rattle.std.specs.List.{AllByRecursion}
use Rattle.std.proofs.lemmas.Bool.Decides.{nat_tests}
use Rattle.rp_words.specs.declared.word.Label.{Label}
use Rattle.rp_words.specs.declared.word.End.{End}
use Rattle.rp_words.specs.declared.word.End.TheVariants.{Open as OpenEnd, Closed as ClosedEnd}
use Rattle.rp_words.specs.declared.word.Seen.{Seen}
use Rattle.rp_words.specs.declared.word.Seen.TheVariants.{True, NotTrue, Open as OpenTest}
use Rattle.rp_words.specs.Mapping.{Mapping, Full, Open, labels_of}
use Rattle.rp_words.specs.PatternForm.{form_of}
use Rattle.rp_words.specs.Words.{words}
use Rattle.rp_words.specs.WordLaws.{WordsExtend, WordsEnd}
use Rattle.rp_words.specs.Later.{IsLater}
use Rattle.rp_search.specs.Found.{Test, Found, Match, NoMatch, Waits, tested, status_from, unless_refused, found}
use Rattle.rp_search.specs.FoundLaws.{AreShort, FoundStays}
use Rattle.rp_query.specs.declared.query.QueryData.{QueryData}
use Rattle.rp_eval.specs.Laws.{ValuesStay}
use Rattle.rp_conditions.specs.Tested.{outcome_of}
use Rattle.rp_conditions.specs.Outlives.{TestsGoOn}
use Rattle.rp_query.specs.Sound.{IsSound}
use Rattle.rp_query.specs.declared.item.Item.{Item}
use Rattle.rp_known.specs.declared.place.Place.{Place}
use Rattle.rp_known.specs.Known.{Known, count}
use Rattle.rp_known.specs.WalkLaws.{GoesOnFrom}
use Rattle.rp_known.specs.Plans.{first_read, tested_by}
use Rattle.rp_known.specs.Skips.{start_after, skipped}
use Rattle.rp_known.specs.Items.{item_at, item_rows, items_of}
use Rattle.rp_known.specs.Walk.{Leg, Goes, Pauses, Ends, after_item, after_items, after_match, after_found, found_at, at_last, searched, leg_items}
use Rattle.rp_known.specs.WalkLaws.{Stays, LegStays, LeadsOn, LegsLeadOn, SearchesLeadOn, AreKnown, FindingsStay}
use Rattle.rp_known.proofs.Prefixes.{prefix_nil, prefix_same, prefix_item}
use Rattle.rp_known.proofs.Items.{Settled, rows_within, all_settle}

-- ---- items before what follows

item_stays : (x : Item) (old new : Leg) → Stays old new → Stays (after_item x old) (after_item x new)
item_stays x (Goes xs next) new s = ap (after_item x) s
item_stays x (Ends xs) new s = ap (after_item x) s
item_stays x (Pauses xs) (Goes ys next) s = prefix_item x xs ys s
item_stays x (Pauses xs) (Pauses ys) s = prefix_item x xs ys s
item_stays x (Pauses xs) (Ends ys) s = prefix_item x xs ys s

itself : (t : Leg) → Stays t t
itself (Goes xs next) = refl
itself (Pauses xs) = prefix_same xs
itself (Ends xs) = refl

items_stay : (f g : ℕ → Option Item) (t : Leg) → (rows : List ℕ) → AllByRecursion (Settled f g) rows → Stays (after_items (map f rows) t) (after_items (map g rows) t)
items_stay f g t [] a = itself t
items_stay f g t (r ∷ rs) a = go (f r) (g r) a.0 (items_stay f g t rs a.1)
  where
    go : (o n : Option Item) → ((x : Item) → o ≡ Some x → n ≡ Some x) → Stays (after_items (map f rs) t) (after_items (map g rs) t) → Stays (after_items (o ∷ map f rs) t) (after_items (n ∷ map g rs) t)
    go None n h later = prefix_nil (leg_items (after_items (n ∷ map g rs) t))
    go (Some x) n h later =
        subst (λ z. Stays (after_items (Some x ∷ map f rs) t) (after_items (z ∷ map g rs) t)) (sym (h x refl))
        (item_stays x (after_items (map f rs) t) (after_items (map g rs) t) later)

-- ---- a match maps known rows

word_known : (w : Mapping) (seen : Seen) (k : ℕ) (later : Found) (ls : List Label) → length (labels_of w) ≤ k → (later ≡ Match ls → length ls ≤ k) → unless_refused w (status_from w seen) later ≡ Match ls → length ls ≤ k
word_known (Full ms) True k later ls h f e = subst (λ z. length z ≤ k) (match_same ms ls e) h
  where
    labels_in : Found → List Label
    labels_in (Match xs) = xs
    labels_in NoMatch = []
    labels_in Waits = []

    match_same : (xs ys : List Label) → Match xs ≡ Match ys → xs ≡ ys
    match_same xs ys e = ap labels_in e
word_known (Full ms) NotTrue k later ls h f e = f e
word_known (Full ms) OpenTest k later ls h f e = cc
word_known (Open ms) True k later ls h f e = cc
word_known (Open ms) NotTrue k later ls h f e = f e
word_known (Open ms) OpenTest k later ls h f e = cc

-- a match has no more labels than the words
found_short : (k : ℕ) (test : Test) (ws : List Mapping) (ls : List Label) → AreShort k ws → found test ws ≡ Match ls → length ls ≤ k
found_short k test [] ls a e = cc
found_short k test (w ∷ ws) ls a e = word_known w (tested test (labels_of w)) k (found test ws) ls a.0 (found_short k test ws ls a.1) e

pub match_known : WordsEnd → (test : Test) (q : QueryData) (p : Known) (start : ℕ) → start ≤ count p → (f : Found) → found test (words (count p) p.end (form_of q.pattern) start) ≡ f → AreKnown start (count p) f
match_known within test q p start h Waits e = tt
match_known within test q p start h NoMatch e = tt
match_known within test q p start h (Match ls) e =
    let k : length ls ≤ suc (count p) - start = found_short (suc (count p) - start) test (words (count p) p.end (form_of q.pattern) start) ls (within (form_of q.pattern) (count p) p.end start) e in
    omega (arith, h, k)

-- ---- where a leg leads

item_on : (from : Place) (x : Item) (t : Leg) → LeadsOn from t → LeadsOn from (after_item x t)
item_on from x (Goes xs next) h = h
item_on from x (Pauses xs) h = tt
item_on from x (Ends xs) h = tt

items_on : (from : Place) (xs : List (Option Item)) (t : Leg) → LeadsOn from t → LeadsOn from (after_items xs t)
items_on from [] t h = h
items_on from (Some x ∷ xs) t h = item_on from x (after_items xs t) (items_on from xs t h)
items_on from (None ∷ xs) t h = tt

match_on : (place : Place) (labels : List Label) (k : Option ℕ) → LeadsOn place (after_match place labels (start_after place.start k))
match_on place labels None = tt
match_on place labels (Some zero) = tt
match_on place labels (Some (suc k)) = (omega arith, omega arith)

pub found_on : SearchesLeadOn
found_on q place Waits = tt
found_on q place NoMatch = (omega arith, omega arith)
found_on q place (Match []) = (omega arith, omega arith)
found_on q place (Match (l ∷ ls)) = match_on place (l ∷ ls) (skipped q.plan.skip (l ∷ ls))

last_on : (from : Place) (e : End) → LeadsOn from (at_last e)
last_on from OpenEnd = tt
last_on from ClosedEnd = tt

searched_on : (q : QueryData) (p : Known) (place : Place) (f : Found) → LeadsOn place (searched q p place f)
searched_on q p place f = items_on place (items_of q p place f) (after_found q place f) (found_on q place f)

-- a leg goes on to a later row, if at all
pub leg_on : LegsLeadOn
leg_on q p place = go (nat_le place.start (count p))
  where
    go : (b : Bool) → LeadsOn place (cond b (searched q p place (found_at q p place.start)) (at_last p.end))
    go true = searched_on q p place (found_at q p place.start)
    go false = last_on place p.end

-- ---- a leg over rows that go on

module _ (values : ValuesStay) (q : QueryData) (p p' : Known) (reaches : IsSound q) (place : Place) (one : 1 ≤ place.start) (g : GoesOnFrom (first_read q place.start) p p') where
  shown_stays : (f : Found) → place.start ≤ count p → AreKnown place.start (count p) f → Stays (searched q p place f) (searched q p' place f)
  shown_stays f h k =
      items_stay (item_at q p place f) (item_at q p' place f) (after_found q place f) (item_rows q.plan.rows place f)
      (all_settle values q p p' reaches place one g f k (item_rows q.plan.rows place f) (rows_within q.plan.rows place (count p) f h k))

  -- what a search gives whose end was found stays where its end stays
  pub searched_stays : (f f' : Found) → place.start ≤ count p → (f ≢ Waits → f' ≡ f) → AreKnown place.start (count p) f → Stays (searched q p place f) (searched q p' place f')
  searched_stays Waits f' h same k = prefix_nil (leg_items (searched q p' place f'))
  searched_stays NoMatch f' h same k = subst (λ z. Stays (searched q p place NoMatch) (searched q p' place z)) (sym (same (λ e. cc))) (shown_stays NoMatch h k)
  searched_stays (Match ls) f' h same k = subst (λ z. Stays (searched q p place (Match ls)) (searched q p' place z)) (sym (same (λ e. cc))) (shown_stays (Match ls) h k)

last_stays : (p p' : Known) → IsLater (count p) p.end (count p') p'.end → (start : ℕ) → count p < start → (other : Leg) (b : Bool) → nat_le start (count p') ≡ b → Stays (at_last p.end) (cond b other (at_last p'.end))
last_stays p p' later start h other b e = go p.end refl b e
  where
    closed : (b : Bool) → nat_le start (count p') ≡ b → (count p' ≡ count p) × (p'.end ≡ ClosedEnd) → cond b other (at_last p'.end) ≡ at_last ClosedEnd
    closed true e h' = absurd (grind (arith, nat_tests))
    closed false e h' = ap at_last h'.1

    go : (end : End) → p.end ≡ end → (b : Bool) → nat_le start (count p') ≡ b → Stays (at_last end) (cond b other (at_last p'.end))
    go OpenEnd is b e = prefix_nil (leg_items (cond b other (at_last p'.end)))
    go ClosedEnd is b e = closed b e (later.1 is)

module _ (extend : WordsExtend) (within : WordsEnd) (found_stays : FoundStays) (values : ValuesStay) (tests : TestsGoOn) where
  -- what was found stays
  pub found_kept : FindingsStay
  found_kept q p p' start reaches one g h =
      found_stays (suc (count p) - start) (outcome_of (tested_by q p) start) (outcome_of (tested_by q p') start) (words (count p) p.end (form_of q.pattern) start) (words (count p') p'.end (form_of q.pattern) start)
      (tests (tested_by q p) p'.rows p'.end start one reaches g).stay (within (form_of q.pattern) (count p) p.end start)
      (extend (form_of q.pattern) (count p) (count p') p.end p'.end start g.later) h

  pub leg_stays : LegStays
  leg_stays q p p' place reaches one g = go (nat_le place.start (count p)) (nat_le place.start (count p')) refl refl
    where
      go : (a b : Bool) → nat_le place.start (count p) ≡ a → nat_le place.start (count p') ≡ b →
          Stays (cond a (searched q p place (found_at q p place.start)) (at_last p.end)) (cond b (searched q p' place (found_at q p' place.start)) (at_last p'.end))
      go true true h k =
          let low : place.start ≤ count p = grind (arith, nat_tests) in
          searched_stays values q p p' reaches place one g (found_at q p place.start) (found_at q p' place.start) low (found_kept q p p' place.start reaches one g)
          (match_known within (outcome_of (tested_by q p) place.start) q p place.start low (found_at q p place.start) refl)
      go true false h k = let m : count p ≤ count p' = g.later.0 in absurd (grind (arith, nat_tests, m))
      go false b h k = last_stays p p' g.later place.start (grind (arith, nat_tests)) (searched q p' place (found_at q p' place.start)) b k
