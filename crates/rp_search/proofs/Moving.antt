-- What is left to a search that begins, goes on to another row, or has taken some turns.
use Rattle.std.proofs.Common.{◌≡◌, ℕ, zero, suc, ◌+◌, ◌-◌, ◌*◌, ◌<◌, ◌≤◌, Bool, true, false, ◌&&◌, ◌||◌, List, [], ◌∷◌, cond, refl, sym, ap, ◌∙◌, subst, arith, min}
use Rattle.std.specs.Prelude.{nat_eq, nat_le}
use Rattle.std.proofs.lemmas.Bool.Decides.{nat_tests}
use Rattle.rp_words.specs.Numbers.{most_u64}
use Rattle.rp_pattern.specs.declared.choices.Choices.{Choices}
use Rattle.rp_pattern.specs.Choices.{start_of, costs, kept}
use Rattle.rp_pattern.specs.Ways.{Kept, IsNumbered, all_weight, kept_places, kept_weight, weight_below, whole_cost}
use Rattle.rp_search.specs.declared.memo.Mark.{Mark}
use Rattle.rp_search.specs.declared.memo.Memo.{Memo}
use Rattle.rp_search.specs.declared.search.Search.{Search}
use Rattle.rp_search.specs.declared.search.Outcome.{Outcome}
use Rattle.rp_search.specs.declared.search.Outcome.TheVariants.{Match, NoMatch, Waits, Paused}
use Rattle.rp_search.specs.Asked.{Asked}
use Rattle.rp_search.specs.Search.{start_of_search}
use Rattle.rp_search.specs.Table.{until_of}
use Rattle.rp_search.specs.Work.{KeepsAll, LastsAll, Spent, added_by, counted, fresh_weight, fresh_work, is_marked, is_seen, marked_work, rows_ahead, work_of}
use Rattle.rp_search.specs.Bound.{BeginsWork, HasPlaces, HasSamePlaces, last_turn, LastsForEver, MovesWork, RemembersAll, Works, held_work, row_work, start_work, turns_before, WorkGrows, work_left}
use Rattle.rp_search.proofs.RunSoFar.{RunSpends}
use Rattle.rp_search.proofs.Fresh.{below_le, fresh_most}
use Rattle.rp_search.proofs.Spending.{spent_then}

-- ---- turns of a run

-- one turn more adds what isn't remembered of it
next_asleep : (asleep t a : ℕ) → min t asleep * a + cond (nat_le asleep t) 0 a ≤ min (t + 1) asleep * a
next_asleep asleep t a = go (nat_le asleep t) refl
  where
    go : (b : Bool) → nat_le asleep t ≡ b → min t asleep * a + cond b 0 a ≤ min (t + 1) asleep * a
    go true e =
        let le : asleep ≤ t = grind (arith, nat_tests) in
        let same : min (t + 1) asleep ≡ min t asleep = omega (arith, le) in
        omega (arith, ap (λ z. z * a) same)
    go false e =
        let lt : t < asleep = grind (arith, nat_tests) in
        let now : min t asleep ≡ t = omega (arith, lt) in
        let next : min (t + 1) asleep ≡ suc t = omega (arith, lt) in
        omega (arith, ap (λ z. z * a) now, ap (λ z. z * a) next)

-- more turns add more
more_asleep : (t fewer more a : ℕ) → fewer ≤ more → min t fewer * a ≤ min t more * a
more_asleep t fewer more a le =
    let d : ℕ = min t more - min t fewer in
    let sum : min t more ≡ min t fewer + d = omega (arith, le) in
    omega (arith, ap (λ z. z * a) sum)

added_as : (remembers b : Bool) (c : Choices) → remembers ≡ b → added_by remembers c ≡ cond b 0 (all_weight (kept c))
added_as true b c e = ap (λ z. cond z 0 (all_weight (kept c))) e
added_as false b c e = ap (λ z. cond z 0 (all_weight (kept c))) e

pub run_begins : (asleep : ℕ) (old new : Search) (asked : Asked) → Spent 0 0 old.choices new.choices old.memo new.memo asked → RunSpends asleep 0 old new asked
run_begins asleep old new asked s =
    record { plan = s.plan; keeps = s.keeps; less = λ all numbered. omega (arith, s.less all numbered) }

-- the same places
pub same_places : (old new : Search) → kept new.choices ≡ kept old.choices → HasSamePlaces old new
unfolding HasPlaces start_work row_work
same_places old new plan = record {
  places = λ numbered. subst IsNumbered (sym plan) numbered;
  same_start = ap whole_cost plan;
  same_row = ap all_weight plan;
}

places_again : (old mid new : Search) → new.choices ≡ mid.choices → HasSamePlaces old mid → HasSamePlaces old new
unfolding HasPlaces start_work row_work
places_again old mid new choices s = record {
  places = λ numbered. subst (λ c. IsNumbered (kept c)) (sym choices) (s.places numbered);
  same_start = ap (λ c. whole_cost (kept c)) choices ∙ s.same_start;
  same_row = ap (λ c. all_weight (kept c)) choices ∙ s.same_row;
}

one_turn : (o : Outcome) → counted o + last_turn o ≡ 1
one_turn Match = refl
one_turn NoMatch = refl
one_turn Waits = refl
one_turn Paused = refl

module _ (asleep t : ℕ) (remembers : Bool) (old mid new : Search) (asked : Asked) (awake : remembers ≡ nat_le asleep t) (so_far : RunSpends asleep t old mid asked) where
  more : min t asleep * all_weight (kept old.choices) + added_by remembers mid.choices ≤ min (t + 1) asleep * all_weight (kept old.choices)
  more =
      let a = all_weight (kept old.choices) in
      let same = added_as remembers (nat_le asleep t) mid.choices awake in
      let plan = ap (λ k. cond (nat_le asleep t) 0 (all_weight k)) so_far.plan in
      omega (arith, next_asleep asleep t a, same, plan)

  pub run_goes_on : Spent 1 (added_by remembers mid.choices) mid.choices new.choices mid.memo new.memo asked → RunSpends asleep (t + 1) old new asked
  run_goes_on s =
      let both = spent_then t _ 1 _ old.choices mid.choices new.choices old.memo mid.memo new.memo asked so_far s in
      record { plan = both.plan; keeps = both.keeps; less = λ all numbered. omega (arith, both.less all numbered, more) }

  -- the last turn
  pub run_ends : (o : Outcome) → Spent (counted o) (added_by remembers mid.choices) mid.choices new.choices mid.memo new.memo asked → (o ≡ NoMatch → new.memo.marks ≡ []) →
      Works asleep (t + 1) old new asked o
  unfolding RemembersAll HasPlaces work_left row_work held_work
  run_ends o s unmarked =
      let both = spent_then t _ (counted o) _ old.choices mid.choices new.choices old.memo mid.memo new.memo asked so_far s in
      record {
        keeps = both.keeps;
        falls = λ all numbered. omega (arith, both.less all numbered, more, one_turn o);
        none_held = λ none. ap (marked_work (kept new.choices)) (unmarked none);
        same = same_places old new both.plan;
      }

-- all of a budget was taken
pub run_pauses : (asleep taken : ℕ) (old new : Search) (asked : Asked) → RunSpends asleep taken old new asked → Works asleep taken old new asked Paused
unfolding RemembersAll HasPlaces work_left row_work
run_pauses asleep taken old new asked s = record { keeps = s.keeps; falls = λ all numbered. omega (arith, s.less all numbered); none_held = λ none. absurd cc; same = same_places old new s.plan }

-- nothing was taken
pub run_nothing : (asleep : ℕ) (old : Search) (asked : Asked) → Works asleep 0 old old asked Paused
run_nothing asleep old asked = record { keeps = λ all. all; falls = λ all numbered. omega arith; none_held = λ none. absurd cc; same = same_places old old refl }

pub no_more : (count none : ℕ) → none ≡ 0 → min (count + none) 4294967295 ≤ count
no_more count none is = omega (arith, is)

pub no_less : (a b : ℕ) → a ≡ b → b ≤ a
no_less a b is = omega (arith, is)

-- the same choices and memory, where as many turns or fewer were asleep
pub works_same : (asleep most taken taken' : ℕ) (old mid new : Search) (asked : Asked) (o : Outcome) → asleep ≤ most → taken' ≡ taken → new.choices ≡ mid.choices → new.memo ≡ mid.memo → Works asleep taken old mid asked o →
    Works most taken' old new asked o
unfolding RemembersAll work_left held_work row_work
works_same asleep most taken taken' old mid new asked o fewer count choices memo w =
    subst (λ t. Works most t old new asked o) (sym count)
    (record {
      keeps = λ all. w.keeps (subst KeepsAll memo all);
      falls = λ all places.
          let same : work_of new.choices new.memo asked ≡ work_of mid.choices mid.memo asked = ap (λ c. work_of c new.memo asked) choices ∙ ap (λ m. work_of mid.choices m asked) memo in
          omega (arith, w.falls (subst KeepsAll memo all) places, same, more_asleep taken asleep most (all_weight (kept old.choices)) fewer);
      none_held = λ none. ap (λ c. marked_work (kept c) new.memo.marks) choices ∙ ap (λ m. marked_work (kept mid.choices) m.marks) memo ∙ w.none_held none;
      same = places_again old mid new choices w.same;
    })

-- ---- a search that begins

pub begins_work : (s : Search) → KeepsAll s.memo → LastsAll s.memo → costs s.choices ≡ whole_cost (kept s.choices) → BeginsWork s
unfolding RemembersAll LastsForEver work_left start_work start_of_search row_work
begins_work s all lasts cost = record {
  all = all;
  lasts = lasts;
  most = λ asked. omega (arith, cost, fresh_most (kept s.choices) s.memo (start_of s.choices) (rows_ahead s.choices asked));
}

-- ---- to another row

-- the last of some numbers
below_shift : (d r : ℕ) (f : ℕ → ℕ) → weight_below r (λ i. f (d + i)) ≤ weight_below (d + r) f
below_shift d zero f = omega arith
below_shift d (suc r) f =
    let at : d + suc r ≡ suc (d + r) = omega arith in
    omega (arith, below_shift d r f, ap (λ k. weight_below k f) at)

below_longer : (r m : ℕ) (f : ℕ → ℕ) → r ≤ m → weight_below r f ≤ weight_below m f
below_longer r zero f le = let none : r ≡ 0 = omega (arith, le) in omega (arith, ap (λ k. weight_below k f) none)
below_longer r (suc m) f le = go (nat_le r m) refl (λ shorter. below_longer r m f shorter)
  where
    go : (b : Bool) → nat_le r m ≡ b → (r ≤ m → weight_below r f ≤ weight_below m f) → weight_below r f ≤ weight_below m f + f m
    go true e shorter = let less : r ≤ m = grind (arith, nat_tests) in omega (arith, shorter less)
    go false e shorter = let at : r ≡ suc m = grind (arith, nat_tests) in omega (arith, ap (λ k. weight_below k f) at)

below_same : (k : ℕ) (g f : ℕ → ℕ) → ((i : ℕ) → i < k → g i ≡ f i) → weight_below k g ≡ weight_below k f
below_same zero g f h = refl
below_same (suc k) g f h = let more = below_same k g f (λ i lt. h i (omega (arith, lt))) in omega (arith, more, h k (omega arith))

-- fewer rows
fresh_fewer : (k : Kept) (memo : Memo) (from to rows rows' : ℕ) → from ≤ to → to + rows' ≤ from + rows → fresh_work k memo to rows' ≤ fresh_work k memo from rows
fresh_fewer k memo from to rows rows' le high =
    let d : ℕ = to - from in
    let f : ℕ → ℕ = λ i. weight_below (kept_places k) (fresh_weight k memo (from + i)) in
    let same : weight_below rows' (λ i. weight_below (kept_places k) (fresh_weight k memo (to + i))) ≡ weight_below rows' (λ i. f (d + i)) =
    below_same rows' (λ i. weight_below (kept_places k) (fresh_weight k memo (to + i))) (λ i. f (d + i))
    (λ i lt. let at : to + i ≡ from + (d + i) = omega (arith, le) in ap (λ r. weight_below (kept_places k) (fresh_weight k memo r)) at) in
    omega (arith, same, below_shift d rows' f, below_longer (d + rows') rows f (omega (arith, le, high)))

-- one number takes more
below_more : (k i w : ℕ) (g f : ℕ → ℕ) → ((j : ℕ) → (j ≡ i → ⊥) → g j ≤ f j) → g i ≤ f i + w → weight_below k g ≤ weight_below k f + w
below_more zero i w g f h at = omega arith
below_more (suc k) i w g f h at = go (nat_eq k i) refl (below_more k i w g f h at)
  where
    go : (b : Bool) → nat_eq k i ≡ b → weight_below k g ≤ weight_below k f + w → weight_below k g + g k ≤ weight_below k f + f k + w
    go true e more =
        let here : k ≡ i = grind (arith, nat_tests) in
        let others : weight_below k g ≤ weight_below k f = below_le k g f (λ j lt. h j (λ same. absurd (omega (arith, lt, same, here)))) in
        omega (arith, others, at, ap g here, ap f here)
    go false e more =
        let other : k ≡ i → ⊥ = λ same. absurd (grind (arith, nat_tests)) in
        omega (arith, more, h k other)

-- a mark is taken away, and nothing else is known
module _ (k : Kept) (mark : Mark) (with without : Memo) (from : ℕ) (marks : with.marks ≡ mark ∷ without.marks) (failed : with.failed ≡ without.failed) where
  seen_else : (q r : ℕ) → nat_eq mark.place q && nat_eq mark.row r ≡ false → is_seen with q r ≡ is_seen without q r
  seen_else q r other =
      ap (λ t. nat_le most_u64 (until_of t q r) || is_marked with.marks q r) failed
      ∙ ap (λ ms. nat_le most_u64 (until_of without.failed q r) || is_marked ms q r) marks
      ∙ ap (λ z. nat_le most_u64 (until_of without.failed q r) || (z || is_marked without.marks q r)) other

  at_most : (b : Bool) (w : ℕ) → cond b 0 w ≤ w
  at_most true w = omega arith
  at_most false w = omega arith

  no_both : (a b : Bool) → b ≡ false → a && b ≡ false
  no_both true b h = h
  no_both false b h = refl

  no_first : (a b : Bool) → a ≡ false → a && b ≡ false
  no_first a b h = ap (λ z. z && b) h

  not_eq : (a b : ℕ) → (b ≡ a → ⊥) → nat_eq a b ≡ false
  not_eq a b h = go (nat_eq a b) refl
    where
      go : (t : Bool) → nat_eq a b ≡ t → nat_eq a b ≡ false
      go true e = absurd (h (grind (arith, nat_tests)))
      go false e = e

  row_unmarked : (i : ℕ) → weight_below (kept_places k) (fresh_weight k without (from + i)) ≤ weight_below (kept_places k) (fresh_weight k with (from + i)) + kept_weight k mark.place
  row_unmarked i =
      below_more (kept_places k) mark.place (kept_weight k mark.place) (fresh_weight k without (from + i)) (fresh_weight k with (from + i))
      (λ q other. let same = ap (λ b. cond b 0 (kept_weight k q)) (seen_else q (from + i) (no_first (nat_eq mark.place q) (nat_eq mark.row (from + i)) (not_eq mark.place q other))) in omega (arith, same))
      (omega (arith, at_most (is_seen without mark.place (from + i)) (kept_weight k mark.place)))

  row_else : (i : ℕ) → (i ≡ mark.row - from → ⊥) → weight_below (kept_places k) (fresh_weight k without (from + i)) ≤ weight_below (kept_places k) (fresh_weight k with (from + i))
  row_else i other =
      below_le (kept_places k) (fresh_weight k without (from + i)) (fresh_weight k with (from + i))
      (λ q lt. let same = ap (λ b. cond b 0 (kept_weight k q)) (seen_else q (from + i) (no_both (nat_eq mark.place q) (nat_eq mark.row (from + i)) (not_eq mark.row (from + i) (λ at. absurd (other (omega (arith, at))))))) in omega (arith, same))

  pub fresh_unmarked : (rows : ℕ) → fresh_work k without from rows ≤ fresh_work k with from rows + kept_weight k mark.place
  fresh_unmarked rows =
      below_more rows (mark.row - from) (kept_weight k mark.place) (λ i. weight_below (kept_places k) (fresh_weight k without (from + i))) (λ i. weight_below (kept_places k) (fresh_weight k with (from + i)))
      row_else (row_unmarked (mark.row - from))

-- all marks are taken away
fresh_cleared : (k : Kept) (marks : List Mark) (old new : Memo) (from rows : ℕ) → old.marks ≡ marks → new.marks ≡ [] → new.failed ≡ old.failed →
    fresh_work k new from rows ≤ fresh_work k old from rows + marked_work k marks
fresh_cleared k [] old new from rows was none failed =
    let seen : (q r : ℕ) → is_seen new q r ≡ is_seen old q r = λ q r.
    ap (λ t. nat_le most_u64 (until_of t q r) || is_marked new.marks q r) failed
    ∙ ap (λ ms. nat_le most_u64 (until_of old.failed q r) || is_marked ms q r) (none ∙ sym was) in
    below_le_more rows (λ i. weight_below (kept_places k) (fresh_weight k new (from + i))) (λ i. weight_below (kept_places k) (fresh_weight k old (from + i)))
    (λ i. below_le (kept_places k) (fresh_weight k new (from + i)) (fresh_weight k old (from + i)) (λ q lt. omega (arith, ap (λ b. cond b 0 (kept_weight k q)) (seen q (from + i)))))
  where
    below_le_more : (n : ℕ) (g f : ℕ → ℕ) → ((i : ℕ) → g i ≤ f i) → weight_below n g ≤ weight_below n f + 0
    below_le_more n g f h = omega (arith, below_le n g f (λ i lt. h i))
fresh_cleared k (mark ∷ marks) old new from rows was none failed =
    let mid : Memo = record old { marks = marks } in
    let first = fresh_unmarked k mark old mid from was refl rows in
    let others = fresh_cleared k marks mid new from rows refl none failed in
    omega (arith, first, others)

pub moves_work : (old new : Search) → kept new.choices ≡ kept old.choices → costs new.choices ≡ whole_cost (kept old.choices) → new.memo.marks ≡ [] →
    (start_of old.choices ≤ start_of new.choices → new.memo.failed ≡ old.memo.failed) → (KeepsAll new.memo → KeepsAll old.memo) → (LastsAll old.memo → LastsAll new.memo) → new.turns ≡ old.turns → MovesWork old new
unfolding RemembersAll LastsForEver HasPlaces start_work row_work work_left held_work turns_before start_of_search
moves_work old new plan cost none failed keeps lasts count = record {
  counts = count;
  keeps = keeps;
  lasts = lasts;
  same = same_places old new plan;
  adds = λ le asked known.
      let k = kept old.choices in
      let from = start_of old.choices in
      let to = start_of new.choices in
      let here = ap (λ q. fresh_work q new.memo to (rows_ahead new.choices asked)) plan in
      let fewer = fresh_fewer k new.memo from to (rows_ahead old.choices asked) (rows_ahead new.choices asked) le (omega (arith, le, known)) in
      let cleared = fresh_cleared k old.memo.marks old.memo new.memo from (rows_ahead old.choices asked) refl none (failed le) in
      omega (arith, cost, here, fewer, cleared);
}

-- ---- rows that become known

below_append : (r d w : ℕ) (f : ℕ → ℕ) → ((i : ℕ) → f i ≤ w) → weight_below (r + d) f ≤ weight_below r f + d * w
below_append r zero w f h = omega (arith, ap (λ k. weight_below k f) (same r))
  where
    same : (r : ℕ) → r + 0 ≡ r
    same r = omega arith
below_append r (suc d) w f h =
    let at : r + suc d ≡ suc (r + d) = omega arith in
    omega (arith, below_append r d w f h, h (r + d), ap (λ k. weight_below k f) at)

row_most : (k : Kept) (memo : Memo) (row : ℕ) → weight_below (kept_places k) (fresh_weight k memo row) ≤ all_weight k
row_most k memo row = below_le (kept_places k) (fresh_weight k memo row) (kept_weight k) (λ place lt. most (is_seen memo place row) (kept_weight k place))
  where
    most : (b : Bool) (w : ℕ) → cond b 0 w ≤ w
    most true w = omega arith
    most false w = omega arith

pub work_grows : WorkGrows
unfolding work_left row_work
work_grows s old new le =
    let c = s.choices in
    let k = kept c in
    let f : ℕ → ℕ = λ i. weight_below (kept_places k) (fresh_weight k s.memo (start_of c + i)) in
    let d : ℕ = new.known - old.known in
    let few : rows_ahead c new ≤ rows_ahead c old + d = omega (arith, le) in
    omega (arith, below_longer (rows_ahead c new) (rows_ahead c old + d) f few, below_append (rows_ahead c old) d (all_weight k) f (λ i. row_most k s.memo (start_of c + i)))
