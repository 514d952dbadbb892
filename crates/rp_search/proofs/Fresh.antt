-- What places take at rows where they weren't seen: with each mark that is set there is less, and none more where marks are left.
use Rattle.std.specs.List.{AllByRecursion}
use Rattle.std.proofs.Common.{◌≡◌, ℕ, zero, suc, ◌+◌, ◌-◌, ◌*◌, ◌<◌, ◌≤◌, Bool, true, false, ◌&&◌, ◌||◌, List, [], ◌∷◌, cond, ◌⊎◌, inl, inr, refl, sym, ap, ◌∙◌, arith}
use Rattle.std.specs.Prelude.{nat_eq, nat_lt, nat_le}
use Rattle.std.proofs.lemmas.Bool.Decides.{nat_tests}
use Rattle.rp_words.specs.Numbers.{most_u64}
use Rattle.rp_pattern.specs.Ways.{Kept, all_weight, kept_places, kept_weight, weight_below}
use Rattle.rp_search.specs.declared.memo.Mark.{Mark}
use Rattle.rp_search.specs.declared.memo.Memo.{Memo}
use Rattle.rp_search.specs.Memo.{lessened}
use Rattle.rp_search.specs.Table.{until_of}
use Rattle.rp_search.specs.Work.{is_marked, is_seen, fresh_weight, fresh_work}

-- ---- sums

pub below_le : (k : ℕ) (g f : ℕ → ℕ) → ((i : ℕ) → i < k → g i ≤ f i) → weight_below k g ≤ weight_below k f
below_le zero g f h = omega arith
below_le (suc k) g f h = let more = below_le k g f (λ i lt. h i (omega (arith, lt))) in omega (arith, more, h k (omega arith))

pub below_less : (k i w : ℕ) (g f : ℕ → ℕ) → ((j : ℕ) → j < k → g j ≤ f j) → i < k → g i + w ≤ f i → weight_below k g + w ≤ weight_below k f
below_less zero i w g f h lt less = absurd (omega (arith, lt))
below_less (suc k) i w g f h lt less = go (nat_lt i k) refl (λ before. below_less k i w g f (λ j l. h j (omega (arith, l))) before less)
  where
    go : (b : Bool) → nat_lt i k ≡ b → (i < k → weight_below k g + w ≤ weight_below k f) → weight_below k g + g k + w ≤ weight_below k f + f k
    go true e fewer =
        let before : i < k = grind (arith, nat_tests) in
        omega (arith, fewer before, h k (omega arith))
    go false e fewer =
        let at : i ≡ k = grind (arith, nat_tests) in
        let more = below_le k g f (λ j l. h j (omega (arith, l))) in
        omega (arith, more, less, ap g at, ap f at)

pub below_most : (k w : ℕ) (f : ℕ → ℕ) → ((i : ℕ) → i < k → f i ≤ w) → weight_below k f ≤ k * w
below_most zero w f h = omega arith
below_most (suc k) w f h = let more = below_most k w f (λ i lt. h i (omega (arith, lt))) in omega (arith, more, h k (omega arith))

-- ---- what is seen

or_right : (a b : Bool) → b ≡ true → a || b ≡ true
or_right true b h = refl
or_right false b h = h

or_more : (a a' b b' : Bool) → (a ≡ true → a' || b' ≡ true) → (b ≡ true → a' || b' ≡ true) → a || b ≡ true → a' || b' ≡ true
or_more true a' b b' f g h = f refl
or_more false a' b b' f g h = g h

same_number : (a : ℕ) → nat_eq a a ≡ true
same_number a = grind (arith, nat_tests)

number_eq : (a b : ℕ) → nat_eq a b ≡ true → a ≡ b
number_eq a b e = grind (arith, nat_tests)

le_true : (a b : ℕ) → a ≤ b → nat_le a b ≡ true
le_true a b h = grind (arith, nat_tests)

le_false : (a b : ℕ) → b < a → nat_le a b ≡ false
le_false a b h = grind (arith, nat_tests)

le_of : (a b : ℕ) → nat_le a b ≡ true → a ≤ b
le_of a b h = grind (arith, nat_tests)

marked_here : (mark : Mark) (marks : List Mark) → is_marked (mark ∷ marks) mark.place mark.row ≡ true
marked_here mark marks =
    ap (λ z. (z && nat_eq mark.row mark.row) || is_marked marks mark.place mark.row) (same_number mark.place)
    ∙ ap (λ z. z || is_marked marks mark.place mark.row) (same_number mark.row)

none_marked : (marks : List Mark) (place row : ℕ) → AllByRecursion (λ mark. (mark.place ≡ place) × (mark.row ≡ row) → ⊥) marks → is_marked marks place row ≡ false
none_marked [] place row h = refl
none_marked (mark ∷ marks) place row h = go (nat_eq mark.place place) (nat_eq mark.row row) refl refl (none_marked marks place row h.1)
  where
    go : (a b : Bool) → nat_eq mark.place place ≡ a → nat_eq mark.row row ≡ b → is_marked marks place row ≡ false → (a && b) || is_marked marks place row ≡ false
    go true true e f others = absurd (h.0 (number_eq mark.place place e, number_eq mark.row row f))
    go true false e f others = others
    go false b e f others = others

-- what its last mark notes doesn't matter
lessened_marked : (until : ℕ) (marks : List Mark) (place row : ℕ) → is_marked (lessened until marks) place row ≡ is_marked marks place row
lessened_marked until [] place row = refl
lessened_marked until (mark ∷ marks) place row = refl

-- where no more is unseen, no more is fresh
weight_seen : (a b : Bool) (w : ℕ) → (a ≡ true → b ≡ true) → cond b 0 w ≤ cond a 0 w
weight_seen true true w h = omega arith
weight_seen true false w h = absurd (let e : false ≡ true = h refl in cc)
weight_seen false true w h = omega arith
weight_seen false false w h = omega arith

pub fresh_le : (k : Kept) (old new : Memo) (from rows : ℕ) → ((place row : ℕ) → from ≤ row → is_seen old place row ≡ true → is_seen new place row ≡ true) →
    fresh_work k new from rows ≤ fresh_work k old from rows
fresh_le k old new from rows h =
    below_le rows (λ i. weight_below (kept_places k) (fresh_weight k new (from + i))) (λ i. weight_below (kept_places k) (fresh_weight k old (from + i)))
    (λ i lt. below_le (kept_places k) (fresh_weight k new (from + i)) (fresh_weight k old (from + i))
    (λ place less. weight_seen (is_seen old place (from + i)) (is_seen new place (from + i)) (kept_weight k place) (h place (from + i) (omega arith))))

-- ---- a choice is split

-- With each mark that is set less is fresh: what its place takes.
pub fresh_set : (k : Kept) (old new : Memo) (mark : Mark) (from rows : ℕ) → new.marks ≡ mark ∷ old.marks → new.failed ≡ old.failed → mark.place < kept_places k →
    from ≤ mark.row → mark.row < from + rows → until_of old.failed mark.place mark.row < most_u64 → AllByRecursion (λ m. (m.place ≡ mark.place) × (m.row ≡ mark.row) → ⊥) old.marks →
    fresh_work k new from rows + kept_weight k mark.place ≤ fresh_work k old from rows
fresh_set k old new mark from rows marks failed place low high unfailed unmarked =
    let i : ℕ = mark.row - from in
    let at : from + i ≡ mark.row = omega (arith, low) in
    let still : (q r : ℕ) → is_seen old q r ≡ true → is_seen new q r ≡ true = λ q r seen.
    or_more (nat_le most_u64 (until_of old.failed q r)) (nat_le most_u64 (until_of new.failed q r)) (is_marked old.marks q r) (is_marked new.marks q r)
    (λ h. ap (λ z. z || is_marked new.marks q r) (ap (λ t. nat_le most_u64 (until_of t q r)) failed ∙ h))
    (λ h. or_right (nat_le most_u64 (until_of new.failed q r)) (is_marked new.marks q r)
    (ap (λ ms. is_marked ms q r) marks ∙ or_right (nat_eq mark.place q && nat_eq mark.row r) (is_marked old.marks q r) h)) seen in
    let before : is_seen old mark.place mark.row ≡ false =
    ap (λ z. z || is_marked old.marks mark.place mark.row) (le_false most_u64 (until_of old.failed mark.place mark.row) unfailed)
    ∙ none_marked old.marks mark.place mark.row unmarked in
    let after : is_seen new mark.place mark.row ≡ true =
    or_right (nat_le most_u64 (until_of new.failed mark.place mark.row)) (is_marked new.marks mark.place mark.row)
    (ap (λ ms. is_marked ms mark.place mark.row) marks ∙ marked_here mark old.marks) in
    let g : ℕ → ℕ = λ j. weight_below (kept_places k) (fresh_weight k new (from + j)) in
    let f : ℕ → ℕ = λ j. weight_below (kept_places k) (fresh_weight k old (from + j)) in
    let none : fresh_weight k new (from + i) mark.place ≡ 0 = ap (λ r. cond (is_seen new mark.place r) 0 (kept_weight k mark.place)) at ∙ ap (λ b. cond b 0 (kept_weight k mark.place)) after in
    let all : fresh_weight k old (from + i) mark.place ≡ kept_weight k mark.place = ap (λ r. cond (is_seen old mark.place r) 0 (kept_weight k mark.place)) at ∙ ap (λ b. cond b 0 (kept_weight k mark.place)) before in
    let row_less : g i + kept_weight k mark.place ≤ f i =
    below_less (kept_places k) mark.place (kept_weight k mark.place) (fresh_weight k new (from + i)) (fresh_weight k old (from + i))
    (λ q lt. weight_seen (is_seen old q (from + i)) (is_seen new q (from + i)) (kept_weight k q) (still q (from + i))) place (omega (arith, none, all)) in
    below_less rows i (kept_weight k mark.place) g f
    (λ j lt. below_le (kept_places k) (fresh_weight k new (from + j)) (fresh_weight k old (from + j))
    (λ q less. weight_seen (is_seen old q (from + j)) (is_seen new q (from + j)) (kept_weight k q) (still q (from + j))))
    (omega (arith, low, high)) row_less

-- ---- marks that are left

-- A mark whose place has failed at its row for ever leaves no more that is fresh.
pub fresh_left : (k : Kept) (old new : Memo) (mark : Mark) (marks : List Mark) (until from rows : ℕ) → old.marks ≡ mark ∷ marks → new.marks ≡ lessened until marks →
    ((q r : ℕ) → from ≤ r → (most_u64 ≤ until_of old.failed q r) ⊎ ((q ≡ mark.place) × (r ≡ mark.row)) → most_u64 ≤ until_of new.failed q r) →
    fresh_work k new from rows ≤ fresh_work k old from rows
fresh_left k old new mark marks until from rows was now noted =
    fresh_le k old new from rows
    (λ q r low seen. or_more (nat_le most_u64 (until_of old.failed q r)) (nat_le most_u64 (until_of new.failed q r)) (is_marked old.marks q r) (is_marked new.marks q r)
    (λ h. known q r (noted q r low (inl (le_of most_u64 (until_of old.failed q r) h))))
    (λ h. here q r low (nat_eq mark.place q) (nat_eq mark.row r) refl refl (ap (λ ms. is_marked ms q r) (sym was) ∙ h)) seen)
  where
    known : (q r : ℕ) → most_u64 ≤ until_of new.failed q r → nat_le most_u64 (until_of new.failed q r) || is_marked new.marks q r ≡ true
    known q r le = ap (λ z. z || is_marked new.marks q r) (le_true most_u64 (until_of new.failed q r) le)

    still : (q r : ℕ) → is_marked marks q r ≡ true → nat_le most_u64 (until_of new.failed q r) || is_marked new.marks q r ≡ true
    still q r h = or_right (nat_le most_u64 (until_of new.failed q r)) (is_marked new.marks q r) (ap (λ ms. is_marked ms q r) now ∙ lessened_marked until marks q r ∙ h)

    here : (q r : ℕ) → from ≤ r → (a b : Bool) → nat_eq mark.place q ≡ a → nat_eq mark.row r ≡ b → (a && b) || is_marked marks q r ≡ true →
        nat_le most_u64 (until_of new.failed q r) || is_marked new.marks q r ≡ true
    here q r low true true e f h = known q r (noted q r low (inr (sym (number_eq mark.place q e), sym (number_eq mark.row r f))))
    here q r low true false e f h = still q r h
    here q r low false b e f h = still q r h

-- the same marks but for what the last one notes, and the same failures
pub fresh_same : (k : Kept) (old new : Memo) (until from rows : ℕ) → new.marks ≡ lessened until old.marks → new.failed ≡ old.failed → fresh_work k new from rows ≤ fresh_work k old from rows
fresh_same k old new until from rows marks failed =
    fresh_le k old new from rows
    (λ q r low seen. ap (λ t. nat_le most_u64 (until_of t q r) || is_marked new.marks q r) failed
    ∙ ap (λ b. nat_le most_u64 (until_of old.failed q r) || b) (ap (λ ms. is_marked ms q r) marks ∙ lessened_marked until old.marks q r) ∙ seen)

pub fresh_equal : (k : Kept) (old new : Memo) (from rows : ℕ) → new.marks ≡ old.marks → new.failed ≡ old.failed → fresh_work k new from rows ≤ fresh_work k old from rows
fresh_equal k old new from rows marks failed =
    fresh_le k old new from rows
    (λ q r low seen. ap (λ t. nat_le most_u64 (until_of t q r) || is_marked new.marks q r) failed
    ∙ ap (λ ms. nat_le most_u64 (until_of old.failed q r) || is_marked ms q r) marks ∙ seen)

-- ---- all that may be fresh

-- at each row no more than all places take
pub fresh_most : (k : Kept) (memo : Memo) (from rows : ℕ) → fresh_work k memo from rows ≤ rows * all_weight k
fresh_most k memo from rows =
    below_most rows (all_weight k) (λ i. weight_below (kept_places k) (fresh_weight k memo (from + i)))
    (λ i lt. below_le (kept_places k) (fresh_weight k memo (from + i)) (kept_weight k) (λ place less. at_most (is_seen memo place (from + i)) (kept_weight k place)))
  where
    at_most : (b : Bool) (w : ℕ) → cond b 0 w ≤ w
    at_most true w = omega arith
    at_most false w = omega arith
