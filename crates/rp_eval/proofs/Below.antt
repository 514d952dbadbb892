-- Places of labels, and those below a depth.
use Rattle.std.proofs.Common.{◌≡◌, ℕ, zero, suc, ◌+◌, ◌-◌, ◌≤◌, ◌<◌, Bool, true, false, cond, List, [], ◌∷◌, ◌++◌, map, length, take, drop, reverse, get_or, Some, refl, sym, ap, ◌∙◌, subst, arith}
use Rattle.std.specs.Prelude.{nat_le, slice_get, option_map, IfSome}
use Rattle.std.specs.List.{AllByRecursion, suffix_len}
use Rattle.std.specs.List.Sorted.{IsNonDecreasing}
use Rattle.std.proofs.lemmas.Bool.{le-leb, lt-leb}
use Rattle.std.proofs.lemmas.List.{reverse-append, take-append-le, take-append-drop, take_all, length-append, length-take-le}
use Rattle.std.proofs.lemmas.List.Sums.{suffix_len_is}
use Rattle.std.proofs.lemmas.Option.{slice_get-map, slice_get-get_or}
use Rattle.rp_words.specs.declared.word.Label.{Label}
use Rattle.rp_query.specs.declared.plan.Edge.{Edge}
use Rattle.rp_query.specs.declared.plan.Edge.TheVariants.{First, Last}
use Rattle.rp_query.specs.declared.plan.Variables.{Variables}
use Rattle.rp_query.specs.Scopes.{includes}
use Rattle.rp_eval.specs.Mapped.{rows_of, place_in}
use Rattle.rp_eval.specs.Kept.{places_to}
use Rattle.rp_eval.proofs.MappedRows.{from_last, rows_of-append, rows_each, place_each}

-- ---- those below a depth

-- so many places are left where those beyond aren't below the depth, and the last of them is
pub left_is : (depth n : ℕ) (xs : List ℕ) → n ≤ length xs → ((k : ℕ) → n ≤ k → k < length xs → depth ≤ get_or xs k 0) → (0 < n → get_or xs (n - 1) 0 < depth) →
    take n xs ≡ places_to depth xs
left_is depth n xs le beyond last =
    let size = suffix_len_is (nat_le depth) xs n 0 le (λ k from lt. le-leb depth (get_or xs k 0) (beyond k from lt)) (λ some. lt-leb depth (get_or xs (n - 1) 0) (last some)) in
    let same : n ≡ length xs - suffix_len (nat_le depth) xs = omega (arith, size) in
    ap (λ k. take k xs) same

-- at depth 0 none is left
pub none_left : (xs : List ℕ) → places_to 0 xs ≡ []
none_left xs = sym (left_is 0 0 xs (omega arith) (λ k from lt. omega arith) (λ some. absurd (omega arith)))

at : (P : ℕ → Type 0) (xs : List ℕ) (k : ℕ) → AllByRecursion P xs → k < length xs → P (get_or xs k 0)
at P [] k all lt = absurd (omega arith)
at P (x ∷ xs) zero all lt = all.0
at P (x ∷ xs) (suc k) all lt = at P xs k all.1 (omega arith)

beyond_front : (P : ℕ → Type 0) (xs ys : List ℕ) (k : ℕ) → AllByRecursion P ys → length xs ≤ k → k < length (xs ++ ys) → P (get_or (xs ++ ys) k 0)
beyond_front P [] ys k all le lt = at P ys k all lt
beyond_front P (x ∷ xs) ys zero all le lt = absurd (omega arith)
beyond_front P (x ∷ xs) ys (suc k) all le lt = beyond_front P xs ys k all (omega arith) (omega arith)

within_front : (P : ℕ → Type 0) (xs ys : List ℕ) (k : ℕ) → AllByRecursion P xs → k < length xs → P (get_or (xs ++ ys) k 0)
within_front P [] ys k all lt = absurd (omega arith)
within_front P (x ∷ xs) ys zero all lt = all.0
within_front P (x ∷ xs) ys (suc k) all lt = within_front P xs ys k all.1 (omega arith)

split_left : (depth : ℕ) (xs ys : List ℕ) → AllByRecursion (λ x. x < depth) xs → AllByRecursion (λ y. depth ≤ y) ys → places_to depth (xs ++ ys) ≡ xs
split_left depth xs ys below beyond =
    sym (left_is depth (length xs) (xs ++ ys) (omega (arith, length-append xs ys)) (λ k from lt. beyond_front (λ y. depth ≤ y) xs ys k beyond from lt) (λ some. within_front (λ x. x < depth) xs ys (length xs - 1) below (omega arith)))
    ∙ take-append-le (length xs) xs ys (omega arith) ∙ take_all (length xs) xs (omega arith)

-- the last of some places
pub last_place : (xs : List ℕ) → place_in Last 0 xs ≡ slice_get xs (length xs - 1)
last_place [] = refl
last_place (x ∷ xs) = let same : length (x ∷ xs) - 1 - 0 ≡ length (x ∷ xs) - 1 = omega arith in from_last (x ∷ xs) 0 (omega arith) ∙ ap (slice_get (x ∷ xs)) same

-- none is left out where the last one is below the depth
pub all_left : (depth place : ℕ) (xs : List ℕ) → place_in Last 0 xs ≡ Some place → place < depth → places_to depth xs ≡ xs
all_left depth place xs is lt = sym (left_is depth (length xs) xs (omega arith) (λ k from past. absurd (omega arith)) last) ∙ take_all (length xs) xs (omega arith)
  where
    last : 0 < length xs → get_or xs (length xs - 1) 0 < depth
    last some =
        let e : Some (get_or xs (length xs - 1) 0) ≡ Some place = sym (slice_get-get_or xs (length xs - 1) 0 (omega arith)) ∙ sym (last_place xs) ∙ is in
        let same : get_or xs (length xs - 1) 0 ≡ place = cc in
        omega (arith, same)

-- those of the first labels
pub rows_left : (vs : Variables) (depth : ℕ) (ls : List Label) → depth ≤ length ls → places_to depth (rows_of vs 0 ls) ≡ rows_of vs 0 (take depth ls)
rows_left vs depth ls le =
    let front = take depth ls in
    let size : length front ≡ depth = length-take-le depth ls le in
    ap (λ z. places_to depth (rows_of vs 0 z)) (sym (take-append-drop depth ls))
    ∙ ap (places_to depth) (rows_of-append vs 0 front (drop depth ls))
    ∙ split_left depth (rows_of vs 0 front) (rows_of vs (0 + length front) (drop depth ls))
    (rows_each (λ x. x < depth) vs 0 front (λ r from lt. omega (arith, size)))
    (rows_each (λ y. depth ≤ y) vs (0 + length front) (drop depth ls) (λ r from lt. omega (arith, size)))

-- ---- they ascend

ascends_from : (x : ℕ) (xs : List ℕ) → AllByRecursion (λ y. x ≤ y) xs → IsNonDecreasing xs → IsNonDecreasing (x ∷ xs)
ascends_from x xs least up zero zero d le lt = omega arith
ascends_from x xs least up zero (suc j) d le lt = first xs j least (omega arith)
  where
    first : (ys : List ℕ) (k : ℕ) → AllByRecursion (λ y. x ≤ y) ys → k < length ys → x ≤ get_or ys k d
    first [] k all lt = absurd (omega arith)
    first (y ∷ ys) zero all lt = all.0
    first (y ∷ ys) (suc k) all lt = first ys k all.1 (omega arith)
ascends_from x xs least up (suc i) zero d le lt = absurd (omega arith)
ascends_from x xs least up (suc i) (suc j) d le lt = up i j d (omega arith) (omega arith)

ascends_if : (b : Bool) (x : ℕ) (xs : List ℕ) → AllByRecursion (λ y. x ≤ y) xs → IsNonDecreasing xs → IsNonDecreasing (cond b (x ∷ xs) xs)
ascends_if true x xs least up = ascends_from x xs least up
ascends_if false x xs least up = up

pub rows_ascend : (vs : Variables) (row : ℕ) (ls : List Label) → IsNonDecreasing (rows_of vs row ls)
rows_ascend vs row [] = λ i j d le lt. absurd (omega arith)
rows_ascend vs row (l ∷ ls) =
    ascends_if (includes vs l.var) row (rows_of vs (row + 1) ls) (rows_each (λ y. row ≤ y) vs (row + 1) ls (λ r from lt. omega arith)) (rows_ascend vs (row + 1) ls)

-- ---- their rows

moved_if : (b : Bool) (start row : ℕ) (xs ys : List ℕ) → map (λ place. start + place) xs ≡ ys → map (λ place. start + place) (cond b (row ∷ xs) xs) ≡ cond b ((start + row) ∷ ys) ys
moved_if true start row xs ys is = ap (λ z. (start + row) ∷ z) is
moved_if false start row xs ys is = is

moved : (vs : Variables) (start row : ℕ) (ls : List Label) → map (λ place. start + place) (rows_of vs row ls) ≡ rows_of vs (start + row) ls
moved vs start row [] = refl
moved vs start row (l ∷ ls) =
    let next : start + (row + 1) ≡ start + row + 1 = omega arith in
    moved_if (includes vs l.var) start row (rows_of vs (row + 1) ls) (rows_of vs (start + row + 1) ls)
    (moved vs start (row + 1) ls ∙ ap (λ z. rows_of vs z ls) next)

-- places from a start row on are its labels' rows
pub rows_from : (vs : Variables) (start : ℕ) (ls : List Label) → map (λ place. start + place) (rows_of vs 0 ls) ≡ rows_of vs start ls
rows_from vs start ls = let same : start + 0 ≡ start = omega arith in moved vs start 0 ls ∙ ap (λ z. rows_of vs z ls) same

-- ---- a place among them

all_take : (P : ℕ → Type 0) (n : ℕ) (xs : List ℕ) → AllByRecursion P xs → AllByRecursion P (take n xs)
all_take P zero xs all = tt
all_take P (suc n) [] all = tt
all_take P (suc n) (x ∷ xs) all = (all.0, all_take P n xs all.1)

-- there is room for its row
pub place_fits : (P : ℕ → Type 0) (depth : ℕ) (edge : Edge) (k place : ℕ) (xs : List ℕ) → AllByRecursion P xs → Some place ≡ place_in edge k (places_to depth xs) → P place
place_fits P depth edge k place xs all is =
    subst (λ o. IfSome o P) (sym is) (place_each P edge k (places_to depth xs) (all_take P (length xs - suffix_len (nat_le depth) xs) xs all))

-- its row is that place among the rows
pub place_moved : (f : ℕ → ℕ) (edge : Edge) (k : ℕ) (xs : List ℕ) → place_in edge k (map f xs) ≡ option_map f (place_in edge k xs)
place_moved f First k xs = slice_get-map f xs k
place_moved f Last k xs = ap (λ z. slice_get z k) (reversed xs) ∙ slice_get-map f (reverse xs) k
  where
    joined : (xs ys : List ℕ) → map f (xs ++ ys) ≡ map f xs ++ map f ys
    joined [] ys = refl
    joined (x ∷ xs) ys = ap (λ z. f x ∷ z) (joined xs ys)

    reversed : (xs : List ℕ) → reverse (map f xs) ≡ map f (reverse xs)
    reversed [] = refl
    reversed (x ∷ xs) =
        reverse-append (f x ∷ []) (map f xs) ∙ ap (λ z. z ++ f x ∷ []) (reversed xs)
        ∙ sym (ap (map f) (reverse-append (x ∷ []) xs) ∙ joined (reverse xs) (x ∷ []))
