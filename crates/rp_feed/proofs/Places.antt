-- Rows with ascending numbers, by their places.
use Rattle.std.proofs.Common.{◌≡◌, ◌≢◌, ℕ, zero, suc, ◌+◌, ◌-◌, ◌<◌, ◌≤◌, List, [], ◌∷◌, length, get_or, drop, Bool, true, false, cond, ◌||◌, Some, None, refl, sym, ap, subst, ◌∙◌, arith, eqb}
use Rattle.std.specs.Prelude.{nat_le, nat_lt, count_by, is_some}
use Rattle.std.specs.List.{insert, list_any}
use Rattle.std.proofs.lemmas.Bool.Decides.{nat_tests}
use Rattle.std.proofs.lemmas.List.Sums.{sum_by-cons}
use Rattle.rp_value.specs.declared.value.Value.{Value}
use Rattle.rp_feed.specs.Fed.{Numbered, AreUpTo, AscendFrom, row_at, with_row, first_missing, rows_from}
use Rattle.rp_feed.specs.HeldRows.{above_all, below, entry_at, number_at, row_with}
use Rattle.rp_feed.proofs.Ordered.{missing_least, not_there, row_at-below, unequal}

abbrev Cells : Type 0
Cells = List Value

at_most : {A : Type 0} (m n : ℕ) (x y : A) → m ≤ n → cond (nat_le m n) x y ≡ x
at_most m n x y h = let t : nat_le m n ≡ true = grind (arith, nat_tests) in rw t

not_at_most : {A : Type 0} (m n : ℕ) (x y : A) → n < m → cond (nat_le m n) x y ≡ y
not_at_most m n x y h = let t : nat_le m n ≡ false = grind (arith, nat_tests) in rw t

pub ascend_wide : (m n : ℕ) (rows : List Numbered) → m ≤ n → AscendFrom n rows → AscendFrom m rows
ascend_wide m n [] l a = tt
ascend_wide m n ((j, row) ∷ rows) l a = let i = a.0 in let k : m ≤ j = omega (arith, i, l) in (k, a.1)

-- ---- the place of a number

pub below_within : (n : ℕ) (rows : List Numbered) → below n rows ≤ length rows
below_within n [] = omega arith
below_within n ((m, row) ∷ rows) = go (nat_lt m n) (below_within n rows)
  where
    go : (b : Bool) → below n rows ≤ length rows → cond b (suc (below n rows)) 0 ≤ suc (length rows)
    go true i = omega arith
    go false i = omega arith

-- of the rows that follow one another, each is in the place of its number
pub below_run : (first n : ℕ) (rows : List Numbered) → AscendFrom first rows → first ≤ n → n ≤ first_missing first rows → below n rows ≡ n - first
below_run first n [] a l h = omega (arith, l, h)
below_run first n ((m, row) ∷ rows) a l h = go (eqb m first) (nat_lt m n) refl refl h (below_run (first + 1) n rows)
  where
    go : (b c : Bool) → eqb m first ≡ b → nat_lt m n ≡ c → n ≤ cond b (first_missing (first + 1) rows) first
        → (AscendFrom (first + 1) rows → first + 1 ≤ n → n ≤ first_missing (first + 1) rows → below n rows ≡ n - (first + 1))
        → cond c (suc (below n rows)) 0 ≡ n - first
    go true true e f i later =
        let same : m ≡ first = grind (arith, nat_tests) in
        let k : m < n = grind (arith, nat_tests) in
        let j : below n rows ≡ n - (first + 1) = later (subst (λ z. AscendFrom (z + 1) rows) same a.1) (omega (arith, same, k)) i in
        omega (arith, j, same, k)
    go true false e f i later =
        let same : m ≡ first = grind (arith, nat_tests) in
        let k : n ≤ m = grind (arith, nat_tests) in
        omega (arith, same, k, l)
    go false true e f i later =
        let low = a.0 in
        let k : m < n = grind (arith, nat_tests) in
        absurd (omega (arith, low, k, i))
    go false false e f i later = omega (arith, l, i)

-- a number behind them has its place behind them
pub run_below : (first n : ℕ) (rows : List Numbered) → first_missing first rows ≤ n → first_missing first rows ≤ first + below n rows
run_below first n [] h = omega arith
run_below first n ((m, row) ∷ rows) h = go (eqb m first) (nat_lt m n) refl refl h (run_below (first + 1) n rows)
  where
    go : (b c : Bool) → eqb m first ≡ b → nat_lt m n ≡ c → cond b (first_missing (first + 1) rows) first ≤ n
        → (first_missing (first + 1) rows ≤ n → first_missing (first + 1) rows ≤ first + 1 + below n rows)
        → cond b (first_missing (first + 1) rows) first ≤ first + cond c (suc (below n rows)) 0
    go false c e f i later = omega arith
    go true true e f i later = let j = later i in omega (arith, j)
    go true false e f i later =
        let same : m ≡ first = grind (arith, nat_tests) in
        let k : n ≤ m = grind (arith, nat_tests) in
        let l = missing_least (first + 1) rows in
        absurd (omega (arith, same, k, l, i))

pub row_by_place : (first n : ℕ) (rows : List Numbered) → AscendFrom first rows → row_with n (entry_at rows (below n rows)) ≡ row_at rows n
row_by_place first n [] a = refl
row_by_place first n ((m, row) ∷ rows) a = go (nat_lt m n) refl (row_by_place (m + 1) n rows a.1)
  where
    there : (c : Bool) → n ≤ m → eqb m n ≡ c → cond c (Some row) None ≡ cond c (Some row) (row_at rows n)
    there true l e = refl
    there false l e =
        let d : m ≢ n = grind (arith, nat_tests) in
        sym (row_at-below (m + 1) n rows a.1 (omega (arith, l, d)))

    go : (b : Bool) → nat_lt m n ≡ b → row_with n (entry_at rows (below n rows)) ≡ row_at rows n
        → row_with n (entry_at ((m, row) ∷ rows) (cond b (suc (below n rows)) 0)) ≡ cond (eqb m n) (Some row) (row_at rows n)
    go true e i = let d : m ≢ n = grind (arith, nat_tests) in i ∙ sym (unequal m n (Some row) (row_at rows n) d)
    go false e i = there (eqb m n) (grind (arith, nat_tests)) refl

pub insert_in_place : (n : ℕ) (row : Cells) (rows : List Numbered) → row_at rows n ≡ None → insert rows (below n rows) (n, row) ≡ with_row n row rows
insert_in_place n row [] h = refl
insert_in_place n row ((m, other) ∷ rows) h = go (nat_lt m n) refl (insert_in_place n row rows (not_there m n other (row_at rows n) h).1)
  where
    go : (b : Bool) → nat_lt m n ≡ b → insert rows (below n rows) (n, row) ≡ with_row n row rows
        → insert ((m, other) ∷ rows) (cond b (suc (below n rows)) 0) (n, row) ≡ cond (nat_lt n m) ((n, row) ∷ ((m, other) ∷ rows)) ((m, other) ∷ with_row n row rows)
    go true e i =
        let t : nat_lt n m ≡ false = grind (arith, nat_tests) in
        ap (λ z. (m, other) ∷ z) i ∙ sym (ap (λ z. cond z ((n, row) ∷ ((m, other) ∷ rows)) ((m, other) ∷ with_row n row rows)) t)
    go false e i =
        let d = (not_there m n other (row_at rows n) h).0 in
        let t : nat_lt n m ≡ true = grind (arith, nat_tests) in
        sym (ap (λ z. cond z ((n, row) ∷ ((m, other) ∷ rows)) ((m, other) ∷ with_row n row rows)) t)

-- ---- a number is looked for by halves

number_least : (n k : ℕ) (rows : List Numbered) → AscendFrom n rows → k < length rows → n ≤ number_at rows k
number_least n k [] a h = absurd (omega arith)
number_least n zero ((m, row) ∷ rows) a h = a.0
number_least n (suc k) ((m, row) ∷ rows) a h =
    let l = a.0 in
    let i = number_least (m + 1) k rows a.1 (omega arith) in
    omega (arith, l, i)

pub below_more : (first n k : ℕ) (rows : List Numbered) → AscendFrom first rows → k < length rows → nat_lt (number_at rows k) n ≡ true → k + 1 ≤ below n rows
below_more first n k [] a h t = absurd (omega arith)
below_more first n zero ((m, row) ∷ rows) a h t = rw t (omega arith)
below_more first n (suc k) ((m, row) ∷ rows) a h t =
    let l = number_least (m + 1) k rows a.1 (omega arith) in
    let u : nat_lt m n ≡ true = grind (arith, nat_tests) in
    let i = below_more (m + 1) n k rows a.1 (omega arith) t in
    rw u (omega (arith, i))

pub below_less : (n k : ℕ) (rows : List Numbered) → k < length rows → nat_lt (number_at rows k) n ≡ false → below n rows ≤ k
below_less n k [] h t = absurd (omega arith)
below_less n zero ((m, row) ∷ rows) h t = rw t (omega arith)
below_less n (suc k) ((m, row) ∷ rows) h t = go (nat_lt m n) (below_less n k rows (omega arith) t)
  where
    go : (b : Bool) → below n rows ≤ k → cond b (suc (below n rows)) 0 ≤ suc k
    go true i = omega arith
    go false i = omega arith

pub number_read : (rows : List Numbered) (k : ℕ) (d : Numbered) → k < length rows → (get_or rows k d).0 ≡ number_at rows k
number_read [] k d h = absurd (omega arith)
number_read ((m, row) ∷ rows) zero d h = refl
number_read ((m, row) ∷ rows) (suc k) d h = number_read rows k d (omega arith)

-- ---- the rows that follow one another

pub run_on_more : (first k : ℕ) (rows : List Numbered) → first + k ≤ first_missing first rows → is_some (row_with (first + k) (entry_at rows k)) ≡ true
    → first + (k + 1) ≤ first_missing first rows
run_on_more first k [] h e = absurd (cc)
run_on_more first zero ((m, row) ∷ rows) h e = go (eqb m first) refl (eqb m (first + 0)) refl e (missing_least (first + 1) rows)
  where
    go : (b : Bool) → eqb m first ≡ b → (c : Bool) → eqb m (first + 0) ≡ c → is_some (cond c (Some row) None) ≡ true → first + 1 ≤ first_missing (first + 1) rows
        → first + (0 + 1) ≤ cond b (first_missing (first + 1) rows) first
    go true f c g i l = omega (arith, l)
    go false f true g i l = absurd (grind (arith, nat_tests))
    go false f false g i l = absurd (cc)
run_on_more first (suc k) ((m, row) ∷ rows) h e = go (eqb m first) h (run_on_more (first + 1) k rows)
  where
    same : first + suc k ≡ first + 1 + k
    same = omega arith

    go : (b : Bool) → first + suc k ≤ cond b (first_missing (first + 1) rows) first
        → (first + 1 + k ≤ first_missing (first + 1) rows → is_some (row_with (first + 1 + k) (entry_at rows k)) ≡ true → first + 1 + (k + 1) ≤ first_missing (first + 1) rows)
        → first + (suc k + 1) ≤ cond b (first_missing (first + 1) rows) first
    go true i later =
        let j = later (omega (arith, i)) (subst (λ z. is_some (row_with z (entry_at rows k)) ≡ true) same e) in
        omega (arith, j)
    go false i later = absurd (omega (arith, i))

pub run_on_done : (first k : ℕ) (rows : List Numbered) → first + k ≤ first_missing first rows → is_some (row_with (first + k) (entry_at rows k)) ≡ false
    → first + k ≡ first_missing first rows
run_on_done first k [] h e = omega arith
run_on_done first zero ((m, row) ∷ rows) h e = go (eqb m first) refl (eqb m (first + 0)) refl e
  where
    go : (b : Bool) → eqb m first ≡ b → (c : Bool) → eqb m (first + 0) ≡ c → is_some (cond c (Some row) None) ≡ false
        → first + 0 ≡ cond b (first_missing (first + 1) rows) first
    go false f c g i = omega arith
    go true f false g i = absurd (grind (arith, nat_tests))
    go true f true g i = absurd (cc)
run_on_done first (suc k) ((m, row) ∷ rows) h e = go (eqb m first) h (run_on_done (first + 1) k rows)
  where
    same : first + suc k ≡ first + 1 + k
    same = omega arith

    go : (b : Bool) → first + suc k ≤ cond b (first_missing (first + 1) rows) first
        → (first + 1 + k ≤ first_missing (first + 1) rows → is_some (row_with (first + 1 + k) (entry_at rows k)) ≡ false → first + 1 + k ≡ first_missing (first + 1) rows)
        → first + suc k ≡ cond b (first_missing (first + 1) rows) first
    go true i later =
        let j = later (omega (arith, i)) (subst (λ z. is_some (row_with z (entry_at rows k)) ≡ false) same e) in
        omega (arith, j)
    go false i later = absurd (omega (arith, i))

-- ---- the last number

pub last_read : (n k : ℕ) (rows : List Numbered) (d : Numbered) → length rows ≡ k + 1 → (get_or rows k d).0 + 1 ≡ above_all n rows
last_read n k [] d h = absurd (omega arith)
last_read n zero ((m, row) ∷ []) d h = refl
last_read n (suc k) ((m, row) ∷ []) d h = absurd (omega arith)
last_read n zero ((m, row) ∷ (j, other) ∷ rows) d h = absurd (omega arith)
last_read n (suc k) ((m, row) ∷ (j, other) ∷ rows) d h = last_read (m + 1) k ((j, other) ∷ rows) d (omega arith)

pub up_to_read : (k i : ℕ) (rows : List Numbered) (d : Numbered) → AreUpTo k rows → i < length rows → (get_or rows i d).0 ≤ k
up_to_read k i [] d a h = absurd (omega arith)
up_to_read k zero ((m, row) ∷ rows) d a h = a.0
up_to_read k (suc i) ((m, row) ∷ rows) d a h = up_to_read k i rows d a.1 (omega arith)

pub above_least : (n : ℕ) (rows : List Numbered) → AscendFrom n rows → n ≤ above_all n rows
above_least n [] a = omega arith
above_least n ((m, row) ∷ rows) a = let l = a.0 in let i = above_least (m + 1) rows a.1 in omega (arith, l, i)

pub above_is : (c n : ℕ) (rows : List Numbered) → AscendFrom n rows → nat_lt (c + 1) n || list_any (λ e. nat_lt c e.0) rows ≡ nat_lt (c + 1) (above_all n rows)
above_is c n [] a = go (nat_lt (c + 1) n)
  where
    go : (b : Bool) → b || false ≡ b
    go true = refl
    go false = refl
above_is c n ((m, row) ∷ rows) a = go (nat_lt (c + 1) n) (nat_lt c m) (nat_lt (c + 1) (m + 1)) refl refl refl (above_is c (m + 1) rows a.1)
  where
    go : (x y z : Bool) → nat_lt (c + 1) n ≡ x → nat_lt c m ≡ y → nat_lt (c + 1) (m + 1) ≡ z
        → z || list_any (λ e. nat_lt c e.0) rows ≡ nat_lt (c + 1) (above_all (m + 1) rows)
        → x || (y || list_any (λ e. nat_lt c e.0) rows) ≡ nat_lt (c + 1) (above_all (m + 1) rows)
    go x true false e f g i = absurd (grind (arith, nat_tests))
    go x false true e f g i = absurd (grind (arith, nat_tests))
    go true false false e f g i = let l = a.0 in absurd (grind (arith, nat_tests))
    go true true true e f g i = i
    go false true true e f g i = i
    go false false false e f g i = i

pub up_to_last : (c n : ℕ) (rows : List Numbered) → AscendFrom n rows → above_all n rows ≤ c + 1 → AreUpTo c rows
up_to_last c n [] a h = tt
up_to_last c n ((m, row) ∷ rows) a h =
    let i = above_least (m + 1) rows a.1 in
    let l : m ≤ c = omega (arith, i, h) in
    (l, up_to_last c (m + 1) rows a.1 h)

-- ---- numbers that aren't above another

pub missing_most : (k n : ℕ) (rows : List Numbered) → AreUpTo k rows → n ≤ k + 1 → first_missing n rows ≤ k + 1
missing_most k n [] u h = h
missing_most k n ((m, row) ∷ rows) u h = go (eqb m n) refl (missing_most k (n + 1) rows u.1)
  where
    go : (b : Bool) → eqb m n ≡ b → (n + 1 ≤ k + 1 → first_missing (n + 1) rows ≤ k + 1) → cond b (first_missing (n + 1) rows) n ≤ k + 1
    go true e later = let same : m ≡ n = grind (arith, nat_tests) in let l = u.0 in later (omega (arith, same, l))
    go false e later = h

pub up_to_wide : (j k : ℕ) (rows : List Numbered) → j ≤ k → AreUpTo j rows → AreUpTo k rows
up_to_wide j k [] l u = tt
up_to_wide j k ((m, row) ∷ rows) l u = let a = u.0 in let i : m ≤ k = omega (arith, a, l) in (i, up_to_wide j k rows l u.1)

pub up_to_put : (k n : ℕ) (row : Cells) (rows : List Numbered) → n ≤ k → AreUpTo k rows → AreUpTo k (with_row n row rows)
up_to_put k n row [] l u = (l, tt)
up_to_put k n row ((m, other) ∷ rows) l u = go (nat_lt n m) (up_to_put k n row rows l u.1)
  where
    go : (b : Bool) → AreUpTo k (with_row n row rows) → AreUpTo k (cond b ((n, row) ∷ ((m, other) ∷ rows)) ((m, other) ∷ with_row n row rows))
    go true i = (l, u)
    go false i = (u.0, i)

pub up_to_kept : (k b : ℕ) (rows : List Numbered) → AreUpTo k rows → AreUpTo k (rows_from b rows)
up_to_kept k b [] u = tt
up_to_kept k b ((m, row) ∷ rows) u = go (nat_le b m) (up_to_kept k b rows u.1)
  where
    go : (c : Bool) → AreUpTo k (rows_from b rows) → AreUpTo k (cond c ((m, row) ∷ rows_from b rows) (rows_from b rows))
    go true i = (u.0, i)
    go false i = i

-- ---- how many numbers are above another

count_first : (c n : ℕ) (row : Cells) (rows : List Numbered) → count_by (λ e. nat_lt c e.0) ((n, row) ∷ rows) ≡ cond (nat_lt c n) 1 0 + count_by (λ e. nat_lt c e.0) rows
count_first c n row rows = sum_by-cons (λ (e : Numbered). cond (nat_lt c e.0) 1 0) (n, row) rows

one_at_most : (b : Bool) → cond b 1 0 ≤ 1
one_at_most true = omega arith
one_at_most false = omega arith

few_from : (f k n : ℕ) (rows : List Numbered) → AscendFrom n rows → AreUpTo k rows → count_by (λ e. nat_lt f e.0) rows ≤ k + 1 - n
few_from f k n [] a u = omega arith
few_from f k n ((m, row) ∷ rows) a u =
    let l = a.0 in
    let h = u.0 in
    let i = few_from f k (m + 1) rows a.1 u.1 in
    let j = one_at_most (nat_lt f m) in
    rw (count_first f m row rows) (omega (arith, l, h, i, j))

pub few_above : (f k n : ℕ) (rows : List Numbered) → AscendFrom n rows → AreUpTo k rows → count_by (λ e. nat_lt f e.0) rows ≤ k - f
few_above f k n [] a u = omega arith
few_above f k n ((m, row) ∷ rows) a u =
    rw (count_first f m row rows) (go (nat_lt f m) refl (few_from f k (m + 1) rows a.1 u.1) (few_above f k (m + 1) rows a.1 u.1))
  where
    go : (b : Bool) → nat_lt f m ≡ b → count_by (λ e. nat_lt f e.0) rows ≤ k + 1 - (m + 1) → count_by (λ e. nat_lt f e.0) rows ≤ k - f
        → cond b 1 0 + count_by (λ e. nat_lt f e.0) rows ≤ k - f
    go true e i j = let l : f < m = grind (arith, nat_tests) in let h = u.0 in omega (arith, i, l, h)
    go false e i j = omega (arith, j)

-- ---- rows dropped

all_from : (b n : ℕ) (rows : List Numbered) → AscendFrom n rows → b ≤ n → rows_from b rows ≡ rows
all_from b n [] a h = refl
all_from b n ((m, row) ∷ rows) a h =
    let l = a.0 in
    at_most b m _ _ (omega (arith, l, h)) ∙ ap (λ z. (m, row) ∷ z) (all_from b (m + 1) rows a.1 (omega (arith, l, h)))

pub run_dropped : (first k : ℕ) (rows : List Numbered) → AscendFrom first rows → first + k ≤ first_missing first rows → drop k rows ≡ rows_from (first + k) rows
run_dropped first zero rows a h = sym (all_from (first + 0) first rows a (omega arith))
run_dropped first (suc k) [] a h = refl
run_dropped first (suc k) ((m, row) ∷ rows) a h = go (eqb m first) refl h (run_dropped (first + 1) k rows)
  where
    go : (b : Bool) → eqb m first ≡ b → first + suc k ≤ cond b (first_missing (first + 1) rows) first
        → (AscendFrom (first + 1) rows → first + 1 + k ≤ first_missing (first + 1) rows → drop k rows ≡ rows_from (first + 1 + k) rows)
        → drop k rows ≡ rows_from (first + suc k) ((m, row) ∷ rows)
    go true e i later =
        let same : m ≡ first = grind (arith, nat_tests) in
        let s : first + 1 + k ≡ first + suc k = omega arith in
        later (subst (λ z. AscendFrom (z + 1) rows) same a.1) (omega (arith, i))
        ∙ ap (λ z. rows_from z rows) s
        ∙ sym (not_at_most (first + suc k) m ((m, row) ∷ rows_from (first + suc k) rows) (rows_from (first + suc k) rows) (omega (arith, same)))
    go false e i later = absurd (omega (arith, i))

-- ---- the row in a place

pub entry_past : (rows : List Numbered) (k : ℕ) → length rows ≤ k → entry_at rows k ≡ None
entry_past [] k h = refl
entry_past (e ∷ rows) zero h = absurd (omega arith)
entry_past (e ∷ rows) (suc k) h = entry_past rows k (omega arith)

pub entry_read : (rows : List Numbered) (k : ℕ) (d : Numbered) → k < length rows → entry_at rows k ≡ Some (get_or rows k d)
entry_read [] k d h = absurd (omega arith)
entry_read (e ∷ rows) zero d h = refl
entry_read (e ∷ rows) (suc k) d h = entry_read rows k d (omega arith)

pub same_number : (n : ℕ) (e : Numbered) → e.0 ≡ n → row_with n (Some e) ≡ Some e.1
same_number n e h = let t : eqb e.0 n ≡ true = grind (arith, nat_tests) in ap (λ b. cond b (Some e.1) None) t

pub other_number : (n : ℕ) (e : Numbered) → e.0 ≢ n → row_with n (Some e) ≡ None
other_number n e h = let t : eqb e.0 n ≡ false = grind (arith, nat_tests) in ap (λ b. cond b (Some e.1) None) t
