-- Rows with ascending numbers, and their front.
use Rattle.std.proofs.Common.{◌≡◌, ◌≢◌, ℕ, ◌+◌, ◌-◌, ◌≤◌, ◌<◌, Bool, true, false, cond, ◌||◌, List, [], ◌∷◌, Option, Some, None, refl, sym, ap, ◌∙◌, subst, arith, eqb}
use Rattle.std.specs.Prelude.{is_some, nat_lt, nat_le}
use Rattle.std.proofs.lemmas.Bool.Decides.{nat_tests}
use Rattle.rp_value.specs.declared.value.Value.{Value}
use Rattle.rp_feed.specs.Fed.{Fed, Numbered, AscendFrom, IsFront, IsOrdered, row_at, with_row, with_taken, rows_from, first_missing, front_of, is_taken}
use Rattle.rp_feed.specs.FedLaws.{RowIsAdded, RowsAreDropped, TakenIsAdded, TakenStays, OrderStays, OrderIsKept, FrontIsOne, FrontGrows, FrontStays}

abbrev Cells : Type 0
Cells = List Value

-- ---- rows with ascending numbers

equal : {A : Type 0} (m n : ℕ) (x y : A) → m ≡ n → cond (eqb m n) x y ≡ x
equal m n x y h = let t : eqb m n ≡ true = grind (arith, nat_tests) in rw t

pub unequal : {A : Type 0} (m n : ℕ) (x y : A) → m ≢ n → cond (eqb m n) x y ≡ y
unequal m n x y h = let t : eqb m n ≡ false = grind (arith, nat_tests) in rw t

pub row_at-below : (n k : ℕ) (rows : List Numbered) → AscendFrom n rows → k < n → row_at rows k ≡ None
row_at-below n k [] h l = refl
row_at-below n k ((m, row) ∷ rows) h l = let i = h.0 in unequal m k (Some row) (row_at rows k) (omega arith) ∙ row_at-below (m + 1) k rows h.1 (omega arith)

pub missing_least : (n : ℕ) (rows : List Numbered) → n ≤ first_missing n rows
missing_least n [] = omega arith
missing_least n ((m, row) ∷ rows) = go (eqb m n) (missing_least (n + 1) rows)
  where
    go : (b : Bool) → n + 1 ≤ first_missing (n + 1) rows → n ≤ cond b (first_missing (n + 1) rows) n
    go true h = omega arith
    go false h = omega arith

-- every number below the first missing one has a row
missing_reached : (n : ℕ) (rows : List Numbered) → AscendFrom n rows → (k : ℕ) → n ≤ k → k < first_missing n rows → is_some (row_at rows k) ≡ true
missing_reached n [] h k l m = absurd (omega arith)
missing_reached n ((j, row) ∷ rows) h k l m = go (eqb j n) (eqb j k) refl refl m (missing_reached (n + 1) rows)
  where
    go : (b c : Bool) → eqb j n ≡ b → eqb j k ≡ c → k < cond b (first_missing (n + 1) rows) n
        → (AscendFrom (n + 1) rows → (i : ℕ) → n + 1 ≤ i → i < first_missing (n + 1) rows → is_some (row_at rows i) ≡ true)
        → is_some (cond c (Some row) (row_at rows k)) ≡ true
    go false c e f i later = absurd (omega arith)
    go true true e f i later = refl
    go true false e f i later =
        let same : j ≡ n = grind (arith, nat_tests) in
        let other : j ≢ k = grind (arith, nat_tests) in
        later (subst (λ z. AscendFrom (z + 1) rows) same h.1) k (grind arith) i

-- the first missing one has none
missing_none : (n : ℕ) (rows : List Numbered) → AscendFrom n rows → row_at rows (first_missing n rows) ≡ None
missing_none n [] h = refl
missing_none n ((j, row) ∷ rows) h = go (eqb j n) refl (missing_none (n + 1) rows)
  where
    go : (b : Bool) → eqb j n ≡ b → (AscendFrom (n + 1) rows → row_at rows (first_missing (n + 1) rows) ≡ None)
        → cond (eqb j (cond b (first_missing (n + 1) rows) n)) (Some row) (row_at rows (cond b (first_missing (n + 1) rows) n)) ≡ None
    go true e later =
        let same : j ≡ n = grind (arith, nat_tests) in
        let l = missing_least (n + 1) rows in
        unequal j (first_missing (n + 1) rows) (Some row) (row_at rows (first_missing (n + 1) rows)) (omega arith)
        ∙ later (subst (λ z. AscendFrom (z + 1) rows) same h.1)
    go false e later =
        let other : j ≢ n = grind (arith, nat_tests) in
        let l = h.0 in
        unequal j n (Some row) (row_at rows n) other ∙ row_at-below (j + 1) n rows h.1 (omega arith)

swap_eqb : (m n : ℕ) → eqb m n ≡ eqb n m
swap_eqb m n = grind (arith, nat_tests)

pub not_there : (m k : ℕ) (row : Cells) (o : Option Cells) → cond (eqb m k) (Some row) o ≡ None → (m ≢ k) × (o ≡ None)
not_there m k row o h = go (eqb m k) refl h
  where
    go : (b : Bool) → eqb m k ≡ b → cond b (Some row) o ≡ None → (m ≢ k) × (o ≡ None)
    go true e d = absurd (cc)
    go false e d = (grind (arith, nat_tests), d)

-- what a row put in adds
row_put : (k n : ℕ) (row : Cells) (rows : List Numbered) → row_at rows k ≡ None → row_at (with_row k row rows) n ≡ cond (eqb n k) (Some row) (row_at rows n)
row_put k n row [] h = ap (λ b. cond b (Some row) None) (swap_eqb k n)
row_put k n row ((m, other) ∷ rows) h = go (nat_lt k m) (row_put k n row rows (not_there m k other (row_at rows k) h).1)
  where
    last : (b c : Bool) → eqb m n ≡ b → eqb n k ≡ c → row_at (with_row k row rows) n ≡ cond c (Some row) (row_at rows n)
        → cond b (Some other) (row_at (with_row k row rows) n) ≡ cond c (Some row) (cond b (Some other) (row_at rows n))
    last true true e f i = let d = (not_there m k other (row_at rows k) h).0 in absurd (grind (arith, nat_tests))
    last true false e f i = refl
    last false true e f i = i
    last false false e f i = i

    go : (b : Bool) → row_at (with_row k row rows) n ≡ cond (eqb n k) (Some row) (row_at rows n)
        → row_at (cond b ((k, row) ∷ ((m, other) ∷ rows)) ((m, other) ∷ with_row k row rows)) n ≡ cond (eqb n k) (Some row) (cond (eqb m n) (Some other) (row_at rows n))
    go true i = ap (λ b. cond b (Some row) (cond (eqb m n) (Some other) (row_at rows n))) (swap_eqb k n)
    go false i = last (eqb m n) (eqb n k) refl refl i

ascend_put : (k n : ℕ) (row : Cells) (rows : List Numbered) → n ≤ k → AscendFrom n rows → row_at rows k ≡ None → AscendFrom n (with_row k row rows)
ascend_put k n row [] l h e = (l, tt)
ascend_put k n row ((m, other) ∷ rows) l h e = go (nat_lt k m) refl (ascend_put k (m + 1) row rows)
  where
    go : (b : Bool) → nat_lt k m ≡ b → (m + 1 ≤ k → AscendFrom (m + 1) rows → row_at rows k ≡ None → AscendFrom (m + 1) (with_row k row rows))
        → AscendFrom n (cond b ((k, row) ∷ ((m, other) ∷ rows)) ((m, other) ∷ with_row k row rows))
    go true i later = let d : k + 1 ≤ m = grind (arith, nat_tests) in (l, (d, h.1))
    go false i later =
        let d = (not_there m k other (row_at rows k) e).0 in
        let g : m + 1 ≤ k = grind (arith, nat_tests) in
        (h.0, later g h.1 (not_there m k other (row_at rows k) e).1)

-- ---- rows that are dropped

ascend_kept : (b n m : ℕ) (rows : List Numbered) → AscendFrom m rows → n ≤ m → AscendFrom n (rows_from b rows)
ascend_kept b n m [] h k = tt
ascend_kept b n m ((j, row) ∷ rows) h k = go (nat_le b j) (ascend_kept b (j + 1) (j + 1) rows h.1 (omega arith)) (ascend_kept b n (j + 1) rows h.1)
  where
    go : (c : Bool) → AscendFrom (j + 1) (rows_from b rows) → (n ≤ j + 1 → AscendFrom n (rows_from b rows)) → AscendFrom n (cond c ((j, row) ∷ rows_from b rows) (rows_from b rows))
    go true i r = let a = h.0 in let l : n ≤ j = omega arith in (l, i)
    go false i r = let a = h.0 in r (omega arith)

ascend_from : (b m : ℕ) (rows : List Numbered) → AscendFrom m rows → AscendFrom b (rows_from b rows)
ascend_from b m [] h = tt
ascend_from b m ((j, row) ∷ rows) h = go (nat_le b j) refl (ascend_kept b (j + 1) (j + 1) rows h.1 (omega arith)) (ascend_from b (j + 1) rows h.1)
  where
    go : (c : Bool) → nat_le b j ≡ c → AscendFrom (j + 1) (rows_from b rows) → AscendFrom b (rows_from b rows) → AscendFrom b (cond c ((j, row) ∷ rows_from b rows) (rows_from b rows))
    go true e i r = let l : b ≤ j = grind (arith, nat_tests) in (l, i)
    go false e i r = r

row_kept : (b n : ℕ) (rows : List Numbered) → b ≤ n → row_at (rows_from b rows) n ≡ row_at rows n
row_kept b n [] h = refl
row_kept b n ((j, row) ∷ rows) h = go (nat_le b j) refl (row_kept b n rows h)
  where
    go : (c : Bool) → nat_le b j ≡ c → row_at (rows_from b rows) n ≡ row_at rows n → row_at (cond c ((j, row) ∷ rows_from b rows) (rows_from b rows)) n ≡ cond (eqb j n) (Some row) (row_at rows n)
    go true e i = ap (cond (eqb j n) (Some row)) i
    go false e i = let d : j ≢ n = grind (arith, nat_tests) in i ∙ sym (unequal j n (Some row) (row_at rows n) d)

row_dropped : (b n : ℕ) (rows : List Numbered) → n < b → row_at (rows_from b rows) n ≡ None
row_dropped b n [] h = refl
row_dropped b n ((j, row) ∷ rows) h = go (nat_le b j) refl (row_dropped b n rows h)
  where
    go : (c : Bool) → nat_le b j ≡ c → row_at (rows_from b rows) n ≡ None → row_at (cond c ((j, row) ∷ rows_from b rows) (rows_from b rows)) n ≡ None
    go true e i = let d : j ≢ n = grind (arith, nat_tests) in unequal j n (Some row) (row_at (rows_from b rows) n) d ∙ i
    go false e i = i

-- the first missing number is the one that has no row, where all before it have one
missing_is : (n f : ℕ) (rows : List Numbered) → AscendFrom n rows → n ≤ f → row_at rows f ≡ None → ((k : ℕ) → n ≤ k → k < f → is_some (row_at rows k) ≡ true) → first_missing n rows ≡ f
missing_is n f rows a l none all = go (nat_lt f (first_missing n rows)) (nat_lt (first_missing n rows) f) refl refl
  where
    some_none : {A : Type 0} (o : Option A) → o ≡ None → is_some o ≡ true → ⊥
    some_none None e h = cc
    some_none (Some x) e h = cc

    go : (b c : Bool) → nat_lt f (first_missing n rows) ≡ b → nat_lt (first_missing n rows) f ≡ c → first_missing n rows ≡ f
    go true c e g = absurd (some_none (row_at rows f) none (missing_reached n rows a f l (grind (arith, nat_tests))))
    go false true e g =
        let m : first_missing n rows < f = grind (arith, nat_tests) in
        absurd (some_none (row_at rows (first_missing n rows)) (missing_none n rows a) (all (first_missing n rows) (missing_least n rows) m))
    go false false e g = grind (arith, nat_tests)

-- dropping rows leaves the first missing number where it was
missing_forgotten : (n b : ℕ) (rows : List Numbered) → AscendFrom n rows → n ≤ b → b ≤ first_missing n rows → first_missing b (rows_from b rows) ≡ first_missing n rows
missing_forgotten n b rows a l h =
    missing_is b (first_missing n rows) (rows_from b rows) (ascend_from b n rows a) h (row_kept b (first_missing n rows) rows h ∙ missing_none n rows a)
    (λ k i j. ap is_some (row_kept b k rows i) ∙ missing_reached n rows a k (omega (arith, l, i)) j)

-- ---- the laws of rows

pub row_is_added : RowIsAdded
row_is_added n k row rows none = row_put n k row rows none

pub rows_are_dropped : RowsAreDropped
rows_are_dropped n k rows = go (nat_lt k n) refl
  where
    go : (b : Bool) → nat_lt k n ≡ b → row_at (rows_from n rows) k ≡ cond b None (row_at rows k)
    go true e = row_dropped n k rows (grind (arith, nat_tests))
    go false e = row_kept n k rows (grind (arith, nat_tests))

pub taken_is_added : TakenIsAdded
taken_is_added fed n k row none = ap (λ z. nat_lt k fed.first || is_some z) (row_put n k row fed.rows none) ∙ go (eqb k n) (nat_lt k fed.first)
  where
    go : (b c : Bool) → c || is_some (cond b (Some row) (row_at fed.rows k)) ≡ b || (c || is_some (row_at fed.rows k))
    go true true = refl
    go true false = refl
    go false c = refl

pub order_stays : OrderStays
order_stays fed n row ordered free = record {
  least = ordered.least;
  ascend = ascend_put n fed.first row fed.rows free.kept ordered.ascend free.none;
}

pub order_is_kept : OrderIsKept
order_is_kept fed before ordered kept = record {
  least = (let l = ordered.least in omega arith);
  ascend = ascend_from before fed.first fed.rows ordered.ascend;
}

-- ---- the laws of the front

least_missing : (fed : Fed) → IsOrdered fed → front_of fed + 1 ≡ first_missing fed.first fed.rows
least_missing fed ordered = let m = missing_least fed.first fed.rows in let l = ordered.least in omega arith

pub front_runs : (fed : Fed) → IsOrdered fed → IsFront fed (front_of fed)
front_runs fed ordered = record { reached = λ n l h. go n h (nat_lt n fed.first) refl; missing = missing }
  where
    go : (n : ℕ) → n ≤ front_of fed → (b : Bool) → nat_lt n fed.first ≡ b → b || is_some (row_at fed.rows n) ≡ true
    go n h true e = refl
    go n h false e =
        let m = least_missing fed ordered in
        missing_reached fed.first fed.rows ordered.ascend n (grind (arith, nat_tests)) (omega arith)

    missing : is_taken fed (front_of fed + 1) ≡ false
    missing =
        let m = least_missing fed ordered in
        let l = missing_least fed.first fed.rows in
        let t : nat_lt (front_of fed + 1) fed.first ≡ false = grind (arith, nat_tests) in
        let n : row_at fed.rows (front_of fed + 1) ≡ None = ap (row_at fed.rows) m ∙ missing_none fed.first fed.rows ordered.ascend in
        rw (t, n) refl

-- of two fronts none is the greater
one_front : (fed : Fed) (f g : ℕ) → IsFront fed f → IsFront fed g → f ≤ g
one_front fed f g i j = go (nat_le f g) refl
  where
    go : (b : Bool) → nat_le f g ≡ b → f ≤ g
    go true e = grind (arith, nat_tests)
    go false e =
        let l : g + 1 ≤ f = grind (arith, nat_tests) in
        let t : is_taken fed (g + 1) ≡ true = i.reached (g + 1) (omega arith) l in
        let u = j.missing in
        absurd (cc)

pub front_is_one : FrontIsOne
front_is_one fed f ordered = (to, from)
  where
    to : IsFront fed f → front_of fed ≡ f
    to i =
        let a = one_front fed f (front_of fed) i (front_runs fed ordered) in
        let b = one_front fed (front_of fed) f (front_runs fed ordered) i in
        omega arith

    from : front_of fed ≡ f → IsFront fed f
    from e = subst (λ z. IsFront fed z) e (front_runs fed ordered)

-- where more was taken the front is as great at least
front_more : (old new : Fed) → IsOrdered old → IsOrdered new → ((n : ℕ) → is_taken old n ≡ true → is_taken new n ≡ true) → front_of old ≤ front_of new
front_more old new i j more = go (nat_le (front_of old) (front_of new)) refl
  where
    go : (b : Bool) → nat_le (front_of old) (front_of new) ≡ b → front_of old ≤ front_of new
    go true e = grind (arith, nat_tests)
    go false e =
        let l : front_of new + 1 ≤ front_of old = grind (arith, nat_tests) in
        let t : is_taken new (front_of new + 1) ≡ true = more (front_of new + 1) ((front_runs old i).reached (front_of new + 1) (omega arith) l) in
        let u = (front_runs new j).missing in
        absurd (cc)

or_true : (b c : Bool) → c ≡ true → b || c ≡ true
or_true true c h = refl
or_true false c h = h

pub front_grows : FrontGrows
front_grows fed n row ordered free =
    front_more fed (with_taken n row fed) ordered (order_stays fed n row ordered free)
    (λ k h. taken_is_added fed n k row free.none ∙ or_true (eqb k n) (is_taken fed k) h)

pub taken_stays : TakenStays
taken_stays fed before k ordered reach = go (nat_lt k before) refl
  where
    go : (b : Bool) → nat_lt k before ≡ b → b || is_some (row_at (rows_from before fed.rows) k) ≡ is_taken fed k
    go true e =
        let r = reach.reached in
        let l : k ≤ front_of fed = grind (arith, nat_tests) in
        sym (low (nat_lt k fed.first) refl l)
      where
        low : (b : Bool) → nat_lt k fed.first ≡ b → k ≤ front_of fed → b || is_some (row_at fed.rows k) ≡ true
        low true f l = refl
        low false f l =
            let m = least_missing fed ordered in
            missing_reached fed.first fed.rows ordered.ascend k (grind (arith, nat_tests)) (omega arith)
    go false e =
        let r = reach.kept in
        let t : nat_lt k fed.first ≡ false = grind (arith, nat_tests) in
        let s : row_at (rows_from before fed.rows) k ≡ row_at fed.rows k = row_kept before k fed.rows (grind (arith, nat_tests)) in
        rw (t, s) refl

pub front_stays : FrontStays
front_stays fed before ordered reach =
    let m = least_missing fed ordered in
    let r = reach.reached in
    ap (λ z. z - 1) (missing_forgotten fed.first before fed.rows ordered.ascend reach.kept (omega arith))
