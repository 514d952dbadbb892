-- The rows of a feed up to its front, one by one.
use Rattle.std.proofs.Common.{◌≡◌, ℕ, zero, suc, ◌+◌, ◌-◌, ◌<◌, ◌≤◌, List, [], ◌∷◌, ◌++◌, take, replicate, Bool, true, false, cond, Some, None, refl, sym, ap, ◌∙◌, subst, arith, eqb}
use Rattle.std.specs.Prelude.{slice_get, nat_le}
use Rattle.std.proofs.lemmas.Bool.Decides.{nat_tests}
use Rattle.std.proofs.lemmas.Option.{slice_get_past}
use Rattle.rp_feed.specs.Fed.{Fed, Numbered, AscendFrom, IsOrdered, first_missing, front_of, row_at as held_at}
use Rattle.rp_eval.specs.Dropped.{row_known}
use Rattle.rp_eval.specs.Partition.{Rows, row_at, row_from}
use Rattle.rp_partition.specs.PartRows.{run_from, run_length, known_rows, known_by, known_count, end_of}
use Rattle.rp_known.specs.Known.{Known}
use Rattle.rp_words.specs.declared.word.End.{End}

pub missing_least : (n : ℕ) (rows : List Numbered) → n ≤ first_missing n rows
missing_least n rows = omega (arith, run_length n rows)

run_at : (n i : ℕ) (rows : List Numbered) → AscendFrom n rows → n + i < first_missing n rows → slice_get (run_from n rows) i ≡ held_at rows (n + i)
run_at n i [] a h = absurd (omega (arith, h))
run_at n i ((m, row) ∷ rows) a h = go i (eqb m n) (eqb m (n + i)) refl refl h (λ j. run_at (n + 1) j rows)
  where
    go : (i : ℕ) (b c : Bool) → eqb m n ≡ b → eqb m (n + i) ≡ c → n + i < cond b (first_missing (n + 1) rows) n
        → ((j : ℕ) → AscendFrom (n + 1) rows → n + 1 + j < first_missing (n + 1) rows → slice_get (run_from (n + 1) rows) j ≡ held_at rows (n + 1 + j))
        → slice_get (cond b (row ∷ run_from (n + 1) rows) []) i ≡ cond c (Some row) (held_at rows (n + i))
    go i false c e f l later = absurd (omega (arith, l))
    go zero true true e f l later = refl
    go zero true false e f l later = absurd (grind (arith, nat_tests))
    go (suc j) true true e f l later = absurd (grind (arith, nat_tests))
    go (suc j) true false e f l later =
        let same : m ≡ n = grind (arith, nat_tests) in
        let on : n + 1 + j ≡ n + suc j = omega arith in
        later j (subst (λ z. AscendFrom (z + 1) rows) same a.1) (omega (arith, l)) ∙ ap (held_at rows) on

behind : (n i : ℕ) (rest : Rows) → n ≤ i → slice_get (replicate n [] ++ rest) i ≡ slice_get rest (i - n)
behind zero i rest h = ap (slice_get rest) (let z : i ≡ i - 0 = omega arith in z)
behind (suc n) zero rest h = absurd (omega (arith, h))
behind (suc n) (suc i) rest h = behind n i rest (omega (arith, h)) ∙ ap (slice_get rest) (let z : i - n ≡ suc i - suc n = omega arith in z)

-- a row that isn't dropped, up to the front
pub known_at : (fed : Fed) (row : ℕ) → IsOrdered fed → fed.first ≤ row → row ≤ front_of fed → row_at (known_rows fed) row ≡ held_at fed.rows row
unfolding known_rows
known_at fed row is low high =
    let one = is.least in
    let m = missing_least fed.first fed.rows in
    row_known (known_rows fed) row (omega (arith, one, low)) ∙ behind (fed.first - 1) (row - 1) (run_from fed.first fed.rows) (omega (arith, one, low))
    ∙ ap (slice_get (run_from fed.first fed.rows)) (let z : row - 1 - (fed.first - 1) ≡ row - fed.first = omega (arith, one, low) in z)
    ∙ run_at fed.first (row - fed.first) fed.rows is.ascend (omega (arith, one, low, high, m))
    ∙ ap (held_at fed.rows) (let z : fed.first + (row - fed.first) ≡ row = omega (arith, low) in z)

pub past_front : (fed : Fed) (row : ℕ) → 1 ≤ fed.first → front_of fed < row → row_from fed.first (known_rows fed) row ≡ None
past_front fed row one h = go (nat_le fed.first row)
  where
    none : row_at (known_rows fed) row ≡ None
    none = row_known (known_rows fed) row (omega (arith, h)) ∙ slice_get_past (known_rows fed) (row - 1) (omega (arith, h, known_count fed one))

    go : (b : Bool) → cond b (row_at (known_rows fed) row) None ≡ None
    go true = none
    go false = refl

below_none : (n k : ℕ) (rows : List Numbered) → AscendFrom n rows → k < n → held_at rows k ≡ None
below_none n k [] h l = refl
below_none n k ((m, row) ∷ rows) h l =
    let i = h.0 in
    let t : eqb m k ≡ false = grind (arith, nat_tests) in
    ap (λ b. cond b (Some row) (held_at rows k)) t ∙ below_none (m + 1) k rows h.1 (omega (arith, i, l))

pub up_to_front : (fed : Fed) (row : ℕ) → IsOrdered fed → row ≤ front_of fed → row_from fed.first (known_rows fed) row ≡ held_at fed.rows row
up_to_front fed row is high = go (nat_le fed.first row) refl
  where
    go : (b : Bool) → nat_le fed.first row ≡ b → cond b (row_at (known_rows fed) row) None ≡ held_at fed.rows row
    go true e = known_at fed row is (grind (arith, nat_tests)) high
    go false e = sym (below_none fed.first row fed.rows is.ascend (grind (arith, nat_tests)))

-- ---- the first rows of a whole partition

take_at : {A : Type 0} (n i : ℕ) (xs : List A) → i < n → slice_get (take n xs) i ≡ slice_get xs i
take_at zero i xs h = absurd (omega (arith, h))
take_at (suc n) i [] h = refl
take_at (suc n) zero (x ∷ xs) h = refl
take_at (suc n) (suc i) (x ∷ xs) h = take_at n i xs (omega (arith, h))

pub taken_row : (front row : ℕ) (whole : Rows) → 1 ≤ row → row ≤ front → row_at (take front whole) row ≡ slice_get whole (row - 1)
taken_row front row whole one high = row_known (take front whole) row one ∙ take_at front (row - 1) whole (omega (arith, one, high))

-- the rows that are lent are those that are known by the feed
pub known_alike : (f fed : Fed) (e : End) → f ≡ fed → e ≡ end_of fed → ◌≡◌ {A = Known} (record { rows = known_rows f; end = e }) (known_by fed)
known_alike f fed e same ends = λ i. record { rows = known_rows (same i); end = ends i }
