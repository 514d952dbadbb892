-- Rows and a close that are taken again.
use Rattle.std.proofs.Common.{◌≡◌, ℕ, ◌+◌, ◌-◌, ◌<◌, ◌≤◌, Bool, true, false, cond, ◌||◌, List, [], ◌∷◌, ◌++◌, append_assoc, Option, Some, None, Ok, Err, refl, sym, ap, ◌∙◌, subst, arith, eqb}
use Rattle.std.specs.Prelude.{nat_lt, ⊤}
use Rattle.std.specs.List.{list_any}
use Rattle.std.proofs.lemmas.Bool.Decides.{nat_tests}
use Rattle.rp_value.specs.declared.value.Value.{Value}
use Rattle.rp_feed.specs.declared.answer.Taken.TheVariants.{New}
use Rattle.rp_feed.specs.declared.answer.FeedFault.TheVariants.{TooFar, NumberRange, CloseBelow}
use Rattle.rp_feed.specs.Limits.{greatest_number, most_beyond}
use Rattle.rp_feed.specs.Fed.{Fed, Numbered, AscendFrom, AreUpTo, CountsAll, row_at, with_row, with_taken, with_close, first_missing, front_of}
use Rattle.rp_feed.specs.Answers.{row_answer, close_answer, held_answer, compared, has_above}
use Rattle.rp_feed.specs.Again.{is_new, take_all, close_with, close_after, FeedsAreTakenAgain, AgainIsTheSame}
use Rattle.rp_feed.proofs.Answering.{answer_within}
use Rattle.rp_feed.proofs.Ordered.{missing_least}

abbrev so_far : ℕ → List Numbered → Fed
so_far first rows = record { first = first; rows = rows; closed = None }

nil_right : (xs : List Numbered) → xs ++ [] ≡ xs
nil_right [] = refl
nil_right (x ∷ xs) = ap (λ z. x ∷ z) (nil_right xs)

-- ---- a row whose number is above all others is taken at the end

abbrev AreBelow : ℕ → List Numbered → Type 0
AreBelow n [] = ⊤
AreBelow n ((m, row) ∷ rows) = (m < n) × AreBelow n rows

below_wide : (n k : ℕ) (rows : List Numbered) → n ≤ k → AreBelow n rows → AreBelow k rows
below_wide n k [] l b = tt
below_wide n k ((m, row) ∷ rows) l b = let i = b.0 in let j : m < k = omega (arith, i, l) in (j, below_wide n k rows l b.1)

below_more : (n k : ℕ) (row : List Value) (rows : List Numbered) → n < k → AreBelow n rows → AreBelow k (rows ++ (n, row) ∷ [])
below_more n k row [] l b = (l, tt)
below_more n k row ((m, other) ∷ rows) l b = let i = b.0 in let j : m < k = omega (arith, i, l) in (j, below_more n k row rows l b.1)

with_last : (n : ℕ) (row : List Value) (rows : List Numbered) → AreBelow n rows → with_row n row rows ≡ rows ++ (n, row) ∷ []
with_last n row [] b = refl
with_last n row ((m, other) ∷ rows) b =
    let l = b.0 in
    let t : nat_lt n m ≡ false = grind (arith, nat_tests) in
    ap (λ z. cond z ((n, row) ∷ ((m, other) ∷ rows)) ((m, other) ∷ with_row n row rows)) t ∙ ap (λ z. (m, other) ∷ z) (with_last n row rows b.1)

none_at : (n : ℕ) (rows : List Numbered) → AreBelow n rows → row_at rows n ≡ None
none_at n [] b = refl
none_at n ((m, row) ∷ rows) b =
    let l = b.0 in
    let t : eqb m n ≡ false = grind (arith, nat_tests) in
    ap (λ z. cond z (Some row) (row_at rows n)) t ∙ none_at n rows b.1

least_of : (m n : ℕ) (row : List Value) (rows rest : List Numbered) → AscendFrom m (rows ++ (n, row) ∷ rest) → m ≤ n
least_of m n row [] rest a = a.0
least_of m n row ((j, other) ∷ rows) rest a = let i = a.0 in let l = least_of (j + 1) n row rows rest a.1 in omega arith

below_of : (m n : ℕ) (row : List Value) (rows rest : List Numbered) → AscendFrom m (rows ++ (n, row) ∷ rest) → AreBelow n rows
below_of m n row [] rest a = tt
below_of m n row ((j, other) ∷ rows) rest a =
    let l = least_of (j + 1) n row rows rest a.1 in
    let k : j < n = omega (arith, l) in
    (k, below_of (j + 1) n row rows rest a.1)

-- a number that isn't too far above the front of all rows isn't too far above that of the rows before it
near_before : (k m n : ℕ) (row : List Value) (rows rest : List Numbered) → n ≤ first_missing m (rows ++ (n, row) ∷ rest) + k → n ≤ first_missing m rows + k
near_before k m n row [] rest h = go (eqb n m) refl h
  where
    go : (b : Bool) → eqb n m ≡ b → n ≤ cond b (first_missing (m + 1) rest) m + k → n ≤ m + k
    go true e i = let same : n ≡ m = grind (arith, nat_tests) in omega (arith, same)
    go false e i = i
near_before k m n row ((j, other) ∷ rows) rest h = go (eqb j m) (near_before k (m + 1) n row rows rest) h
  where
    go : (b : Bool) → (n ≤ first_missing (m + 1) (rows ++ (n, row) ∷ rest) + k → n ≤ first_missing (m + 1) rows + k)
        → n ≤ cond b (first_missing (m + 1) (rows ++ (n, row) ∷ rest)) m + k → n ≤ cond b (first_missing (m + 1) rows) m + k
    go true later i = later i
    go false later i = i

-- ---- rows are taken again

module _ (same : List Value → List Value → Bool) (first : ℕ) (all : List Numbered) (one : 1 ≤ first) (ascend : AscendFrom first all) where
  due : (n : ℕ) (row : List Value) (rows rest : List Numbered) → rows ++ (n, row) ∷ rest ≡ all → n ≤ greatest_number → n ≤ first_missing first all - 1 + most_beyond
      → row_answer same (so_far first rows) n row ≡ Ok New
  due n row rows rest is range near =
      let a : AscendFrom first (rows ++ (n, row) ∷ rest) = subst (AscendFrom first) (sym is) ascend in
      let low = least_of first n row rows rest a in
      let whole : first_missing first (rows ++ (n, row) ∷ rest) ≡ first_missing first all = ap (first_missing first) is in
      let m = missing_least first rows in
      let k = missing_least first all in
      let before = near_before (most_beyond - 1) first n row rows rest (omega (arith, near, whole, k, one)) in
      let t : nat_lt (front_of (so_far first rows) + most_beyond) n ≡ false = (let f : n ≤ front_of (so_far first rows) + most_beyond = omega (arith, before, m, one) in grind (arith, nat_tests)) in
      answer_within same (so_far first rows) n row (λ zero. absurd (omega (arith, zero, low, one))) range refl low
      ∙ ap (λ o. held_answer (compared same o row) (cond (nat_lt (front_of (so_far first rows) + most_beyond) n) (Err TooFar) (Ok New))) (none_at n rows (below_of first n row rows rest a))
      ∙ ap (λ b. cond b (Err TooFar) (Ok New)) t

  all_again : (rows rest : List Numbered) → rows ++ rest ≡ all → AreUpTo greatest_number rest → AreUpTo (first_missing first all - 1 + most_beyond) rest
      → take_all same (so_far first rows) rest ≡ Some (so_far first all)
  all_again rows [] is range near = ap (λ rs. Some (so_far first rs)) (sym (nil_right rows) ∙ is)
  all_again rows ((n, row) ∷ rest) is range near =
      let a : AscendFrom first (rows ++ (n, row) ∷ rest) = subst (AscendFrom first) (sym is) ascend in
      ap (λ answer. cond (is_new answer) (take_all same (with_taken n row (so_far first rows)) rest) None) (due n row rows rest is range.0 near.0)
      ∙ ap (λ rs. take_all same (so_far first rs) rest) (with_last n row rows (below_of first n row rows rest a))
      ∙ all_again (rows ++ (n, row) ∷ []) rest (append_assoc rows ((n, row) ∷ []) rest ∙ is) range.1 near.1

none_above : (count : ℕ) (rows : List Numbered) → AreUpTo count rows → list_any (λ e. nat_lt count e.0) rows ≡ false
none_above count [] h = refl
none_above count ((m, row) ∷ rows) h =
    let l = h.0 in
    let t : nat_lt count m ≡ false = grind (arith, nat_tests) in
    ap (λ b. b || list_any (λ e. nat_lt count e.0) rows) t ∙ none_above count rows h.1

close_again : (first : ℕ) (rows : List Numbered) (closed : Option ℕ) → CountsAll closed (first_missing first rows - 1) rows
    → close_with closed (so_far first rows) ≡ Some (record { first = first; rows = rows; closed = closed })
close_again first rows None h = refl
close_again first rows (Some count) h =
    let m = missing_least first rows in
    let range = h.0 in
    let reached = h.1 in
    let a : nat_lt greatest_number count ≡ false = grind (arith, nat_tests) in
    let b : nat_lt (count + 1) first ≡ false = (let l : first ≤ count + 1 = omega (arith, m, reached) in grind (arith, nat_tests)) in
    let none : has_above (so_far first rows) count ≡ false = ap (λ z. z || list_any (λ e. nat_lt count e.0) rows) b ∙ none_above count rows h.2 in
    let new : close_answer (so_far first rows) count ≡ Ok New =
    ap (λ z. cond z (Err NumberRange) (cond (has_above (so_far first rows) count) (Err CloseBelow) (Ok New))) a ∙ ap (λ z. cond z (Err CloseBelow) (Ok New)) none in
    ap (λ answer. cond (is_new answer) (Some (with_close count (so_far first rows))) None) new

pub feeds_are_taken_again : FeedsAreTakenAgain
feeds_are_taken_again same fed is =
    ap (close_after fed.closed) (all_again same fed.first fed.rows is.ordered.least is.ordered.ascend [] fed.rows refl is.range is.near)
    ∙ close_again fed.first fed.rows fed.closed is.ended

-- ---- what is held then is the same

all_taken : (same : List Value → List Value → Bool) (n : ℕ) (rest rows : List Numbered) (first : ℕ) (fed : Fed) → AreBelow n rows → AscendFrom n rest → take_all same (so_far first rows) rest ≡ Some fed → fed ≡ so_far first (rows ++ rest)
all_taken same n [] rows first fed b a e = let i : so_far first rows ≡ fed = cc in sym i ∙ ap (so_far first) (sym (nil_right rows))
all_taken same n ((m, row) ∷ rest) rows first fed b a e =
    go (is_new (row_answer same (so_far first rows) m row)) e (below_wide n m rows a.0 b) (λ rows'. all_taken same (m + 1) rest rows' first fed)
  where
    go : (new : Bool) → cond new (take_all same (with_taken m row (so_far first rows)) rest) None ≡ Some fed → AreBelow m rows
        → ((rows' : List Numbered) → AreBelow (m + 1) rows' → AscendFrom (m + 1) rest → take_all same (so_far first rows') rest ≡ Some fed → fed ≡ so_far first (rows' ++ rest))
        → fed ≡ so_far first (rows ++ (m, row) ∷ rest)
    go false h below later = absurd (cc)
    go true h below later =
        later (rows ++ (m, row) ∷ []) (below_more m (m + 1) row rows (omega arith) below) a.1
        (subst (λ (z : List Numbered). take_all same (so_far first z) rest ≡ Some fed) (with_last m row rows below) h)
        ∙ ap (so_far first) (append_assoc rows ((m, row) ∷ []) rest)

closes : (first : ℕ) (rows : List Numbered) (closed : Option ℕ) (before fed : Fed) → before ≡ so_far first rows → close_with closed before ≡ Some fed → fed ≡ record { first = first; rows = rows; closed = closed }
closes first rows None before fed same h = let i : before ≡ fed = cc in sym i ∙ same
closes first rows (Some count) before fed same h = by (is_new (close_answer before count)) h
  where
    by : (b : Bool) → cond b (Some (with_close count before)) None ≡ Some fed → fed ≡ record { first = first; rows = rows; closed = Some count }
    by false k = absurd (cc)
    by true k = let i : with_close count before ≡ fed = cc in sym i ∙ ap (λ (f : Fed). with_close count f) same

pub again_is_the_same : AgainIsTheSame
again_is_the_same same first rows closed fed ascend h = go (take_all same (so_far first []) rows) refl h
  where
    go : (o : Option Fed) → take_all same (so_far first []) rows ≡ o → close_after closed o ≡ Some fed → fed ≡ record { first = first; rows = rows; closed = closed }
    go None t k = absurd (cc)
    go (Some before) t k = closes first rows closed before fed (all_taken same 0 rows [] first before tt ascend t) k
