-- The rows that are kept, when one comes, and when some are dropped.
use Rattle.std.proofs.Common.{◌≡◌, ℕ, zero, suc, ◌-◌, ◌<◌, ◌≤◌, List, [], ◌∷◌, ◌++◌, length, append_assoc, replicate, get_or, true, false, cond, Some, None, Result, Ok, Err, refl, sym, ap, ◌∙◌, arith}
use Rattle.std.specs.Prelude.{slice_get, OnOk, OnErr, nat_le}
use Rattle.std.proofs.lemmas.Bool.Decides.{nat_tests}
use Rattle.std.proofs.lemmas.List.{append-nil}
use Rattle.std.proofs.lemmas.Option.{slice_get_past, slice_get_read}
use Rattle.rp_value.specs.declared.value.Value.{Value}
use Rattle.rp_words.specs.declared.word.End.TheVariants.{Open as OpenEnd}
use Rattle.rp_eval.specs.Dropped.{row_known}
use Rattle.rp_eval.specs.Partition.{Rows, row_at, row_from}
use Rattle.rp_known.specs.Known.{Known}
use Rattle.rp_known.specs.WalkLaws.{Continues}
use Rattle.rp_query.specs.declared.query.QueryData.{QueryData}
use Rattle.rp_walker.specs.declared.walker.Walker.{Walker}
use Rattle.rp_walker.specs.Polls.{left_in, entered_by}
use Rattle.rp_walker.specs.Walking.{record_of}
use Rattle.rp_answer.specs.declared.kept.Kept.{Kept}
use Rattle.rp_answer.specs.Kept.{kept_rows}
use Rattle.rp_answer.specs.MatcherData.{MatcherData}
use Rattle.rp_answer.specs.Matching.{known_by, matcher_by}

behind : (n i : ℕ) (rest : Rows) → n ≤ i → slice_get (replicate n [] ++ rest) i ≡ slice_get rest (i - n)
behind zero i rest h = ap (slice_get rest) (let z : i ≡ i - 0 = omega arith in z)
behind (suc n) zero rest h = absurd (omega (arith, h))
behind (suc n) (suc i) rest h = behind n i rest (omega (arith, h)) ∙ ap (slice_get rest) (let z : i - n ≡ suc i - suc n = omega arith in z)

-- a row that is kept
pub kept_at : (k : Kept) (row : ℕ) → k.first ≤ row → row_at (kept_rows k) row ≡ slice_get k.rows.items (row - k.first)
unfolding kept_rows
kept_at k row h =
    let one = k.from_one in
    row_known (kept_rows k) row (omega (arith, one, h)) ∙ behind (k.first - 1) (row - 1) k.rows.items (omega (arith, one, h)) ∙ ap (slice_get k.rows.items) (let z : row - 1 - (k.first - 1) ≡ row - k.first = omega (arith, one, h) in z)

pub row_kept : (k : Kept) (row : ℕ) → k.first ≤ row → row_from k.first (kept_rows k) row ≡ slice_get k.rows.items (row - k.first)
row_kept k row h = let low : nat_le k.first row ≡ true = grind (arith, nat_tests) in ap (λ b. cond b (row_at (kept_rows k) row) None) low ∙ kept_at k row h

pub row_dropped : (k : Kept) (row : ℕ) → row < k.first → row_from k.first (kept_rows k) row ≡ None
row_dropped k row h = let low : nat_le k.first row ≡ false = grind (arith, nat_tests) in ap (λ b. cond b (row_at (kept_rows k) row) None) low

-- ---- a row comes, or the close

pub same_rows : (k n : Kept) → n.first ≡ k.first → n.rows.items ≡ k.rows.items → kept_rows n ≡ kept_rows k
unfolding kept_rows
same_rows k n f r = ap (λ i. replicate (i - 1) [] ++ n.rows.items) f ∙ ap (λ rs. replicate (k.first - 1) [] ++ rs) r

pub row_added : (k n : Kept) (row : List Value) → n.first ≡ k.first → n.rows.items ≡ k.rows.items ++ row ∷ [] → kept_rows n ≡ kept_rows k ++ row ∷ []
unfolding kept_rows
row_added k n row f r = ap (λ i. replicate (i - 1) [] ++ n.rows.items) f ∙ ap (λ rs. replicate (k.first - 1) [] ++ rs) r ∙ sym (append_assoc (replicate (k.first - 1) []) k.rows.items (row ∷ []))

goes_on_same : (k n : Kept) → k.end ≡ OpenEnd → kept_rows n ≡ kept_rows k → Continues (known_by k) (known_by n)
goes_on_same k n open_before r = record { open_before = open_before; more = []; rows = r ∙ sym (append-nil (kept_rows k)) }

pub pushed_on : {E : Type 0} (k n : Kept) (row : List Value) (r : Result (Unit {0}) E) → k.end ≡ OpenEnd → n.first ≡ k.first →
    OnOk r (n.rows.items ≡ k.rows.items ++ row ∷ []) → OnErr r (n.rows.items ≡ k.rows.items) → Continues (known_by k) (known_by n)
pushed_on k n row (Ok x) o f h i = record { open_before = o; more = row ∷ []; rows = row_added k n row f h }
pushed_on k n row (Err x) o f h i = goes_on_same k n o (same_rows k n f i)

pub closed_on : (k n : Kept) → k.end ≡ OpenEnd → n.first ≡ k.first → n.rows.items ≡ k.rows.items → Continues (known_by k) (known_by n)
closed_on k n o f r = goes_on_same k n o (same_rows k n f r)

pub pushed_rows : {E : Type 0} (k n : Kept) (row : List Value) (r : Result (Unit {0}) E) → n.first ≡ k.first → OnOk r (n.rows.items ≡ k.rows.items ++ row ∷ []) → OnOk r (kept_rows n ≡ kept_rows k ++ row ∷ [])
pushed_rows k n row (Ok x) f h = row_added k n row f h
pushed_rows k n row (Err x) f h = tt

-- where no row came, a matcher is as it was
same_matcher : (q : QueryData) (k n : Kept) (w : Walker) → n.end ≡ k.end → kept_rows n ≡ kept_rows k → matcher_by q n w ≡ matcher_by q k w
same_matcher q k n w e rows =
    let seen = λ (p : Known). the_matcher p in
    ap (λ rs. seen (record { rows = rs; end = n.end })) rows ∙ ap (λ e. seen (record { rows = kept_rows k; end = e })) e
  where
    the_matcher : Known → MatcherData
    the_matcher p = record { query = q; known = p; state = record_of w; left = left_in q p w; entered = entered_by w }

pub refused_matcher : {E : Type 0} (q : QueryData) (k n : Kept) (w : Walker) (r : Result (Unit {0}) E) → n.first ≡ k.first → n.end ≡ k.end → OnErr r (n.rows.items ≡ k.rows.items) → OnErr r (matcher_by q n w ≡ matcher_by q k w)
refused_matcher q k n w (Ok x) f e h = tt
refused_matcher q k n w (Err x) f e h = same_matcher q k n w e (same_rows k n f h)

-- ---- a row by its place

pub there : (k : Kept) (row : ℕ) (x : List Value) → k.first ≤ row → row - k.first < length k.rows.items → x ≡ get_or k.rows.items (row - k.first) x → Some x ≡ row_from k.first (kept_rows k) row
there k row x low high e = sym (row_kept k row low ∙ slice_get_read k.rows.items (length k.rows.items) (row - k.first) x refl high e)

pub not_there : (k : Kept) (row : ℕ) → k.first ≤ row → length k.rows.items ≤ row - k.first → None ≡ row_from k.first (kept_rows k) row
not_there k row low high = sym (row_kept k row low ∙ slice_get_past k.rows.items (row - k.first) high)
