-- A matcher whose first rows are dropped.
use Rattle.std.proofs.Common.{◌≡◌, ℕ, zero, suc, ◌+◌, ◌-◌, ◌≤◌, max, [], ◌∷◌, length, drop, Bool, true, false, refl, sym, ap, ◌∙◌, subst, inl, inr, ◌⊎◌, Result, Ok, Err, arith}
use Rattle.std.specs.Prelude.{slice_get, OnErr}
use Rattle.rp_eval.specs.Partition.{Rows, row_at}
use Rattle.rp_query.specs.declared.query.QueryData.{QueryData}
use Rattle.rp_known.specs.Known.{Known, count}
use Rattle.rp_known.specs.WalkLaws.{GoesOnFrom}
use Rattle.rp_known.specs.Plans.{first_read}
use Rattle.rp_walker.specs.declared.poll.Poll.{Poll}
use Rattle.rp_walker.specs.declared.poll.Poll.TheVariants.{Item as ItemPoll, Idle as IdlePoll, Paused as PausedPoll}
use Rattle.rp_walker.specs.declared.record.MatcherState.{MatcherState}
use Rattle.rp_walker.specs.FitLaws.{AgreesFrom}
use Rattle.rp_walker.specs.LeftLaw.{Drops, HoldsNoMore}
use Rattle.rp_walker.specs.Walking.{CanGoOn}
use Rattle.rp_known.specs.Walk.{here}
use Rattle.rp_walker.specs.Polls.{AnswerIs, GoesAlong, moves_by, GivenBy}
use Rattle.rp_walker.specs.Steps.{ended_by}
use Rattle.rp_walker.specs.Records.{fits_by, horizon_of}
use Rattle.rp_answer.specs.declared.kept.Kept.{Kept}
use Rattle.rp_answer.specs.Kept.{kept_rows, kept_count}
use Rattle.rp_answer.specs.Matching.{known_by, PollComesTo}
use Rattle.rp_answer.proofs.Keeping.{kept_at}
use Rattle.rp_answer.proofs.Readiness.{goes_from}

get_drop : (d i : ℕ) (xs : Rows) → slice_get (drop d xs) i ≡ slice_get xs (d + i)
get_drop zero i xs = ap (slice_get xs) (let z : i ≡ 0 + i = omega arith in z)
get_drop (suc d) i [] = refl
get_drop (suc d) i (x ∷ xs) = get_drop d i xs ∙ ap (slice_get (x ∷ xs)) (let z : suc (d + i) ≡ suc d + i = omega arith in z)

module _ (k n : Kept) (low : k.first ≤ n.first) (rows : n.rows.items ≡ drop (n.first - k.first) k.rows.items) (last : n.first + length n.rows.items ≡ k.first + length k.rows.items) (end : n.end ≡ k.end) where
  pub same_count : length (kept_rows n) ≡ length (kept_rows k)
  same_count = omega (arith, kept_count n, kept_count k, last, n.from_one, k.from_one)

  same_row : (row : ℕ) → n.first ≤ row → row_at (kept_rows n) row ≡ row_at (kept_rows k) row
  same_row row h =
      kept_at n row h ∙ ap (λ xs. slice_get xs (row - n.first)) rows ∙ get_drop (n.first - k.first) (row - n.first) k.rows.items
      ∙ ap (slice_get k.rows.items) (let z : n.first - k.first + (row - n.first) ≡ row - k.first = omega (arith, low, h) in z) ∙ sym (kept_at k row (omega (arith, low, h)))

  pub drops_agree : AgreesFrom n.first (known_by k) (known_by n)
  drops_agree =
      record {
        on = record { later = (omega (arith, same_count), λ c. (same_count, end ∙ c)); same = λ row from known. same_row row from };
        back = record { later = (omega (arith, same_count), λ c. (sym same_count, sym end ∙ c)); same = λ row from known. sym (same_row row from) };
      }

  -- the rows below the horizon of a record
  pub drops : (q : QueryData) (r : MatcherState) (horizon : ℕ) → r.first ≡ k.first → horizon ≡ horizon_of q (known_by k) r → n.first ≤ max k.first horizon → horizon ≤ n.first ⊎ (n.rows.items ≡ [])
      → Drops q r n.first (known_by k) (known_by n)
  drops q r horizon first is past all =
      record {
        agree = drops_agree;
        not_past = subst (λ h. n.first ≤ max r.first h) is (subst (λ f. n.first ≤ max f horizon) (sym first) past);
        all = go all;
      }
    where
      go : horizon ≤ n.first ⊎ (n.rows.items ≡ []) → HoldsNoMore q (known_by k) (record r { first = n.first })
      go (inl le) = inl (subst (λ h. h ≤ n.first) is le)
      go (inr none) = inr (omega (arith, kept_count k, last, ap (λ (xs : Rows). length xs) none, k.from_one))

goes_both : (first : ℕ) (p p' p'' : Known) → GoesOnFrom first p p' → GoesOnFrom first p' p'' → GoesOnFrom first p p''
goes_both first p p' p'' g h =
    let x : count p ≤ count p' = g.later.0 in
    let y : count p' ≤ count p'' = h.later.0 in
    record {
      later = (omega (arith, x, y), λ c. (let u = g.later.1 c in let v = h.later.1 u.1 in (v.0 ∙ u.0, v.1)));
      same = λ row from known. h.same row from (omega (arith, x, known)) ∙ g.same row from known;
    }

agrees_on : (first later : ℕ) (k n p : Known) → first ≤ later → AgreesFrom later k n → AgreesFrom first k p → AgreesFrom later n p
agrees_on first later k n p le a b =
    record { on = goes_both later n k p a.back (goes_from first later k p le b.on); back = goes_both later p k n (goes_from first later p k le b.back) a.on }

-- rows that were dropped stay rows of the partition, from the record's first row on
pub still_agree : (k n : Kept) (old r new : MatcherState) → old.first ≡ k.first → new ≡ record r { first = n.first } → k.first ≤ n.first → AgreesFrom n.first (known_by k) (known_by n) →
    (p : Known) → AgreesFrom old.first (known_by k) p → AgreesFrom new.first (known_by n) p
still_agree k n old r new was is le agrees p are =
    let now : new.first ≡ n.first = ap (λ (x : MatcherState). x.first) is in
    subst (λ i. AgreesFrom i (known_by n) p) (sym now) (agrees_on k.first n.first (known_by k) (known_by n) p le agrees (subst (λ i. AgreesFrom i (known_by k) p) was are))

-- ---- what is answered

fits_dropped : (q : QueryData) (r : MatcherState) (f : ℕ) (p : Known) (b : Bool) → (b ≡ false → f ≤ first_read q r.at) → fits_by b q r p → fits_by b q (record r { first = f }) p
fits_dropped q r f p true needed h = record { front = h.front; last = h.last; is = h.is; ends = h.ends; counted = h.counted }
fits_dropped q r f p false needed h = record { before = h.before; comes = h.comes; counted = h.counted; within = h.within; kept = needed refl }

answer_dropped : (q : QueryData) (p : Known) (old r : MatcherState) (f : ℕ) (answer : Poll) → AnswerIs q p old r answer → AnswerIs q p old (record r { first = f }) answer
answer_dropped q p old r f (ItemPoll i x) h = h
answer_dropped q p old r f IdlePoll h = h
answer_dropped q p old r f PausedPoll h = h

given_dropped : (old r : MatcherState) (f : ℕ) (answer : Poll) → GivenBy old r answer → GivenBy old (record r { first = f }) answer
given_dropped old r f (ItemPoll i x) h = h
given_dropped old r f IdlePoll h = h
given_dropped old r f PausedPoll h = h

ended_dropped : (b : Bool) (q : QueryData) (p : Known) (r : MatcherState) (f : ℕ) → ended_by b q p r → ended_by b q p (record r { first = f })
ended_dropped true q p r f h = record { ends = h.ends; all = h.all }
ended_dropped false q p r f h = tt

moves_dropped : (b : Bool) (q : QueryData) (p : Known) (old r : MatcherState) (f : ℕ) → moves_by b q p old r → moves_by b q p old (record r { first = f })
moves_dropped true q p old r f h = ap (λ (x : MatcherState). record x { first = f }) h
moves_dropped false q p old r f h =
    record { before = h.before; comes = h.comes; counted = h.counted; within = h.within; ended = ended_dropped r.over q p r f h.ended }

-- a record whose first row alone was changed, and that can still go on
module _ (q : QueryData) (k : Known) (old r new : MatcherState) (f : ℕ) (is : new ≡ record r { first = f }) (can : CanGoOn q new) where
  needed_before : r.over ≡ false → f ≤ first_read q r.at
  needed_before going = ((subst (CanGoOn q) is can).going going).2

  pub along_dropped : GoesAlong q k old r → GoesAlong q k old new
  along_dropped h =
      subst (λ n. GoesAlong q k old n) (sym is) (λ p are fits. (let a = h p are fits in (fits_dropped q r f p r.over needed_before a.0, moves_dropped old.over q p old r f a.1)))

  pub comes_dropped : (answer : Poll) → PollComesTo q k old r answer → PollComesTo q k old new answer
  comes_dropped answer h =
      subst (λ n. PollComesTo q k old n answer) (sym is) (record {
        answers = λ p are fits. (let a = h.answers p are fits in (fits_dropped q r f p r.over needed_before a.0, answer_dropped q p old r f answer a.1));
        given = given_dropped old r f answer h.given;
        stops = h.stops;
      })

-- a record that stays moves along the walk by nothing
stays_by : (b : Bool) (q : QueryData) (r : MatcherState) (p : Known) → r.over ≡ b → fits_by b q r p → moves_by b q p r r
stays_by true q r p over h = refl
stays_by false q r p going h = record { before = 0; comes = here; counted = omega arith; within = h.within; ended = subst (λ b. ended_by b q p r) (sym going) tt }

pub stays_along : (q : QueryData) (k : Known) (r : MatcherState) → GoesAlong q k r r
stays_along q k r p are fits = (fits, stays_by r.over q r p refl fits)

pub on_err_of : {A E : Type 0} (P : Type 0) (r : Result A E) → P → OnErr r P
on_err_of P (Ok x) h = tt
on_err_of P (Err e) h = h
