-- What a feed of these fields answers, and what it becomes.
use Rattle.std.proofs.Common.{◌≡◌, ◌≢◌, ℕ, ◌+◌, ◌-◌, ◌<◌, ◌≤◌, List, [], drop, Bool, true, false, cond, ◌||◌, Option, Some, None, Ok, Err, refl, sym, ap, ◌∙◌, subst, arith, eqb}
use Rattle.std.specs.Prelude.{nat_lt}
use Rattle.std.specs.List.{insert}
use Rattle.std.proofs.lemmas.Bool.Decides.{nat_tests}
use Rattle.rp_value.specs.declared.value.Value.{Value}
use Rattle.rp_feed.specs.declared.answer.Taken.TheVariants.{New, Repeat, Old}
use Rattle.rp_feed.specs.declared.answer.FeedFault.TheVariants.{NumberRange, PastClose, Conflict, TooFar, CloseDiffers, CloseBelow}
use Rattle.rp_feed.specs.Limits.{greatest_number, most_beyond}
use Rattle.rp_feed.specs.Fed.{Fed, Numbered, AreUpTo, CountsAll, IsFeed, IsFree, IsFront, IsReached, row_at, with_row, first_missing, front_of, rows_from}
use Rattle.rp_feed.specs.HeldRows.{above_all, below, entry_at, row_with}
use Rattle.rp_feed.specs.Consistent.{IsConsistent, fed_of}
use Rattle.rp_feed.specs.Answers.{Answer, IsDue, IsDueClose, is_past, held_answer, compared, memory_aside, row_answer, closed_answer, has_above, close_answer}
use Rattle.rp_feed.proofs.Ordered.{front_grows, front_runs, front_stays, missing_least, order_is_kept, order_stays}
use Rattle.rp_feed.proofs.Places.{above_is, above_least, few_above, insert_in_place, missing_most, row_by_place, run_dropped, up_to_kept, up_to_last, up_to_put, up_to_wide}

pub due_held : (is : Bool) (later : Answer) → memory_aside (held_answer (Some is) later) ≡ held_answer (Some is) later
due_held true later = refl
due_held false later = refl

-- a number that is in range, not above the close and not dropped
pub answer_within : (same : List Value → List Value → Bool) (fed : Fed) (n : ℕ) (row : List Value)
    → n ≢ 0 → n ≤ greatest_number → is_past fed.closed n ≡ false → fed.first ≤ n
    → row_answer same fed n row ≡ held_answer (compared same (row_at fed.rows n) row) (cond (nat_lt (front_of fed + most_beyond) n) (Err TooFar) (Ok New))
answer_within same fed n row nonzero small unpast kept =
    let a : eqb n 0 ≡ false = grind (arith, nat_tests) in
    let b : nat_lt greatest_number n ≡ false = grind (arith, nat_tests) in
    let d : nat_lt n fed.first ≡ false = grind (arith, nat_tests) in
    rw (a, b, unpast, d) refl

-- a feed that has just begun
pub begun : (first : ℕ) → 1 ≤ first → first ≤ greatest_number + 1 → IsFeed (fed_of first [] None)
begun first least greatest = record {
  ordered = record { least = least; ascend = tt };
  reached = omega (arith, least);
  limit = omega (arith, least, greatest);
  few = omega arith;
  near = tt;
  range = tt;
  ended = tt;
}

counts_more : (n front front' : ℕ) (row : List Value) (closed : Option ℕ) (first : ℕ) (rows : List Numbered) → is_past closed n ≡ false → first ≤ front + 1 → CountsAll closed front rows
    → front' ≡ first_missing first (with_row n row rows) - 1 → CountsAll closed front' (with_row n row rows)
counts_more n front front' row None first rows unpast reached h e = tt
counts_more n front front' row (Some count) first rows unpast reached h e =
    let l : n ≤ count = grind (arith, nat_tests) in
    let f = h.1 in
    let up = up_to_put count n row rows l h.2 in
    let m = missing_most count first (with_row n row rows) up (omega (arith, reached, f)) in
    let k : front' ≤ count = omega (arith, e, m) in
    (h.0, k, up)

counts_kept : (b front : ℕ) (closed : Option ℕ) (rows : List Numbered) → CountsAll closed front rows → CountsAll closed front (rows_from b rows)
counts_kept b front None rows h = tt
counts_kept b front (Some count) rows h = (h.0, h.1, up_to_kept count b rows h.2)

module _ (first ready : ℕ) (rows : List Numbered) (closed : Option ℕ) (room : IsConsistent first ready rows closed) where
  fed : Fed
  fed = fed_of first rows closed

  pub front-is : first - 1 + ready ≡ front_of (fed_of first rows closed)
  front-is = let r = room.run in let l = room.feed.ordered.least in omega (arith, r, l)

  pub missing_limit : first_missing first rows ≤ greatest_number + 1
  missing_limit = let f = room.feed.limit in omega (arith, f)

  pub run_limit : first + ready ≤ greatest_number + 1
  run_limit = let f = missing_limit in let r = room.run in omega (arith, f, r)

  pub is_front : (n : ℕ) → n ≡ first - 1 + ready → IsFront (fed_of first rows closed) n
  is_front n h = subst (λ z. IsFront (fed_of first rows closed) z) (sym (h ∙ front-is)) (front_runs (fed_of first rows closed) room.feed.ordered)

  pub row-is : (n place : ℕ) → place ≡ below n rows → row_with n (entry_at rows place) ≡ row_at rows n
  row-is n place h = ap (λ z. row_with n (entry_at rows z)) h ∙ row_by_place first n rows room.feed.ordered.ascend

  module _ (same : List Value → List Value → Bool) (n : ℕ) (row : List Value) (place : ℕ) (place-is : place ≡ below n rows) (nonzero : n ≢ 0) (small : n ≤ greatest_number) (unpast : is_past closed n ≡ false) (kept : first ≤ n) where
    answer : compared same (row_with n (entry_at rows place)) row ≡ compared same (row_at rows n) row
    answer = ap (λ z. compared same z row) (row-is n place place-is)

    pub held_row : (is : Bool) (later : Answer) → Some is ≡ compared same (row_with n (entry_at rows place)) row → held_answer (Some is) later ≡ row_answer same (fed_of first rows closed) n row
    held_row is later h =
        ap (λ z. held_answer z (cond (nat_lt (front_of (fed_of first rows closed) + most_beyond) n) (Err TooFar) (Ok New))) (h ∙ answer)
        ∙ sym (answer_within same (fed_of first rows closed) n row nonzero small unpast kept)

    module _ (none : None ≡ compared same (row_with n (entry_at rows place)) row) where
      reduced : cond (nat_lt (front_of (fed_of first rows closed) + most_beyond) n) (Err TooFar) (Ok New) ≡ row_answer same (fed_of first rows closed) n row
      reduced =
          ap (λ z. held_answer z (cond (nat_lt (front_of (fed_of first rows closed) + most_beyond) n) (Err TooFar) (Ok New))) (none ∙ answer)
          ∙ sym (answer_within same (fed_of first rows closed) n row nonzero small unpast kept)

      pub too_far : ready + most_beyond ≤ n - first → Err TooFar ≡ row_answer same (fed_of first rows closed) n row
      too_far h =
          let f = front-is in let l = room.feed.ordered.least in
          let t : nat_lt (front_of (fed_of first rows closed) + most_beyond) n ≡ true = grind (arith, nat_tests) in
          sym (ap (λ z. cond z (Err TooFar) (Ok New)) t) ∙ reduced

      pub new_row : n - first < ready + most_beyond → Ok New ≡ row_answer same (fed_of first rows closed) n row
      new_row h =
          let f = front-is in let l = room.feed.ordered.least in
          let t : nat_lt (front_of (fed_of first rows closed) + most_beyond) n ≡ false = grind (arith, nat_tests) in
          sym (ap (λ z. cond z (Err TooFar) (Ok New)) t) ∙ reduced

      free : IsFree (fed_of first rows closed) n
      free = record { kept = kept; none = go (row_at rows n) (none ∙ answer) }
        where
          go : (o : Option (List Value)) → None ≡ compared same o row → o ≡ None
          go None h = refl
          go (Some q) h = absurd (cc)

      pub row_put : insert rows place (n, row) ≡ with_row n row rows
      row_put = ap (λ z. insert rows z (n, row)) place-is ∙ insert_in_place n row rows free.none

      pub run_at_least : first + ready ≤ first_missing first (with_row n row rows)
      run_at_least =
          let r = room.run in
          let g = front_grows (fed_of first rows closed) n row room.feed.ordered free in
          let l = room.feed.ordered.least in
          let a = missing_least first rows in
          let b = missing_least first (with_row n row rows) in
          omega (arith, r, g, l, a, b)

      range_put : AreUpTo greatest_number (with_row n row rows)
      range_put = up_to_put greatest_number n row rows small room.feed.range

      pub limit_put : first_missing first (with_row n row rows) ≤ greatest_number + 1
      limit_put = missing_most greatest_number first (with_row n row rows) range_put (omega (arith, kept, small))

      feed_put : n - first < ready + most_beyond → IsFeed (fed_of first (with_row n row rows) closed)
      feed_put h =
          let g = front_grows (fed_of first rows closed) n row room.feed.ordered free in
          let ordered = order_stays (fed_of first rows closed) n row room.feed.ordered free in
          let e = front-is in
          let l = room.feed.ordered.least in
          let r = room.feed.reached in
          let m = limit_put in
          let near : AreUpTo (front_of (fed_of first (with_row n row rows) closed) + most_beyond) (with_row n row rows) =
          up_to_wide (front_of (fed_of first rows closed) + most_beyond) (front_of (fed_of first (with_row n row rows) closed) + most_beyond) (with_row n row rows) (omega (arith, g))
          (up_to_put (front_of (fed_of first rows closed) + most_beyond) n row rows (omega (arith, h, e, l)) room.feed.near) in
          let few = few_above (front_of (fed_of first (with_row n row rows) closed)) (front_of (fed_of first (with_row n row rows) closed) + most_beyond) first (with_row n row rows) ordered.ascend near in
          record {
            ordered = ordered;
            reached = omega (arith, r, g);
            limit = omega (arith, m);
            few = omega (arith, few);
            near = near;
            range = range_put;
            ended = counts_more n (front_of (fed_of first rows closed)) (front_of (fed_of first (with_row n row rows) closed)) row closed first rows unpast r room.feed.ended refl;
          }

      pub room_put : (run : ℕ) → first + run ≡ first_missing first (with_row n row rows) → n - first < ready + most_beyond → IsConsistent first run (with_row n row rows) closed
      room_put run e h = record { feed = feed_put h; run = e }

  -- a close
  module _ (count : ℕ) (small : count ≤ greatest_number) (fresh : closed ≡ None) where
    close_reduced : (b : Bool) → nat_lt (count + 1) (above_all first rows) ≡ b → close_answer (fed_of first rows closed) count ≡ cond b (Err CloseBelow) (Ok New)
    close_reduced b h =
        let t : nat_lt greatest_number count ≡ false = grind (arith, nat_tests) in
        rw t (ap (λ o. closed_answer o count (cond (has_above (fed_of first rows closed) count) (Err CloseBelow) (Ok New))) fresh
        ∙ ap (λ z. cond z (Err CloseBelow) (Ok New)) (above_is count first rows room.feed.ordered.ascend ∙ h))

    pub close_below : count + 1 < above_all first rows → Err CloseBelow ≡ close_answer (fed_of first rows closed) count
    close_below h = sym (close_reduced true (grind (arith, nat_tests)))

    module _ (last : above_all first rows ≤ count + 1) where
      pub close_new : Ok New ≡ close_answer (fed_of first rows closed) count
      close_new = sym (close_reduced false (grind (arith, nat_tests)))

      pub room_closed : IsConsistent first ready rows (Some count)
      room_closed =
          let l = above_least first rows room.feed.ordered.ascend in
          let up = up_to_last count first rows room.feed.ordered.ascend last in
          let m = missing_most count first rows up (omega (arith, l, last)) in
          record {
            feed = record {
              ordered = record { least = room.feed.ordered.least; ascend = room.feed.ordered.ascend };
              reached = room.feed.reached;
              limit = room.feed.limit;
              few = room.feed.few;
              near = room.feed.near;
              range = room.feed.range;
              ended = (let k : front_of (fed_of first rows (Some count)) ≤ count = omega (arith, m) in (small, k, up));
            };
            run = room.run;
          }

  -- rows dropped
  module _ (before : ℕ) (kept : first ≤ before) (low : before ≤ front_of (fed_of first rows closed) + 1) where
    pub below_ready : before - first ≤ ready
    below_ready = let f = front-is in let l = room.feed.ordered.least in omega (arith, f, l, low)

    pub rows_left : drop (before - first) rows ≡ rows_from before rows
    rows_left =
        let b = below_ready in
        let r = room.run in
        let e : first + (before - first) ≡ before = omega (arith, kept) in
        run_dropped first (before - first) rows room.feed.ordered.ascend (omega (arith, b, r)) ∙ ap (λ z. rows_from z rows) e

    reached : IsReached (fed_of first rows closed) before
    reached = record { kept = kept; reached = low }

    pub room_left : IsConsistent before (ready - (before - first)) (rows_from before rows) closed
    room_left =
        let same : front_of (fed_of before (rows_from before rows) closed) ≡ front_of (fed_of first rows closed) = front_stays (fed_of first rows closed) before room.feed.ordered reached in
        let ordered = order_is_kept (fed_of first rows closed) before room.feed.ordered kept in
        let near : AreUpTo (front_of (fed_of before (rows_from before rows) closed) + most_beyond) (rows_from before rows) =
        subst (λ z. AreUpTo (z + most_beyond) (rows_from before rows)) (sym same) (up_to_kept (front_of (fed_of first rows closed) + most_beyond) before rows room.feed.near) in
        let few = few_above (front_of (fed_of before (rows_from before rows) closed)) (front_of (fed_of before (rows_from before rows) closed) + most_beyond) before (rows_from before rows) ordered.ascend near in
        let b = below_ready in
        let f = front-is in
        let l = room.feed.ordered.least in
        let limit = room.feed.limit in
        let m = missing_least before (rows_from before rows) in
        record {
          feed = record {
            ordered = ordered;
            reached = omega (arith, same, low);
            limit = omega (arith, same, limit);
            few = omega (arith, few);
            near = near;
            range = up_to_kept greatest_number before rows room.feed.range;
            ended = subst (λ z. CountsAll closed z (rows_from before rows)) (sym same) (counts_kept before (front_of (fed_of first rows closed)) closed rows room.feed.ended);
          };
          run = omega (arith, same, f, b, l, m, kept, low);
        }

    pub kept_all : before ≡ first → fed_of first rows closed ≡ fed_of before (rows_from before rows) closed
    kept_all h =
        let e : before - first ≡ 0 = omega (arith, h) in
        let all : rows_from before rows ≡ rows = sym rows_left ∙ ap (λ z. drop z rows) e in
        ap (λ z. fed_of z rows closed) (sym h) ∙ ap (λ z. fed_of before z closed) (sym all)

-- ---- what New says

pub new_is_due : (same : List Value → List Value → Bool) (fed : Fed) (n : ℕ) (row : List Value) → row_answer same fed n row ≡ Ok New → IsDue fed n
new_is_due same fed n row h = go (eqb n 0) (nat_lt greatest_number n) (is_past fed.closed n) (nat_lt n fed.first) (row_at fed.rows n) (nat_lt (front_of fed + most_beyond) n) refl refl refl refl refl refl h
  where
    go : (a b d e : Bool) (o : Option (List Value)) (f : Bool) → eqb n 0 ≡ a → nat_lt greatest_number n ≡ b → is_past fed.closed n ≡ d → nat_lt n fed.first ≡ e → row_at fed.rows n ≡ o → nat_lt (front_of fed + most_beyond) n ≡ f
        → cond (a || b) (Err NumberRange) (cond d (Err PastClose) (cond e (Ok Old) (held_answer (compared same o row) (cond f (Err TooFar) (Ok New))))) ≡ Ok New → IsDue fed n
    go true b d e o f i j k l m p q = absurd (cc)
    go false true d e o f i j k l m p q = absurd (cc)
    go false false true e o f i j k l m p q = absurd (cc)
    go false false false true o f i j k l m p q = absurd (cc)
    go false false false false (Some r) f i j k l m p q = repeated (same r row) q
      where
        repeated : (b : Bool) → cond b (Ok Repeat) (Err Conflict) ≡ Ok New → IsDue fed n
        repeated true u = absurd (cc)
        repeated false u = absurd (cc)
    go false false false false None true i j k l m p q = absurd (cc)
    go false false false false None false i j k l m p q = record {
      least = grind (arith, nat_tests);
      greatest = grind (arith, nat_tests);
      within = k;
      free = record { kept = grind (arith, nat_tests); none = m };
      near = grind (arith, nat_tests);
    }

pub new_close_is_due : (fed : Fed) (count : ℕ) → close_answer fed count ≡ Ok New → IsDueClose fed count
new_close_is_due fed count h = go (nat_lt greatest_number count) fed.closed (has_above fed count) refl refl refl h
  where
    go : (a : Bool) (o : Option ℕ) (b : Bool) → nat_lt greatest_number count ≡ a → fed.closed ≡ o → has_above fed count ≡ b
        → cond a (Err NumberRange) (closed_answer o count (cond b (Err CloseBelow) (Ok New))) ≡ Ok New → IsDueClose fed count
    go true o b i j k h = absurd (cc)
    go false None true i j k h = absurd (cc)
    go false None false i j k h = record { greatest = grind (arith, nat_tests); unclosed = j; within = k }
    go false (Some c) b i j k h = repeated (eqb c count) h
      where
        repeated : (d : Bool) → cond d (Ok Repeat) (Err CloseDiffers) ≡ Ok New → IsDueClose fed count
        repeated true u = absurd (cc)
        repeated false u = absurd (cc)
