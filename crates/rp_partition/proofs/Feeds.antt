-- What is known by a feed goes on when a row or the close is taken, and stays when rows are dropped.
use Rattle.std.proofs.Common.{◌≡◌, ℕ, ◌-◌, ◌<◌, ◌≤◌, List, length, take, Bool, true, false, cond, ◌&&◌, ◌||◌, Option, Some, None, refl, sym, ap, ◌∙◌, arith, eqb}
use Rattle.std.specs.Prelude.{slice_get, is_some, nat_lt}
use Rattle.std.proofs.lemmas.Bool.Decides.{nat_tests}
use Rattle.std.proofs.lemmas.List.{length-take-le}
use Rattle.rp_value.specs.declared.value.Value.{Value}
use Rattle.rp_words.specs.declared.word.End.TheVariants.{Open, Closed}
use Rattle.rp_feed.specs.Fed.{Fed, IsOrdered, IsFront, IsFree, IsReached, front_of, with_taken, with_close, forgotten, row_at as held_at}
use Rattle.rp_feed.specs.Answers.{IsDue, is_past}
use Rattle.rp_eval.specs.Partition.{Rows, row_at}
use Rattle.rp_known.specs.Known.{count}
use Rattle.rp_known.specs.WalkLaws.{GoesOnFrom}
use Rattle.rp_walker.specs.FitLaws.{AgreesFrom}
use Rattle.rp_schedules.specs.Records.{IsOf, end_seen, seen_part}
use Rattle.rp_partition.specs.Feeds.{Feeds}
use Rattle.rp_partition.specs.PartRows.{known_rows, known_count, known_by, end_of, end_at}
use Rattle.rp_partition.proofs.Rows.{known_at, taken_row}

apart : {A : Type 0} {o : Option A} → is_some o ≡ true → o ≡ None → ⊥
apart s n = cc

closed_is : (o : Option ℕ) (f : ℕ) → end_at o f ≡ Closed → o ≡ Some f
closed_is None f h = absurd (cc)
closed_is (Some c) f h = go (eqb c f) refl h
  where
    go : (b : Bool) → eqb c f ≡ b → cond b Closed Open ≡ Closed → Some c ≡ Some f
    go true e t = let s : c ≡ f = grind (arith, nat_tests) in ap Some s
    go false e t = absurd (cc)

same_rows : (fed : Fed) (c : ℕ) → known_rows (with_close c fed) ≡ known_rows fed
unfolding known_rows
same_rows fed c = refl

module _ (laws : Feeds) where
  is_front : (fed : Fed) → IsOrdered fed → IsFront fed (front_of fed)
  is_front fed is = (laws.one fed (front_of fed) is).1 refl

  -- a number that is free is above the front
  free_above : (fed : Fed) (n : ℕ) → IsOrdered fed → IsFree fed n → front_of fed < n
  free_above fed n is free = go (nat_lt (front_of fed) n) refl
    where
      go : (b : Bool) → nat_lt (front_of fed) n ≡ b → front_of fed < n
      go true e = grind (arith, nat_tests)
      go false e =
          let low = free.kept in
          let one = is.least in
          let high : n ≤ front_of fed = grind (arith, nat_tests) in
          let t = (is_front fed is).reached n (omega (arith, low, one)) high in
          let unk : nat_lt n fed.first ≡ false = grind (arith, nat_tests) in
          let none = free.none in
          absurd (not_taken unk none t)
        where
          not_taken : nat_lt n fed.first ≡ false → held_at fed.rows n ≡ None → nat_lt n fed.first || is_some (held_at fed.rows n) ≡ true → ⊥
          not_taken unk none t = cc

  -- ---- a row more

  module _ (fed : Fed) (n : ℕ) (row : List Value) (is : IsOrdered fed) (due : IsDue fed n) where
    abbrev next : Fed
    next = with_taken n row fed

    next_ordered : IsOrdered next
    next_ordered = laws.ordered fed n row is due.free

    not_closed : end_of fed ≡ Closed → ⊥
    not_closed e =
        let c = closed_is fed.closed (front_of fed) e in
        let above = free_above fed n is due.free in
        let w = ap (λ o. is_past o n) (sym c) ∙ due.within in
        grind (arith, nat_tests)

    pub row_goes_on : GoesOnFrom fed.first (known_by fed) (known_by next)
    row_goes_on =
        let g = laws.grows fed n row is due.free in
        let one = is.least in
        record {
          later = (omega (arith, known_count fed one, known_count next one, g), λ e. absurd (not_closed e));
          same = λ k low high.
              (let h : k ≤ front_of fed = omega (arith, high, known_count fed one) in
              known_at next k next_ordered low (omega (arith, h, g)) ∙ laws.added n k row fed.rows due.free.none ∙ other k h ∙ sym (known_at fed k is low h));
        }
      where
        other : (k : ℕ) → k ≤ front_of fed → cond (eqb k n) (Some row) (held_at fed.rows k) ≡ held_at fed.rows k
        other k h =
            let above = free_above fed n is due.free in
            let t : eqb k n ≡ false = grind (arith, nat_tests) in
            ap (λ b. cond b (Some row) (held_at fed.rows k)) t

  -- ---- the close

  pub close_goes_on : (fed : Fed) (c : ℕ) → IsOrdered fed → fed.closed ≡ None → GoesOnFrom fed.first (known_by fed) (known_by (with_close c fed))
  close_goes_on fed c is none = record {
    later = (let e = ap length (same_rows fed c) in omega (arith, e), λ e. absurd (open_before e));
    same = λ k low high. ap (λ rows. row_at rows k) (same_rows fed c);
  }
    where
      open_before : end_of fed ≡ Closed → ⊥
      open_before e = let s = closed_is fed.closed (front_of fed) e in cc

  -- ---- rows are dropped

  module _ (fed : Fed) (h : ℕ) (is : IsOrdered fed) (reached : IsReached fed h) where
    abbrev left : Fed
    left = forgotten h fed

    left_ordered : IsOrdered left
    left_ordered = laws.kept fed h is reached.kept

    same_front : front_of left ≡ front_of fed
    same_front = laws.front_stays fed h is reached

    same_end : end_of left ≡ end_of fed
    same_end = ap (end_at fed.closed) same_front

    same_count : length (known_rows left) ≡ length (known_rows fed)
    same_count = known_count left left_ordered.least ∙ same_front ∙ sym (known_count fed is.least)

    same_row : (k : ℕ) → h ≤ k → k ≤ length (known_rows fed) → row_at (known_rows left) k ≡ row_at (known_rows fed) k
    same_row k low high =
        let f : k ≤ front_of fed = omega (arith, high, known_count fed is.least) in
        let g : k ≤ front_of left = omega (arith, f, same_front) in
        let from = reached.kept in
        known_at left k left_ordered low g ∙ laws.dropped h k fed.rows ∙ kept k low ∙ sym (known_at fed k is (omega (arith, from, low)) f)
      where
        kept : (k : ℕ) → h ≤ k → cond (nat_lt k h) None (held_at fed.rows k) ≡ held_at fed.rows k
        kept k low = let t : nat_lt k h ≡ false = grind (arith, nat_tests) in ap (λ b. cond b None (held_at fed.rows k)) t

    pub drops_agree : AgreesFrom h (known_by fed) (known_by left)
    drops_agree = record {
      on = record { later = (omega (arith, same_count), λ c. (same_count, same_end ∙ c)); same = λ k low high. same_row k low high };
      back = record { later = (omega (arith, same_count), λ c. (sym same_count, sym same_end ∙ c)); same = λ k low high. sym (same_row k low (omega (arith, high, same_count))) };
    }

  -- ---- the feed of a whole partition

  module _ (whole : Rows) (fed : Fed) (of : IsOf whole fed) (within : front_of fed ≤ length whole) where
    ends_alike : end_of fed ≡ end_seen whole fed
    ends_alike = go fed.closed of.count
      where
        go : (o : Option ℕ) → ((c : ℕ) → o ≡ Some c → c ≡ length whole) → end_at o (front_of fed) ≡ cond (is_some o && eqb (front_of fed) (length whole)) Closed Open
        go None count = refl
        go (Some c) count =
            let e : c ≡ length whole = count c refl in
            let t : eqb c (front_of fed) ≡ eqb (front_of fed) (length whole) = grind (arith, nat_tests) in
            ap (λ b. cond b Closed Open) t

    counts_alike : length (known_rows fed) ≡ length (take (front_of fed) whole)
    counts_alike = known_count fed of.ordered.least ∙ sym (length-take-le (front_of fed) whole within)

    held_row : (k : ℕ) (o : Option (List Value)) → held_at fed.rows k ≡ o → fed.first ≤ k → k ≤ front_of fed → slice_get whole (k - 1) ≡ held_at fed.rows k
    held_row k None e low high =
        let one = of.ordered.least in
        let t = (is_front fed of.ordered).reached k (omega (arith, low, one)) high in
        let unk : nat_lt k fed.first ≡ false = grind (arith, nat_tests) in
        absurd (not_taken unk e t)
      where
        not_taken : nat_lt k fed.first ≡ false → held_at fed.rows k ≡ None → nat_lt k fed.first || is_some (held_at fed.rows k) ≡ true → ⊥
        not_taken unk none t = cc
    held_row k (Some row) e low high = of.same k row e ∙ sym e

    rows_alike : (k : ℕ) → fed.first ≤ k → k ≤ front_of fed → row_at (take (front_of fed) whole) k ≡ row_at (known_rows fed) k
    rows_alike k low high =
        let one = of.ordered.least in
        taken_row (front_of fed) k whole (omega (arith, one, low)) high ∙ held_row k (held_at fed.rows k) refl low high ∙ sym (known_at fed k of.ordered low high)

    pub seen_agrees : AgreesFrom fed.first (known_by fed) (seen_part whole fed)
    seen_agrees =
        let n = known_count fed of.ordered.least in
        record {
          on = record { later = (omega (arith, counts_alike), λ c. (sym counts_alike, sym ends_alike ∙ c)); same = λ k low high. rows_alike k low (omega (arith, high, n)) };
          back = record { later = (omega (arith, counts_alike), λ c. (counts_alike, ends_alike ∙ c)); same = λ k low high. sym (rows_alike k low (omega (arith, high, counts_alike, n))) };
        }
