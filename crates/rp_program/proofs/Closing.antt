-- A loop without a bound, from its opening to its close.
use Rattle.std.proofs.Common.{◌≡◌, ℕ, zero, suc, ◌+◌, ◌<◌, ◌≤◌, List, [], ◌∷◌, ◌++◌, length, take, Bool, true, false, Option, Some, None, refl, sym, ap, ◌∙◌, arith, subst, length-append, append_assoc}
use Rattle.std.specs.Prelude.{nat_eq, slice_set}
use Rattle.std.specs.declared.rc.Rc.{Rc}
use Rattle.std.specs.declared.alloc.Global.{Global}
use Rattle.std.proofs.lemmas.List.{length-set}
use Rattle.std.proofs.Math.Seq.{get_or-append_seam, take-append_seam, set-append_seam}
use Rattle.std.proofs.lemmas.Bool.Decides.{nat_tests}
use Rattle.rp_words.specs.declared.form.Form.{Form}
use Rattle.rp_words.specs.declared.word.End.{End}
use Rattle.rp_words.specs.Turns.{WordsAndTurns}
use Rattle.rp_program.specs.declared.place.Place.{Place}
use Rattle.rp_program.specs.declared.place.Place.TheVariants.{Match, Loop}
use Rattle.rp_program.specs.declared.place.Next.{Next}
use Rattle.rp_program.specs.Parts.{form_part, joined, forked, no_way, Replaces}
use Rattle.rp_program.specs.Places.{at, at_option, made, stands_for, parts}
use Rattle.rp_program.specs.Drafts.{IsOption, Names, place_at, Holds, Grows, LeadsInto, StopsOr, choice, any_number, IsLoop, Pushes, Opens, LeadsBack, Closes}
use Rattle.rp_program.proofs.Expansions.{greedy_unbounded, lazy_unbounded, form_within}
use Rattle.rp_program.proofs.Parts.{replaces_self, replaces_then, replaces_as, later_replaced, same_fork, fork_same}
use Rattle.rp_program.proofs.Places.{parts_stay, parts_seam, parts_swap}
use Rattle.rp_program.proofs.Growth.{grows_then, grows_length, grown_at, makes_nothing}
use Rattle.rp_program.proofs.Loops.{greedy_fork, lazy_fork}
use Rattle.rp_program.proofs.Making.{choice_replaced, choice_stops}

-- ---- the equation of a loop

module _ (body : Form) (x r : Bool) (n : ℕ) (e : End) (g u : WordsAndTurns) (i : ℕ) where
  abbrev p : WordsAndTurns
  p = form_part n e body x

  -- another iteration, past whose rows the loop comes again
  abbrev pub another : WordsAndTurns
  another = joined p (forked i no_way (joined (any_number body x r n e) u))

  pub loop_fork : Replaces i (joined (any_number body x r n e) (forked i g u)) (choice r another g)
  loop_fork = go r
    where
      go : (r : Bool) → Replaces i (joined (any_number body x r n e) (forked i g u)) (choice r (joined (form_part n e body x) (forked i no_way (joined (any_number body x r n e) u))) g)
      go false = let q = form_part n e body x in greedy_fork q (any_number body x false n e) g u i (any_number body x false n e) (greedy_unbounded n q (forked i g u ∷ []) i (form_within n e body x))
      go true = let q = form_part n e body x in lazy_fork q (any_number body x true n e) g u i (any_number body x true n e) (lazy_unbounded n q (forked i g u ∷ []) i (form_within n e body x))

pub loop_same : (body : Form) (x r : Bool) (n : ℕ) (e : End) (u : WordsAndTurns) (i : ℕ) → Replaces i (joined (any_number body x r n e) u) (choice r (another body x r n e u u i) u)
loop_same body x r n e u i =
    replaces_then i (joined (any_number body x r n e) u) (joined (any_number body x r n e) (forked i u u)) (choice r (another body x r n e u u i) u)
    (later_replaced (any_number body x r n e) u (forked i u u) i (λ j le. same_fork i j u))
    (loop_fork body x r n e u u i)

-- ---- places about a loop

seam_skip : (xs : List Place) (x y : Place) (ys : List Place) (q : ℕ) → length xs < q → place_at (xs ++ x ∷ ys) q ≡ place_at (xs ++ y ∷ ys) q
seam_skip [] x y ys zero h = absurd (omega arith)
seam_skip [] x y ys (suc q) h = refl
seam_skip (z ∷ xs) x y ys zero h = absurd (omega arith)
seam_skip (z ∷ xs) x y ys (suc q) h = seam_skip xs x y ys q (omega (arith, h))

length-seam : (xs : List Place) (x : Place) (ys : List Place) → length (xs ++ x ∷ ys) ≡ suc (length xs + length ys)
length-seam xs x ys = omega (arith, length-append xs (x ∷ ys))

one_behind : (xs : List Place) (x : Place) (ys : List Place) → (xs ++ x ∷ []) ++ ys ≡ xs ++ x ∷ ys
one_behind xs x ys = append_assoc xs (x ∷ []) ys

module _ (start more : List Place) (x y : Place) (same : (n : ℕ) (e : End) → stands_for n e (parts n e start) x ≡ stands_for n e (parts n e start) y) where
  abbrev with_x : List Place
  with_x = start ++ x ∷ more

  abbrev with_y : List Place
  with_y = start ++ y ∷ more

  holds_swapped : (q : ℕ) → length start < q → Holds with_x q → Holds with_y q
  holds_swapped q lt h =
      let there = seam_skip start x y more q lt in
      let long : length with_x ≡ length with_y = omega (arith, length-seam start x more, length-seam start y more) in
      record {
        names = subst (λ k. Names k q (place_at with_y q)) long (subst (Names (length with_x) q) there h.names);
        makes = λ n e i.
            subst (λ ps. Replaces i (at ps q) (made n e ps (place_at with_y q))) (parts_swap n e start x y more (same n e))
            (subst (λ z. Replaces i (at (parts n e with_x) q) (made n e (parts n e with_x) z)) there (h.makes n e i));
      }

-- ---- its choices are set

module _ (body : Form) (copy : Rc Form Global) (x r : Bool) (next : Next) (loop place : ℕ) (old : List Place) (copied : copy.value ≡ body) (there : loop < length old) where
  abbrev set_to : ℕ → ℕ → Place
  set_to a b = Loop a b copy x r next.moved

  abbrev was_set : ℕ → ℕ → List Place
  was_set a b = slice_set old loop (set_to a b)

  set_is : (a b : ℕ) (start more : List Place) (open_loop : Place) → old ≡ start ++ open_loop ∷ more → loop ≡ length start → was_set a b ≡ start ++ set_to a b ∷ more
  set_is a b start more open_loop is here =
      ap (λ k. slice_set old k (set_to a b)) here ∙ ap (λ z. slice_set z (length start) (set_to a b)) is ∙ set-append_seam start open_loop more (set_to a b)

  set_loops : (a b : ℕ) → IsLoop body x r next.moved (set_to a b)
  set_loops a b n e ps = ap (λ f. joined (any_number f x r n e) (at ps next.moved)) copied

  pub closes_lazy : r ≡ true → Closes body x r next loop place old (was_set next.moved place)
  closes_lazy lazy = record {
    closed_loop = set_to next.moved place;
    loops = set_loops next.moved place;
    makes = λ n e ps. ap (λ z. choice z (at ps place) (at ps next.moved)) (sym lazy);
    names = λ k a b c. (omega (arith, b, c), a, b);
    is = set_is next.moved place;
    long = length-set old loop (set_to next.moved place);
  }

  pub closes_greedy : r ≡ false → Closes body x r next loop place old (was_set place next.moved)
  closes_greedy greedy = record {
    closed_loop = set_to place next.moved;
    loops = set_loops place next.moved;
    makes = λ n e ps. ap (λ z. choice z (at ps place) (at ps next.moved)) (sym greedy);
    names = λ k a b c. (a, omega (arith, b, c), b);
    is = set_is place next.moved;
    long = length-set old loop (set_to place next.moved);
  }

pub opens : (body : Form) (copy : Rc Form Global) (x r : Bool) (a b next number : ℕ) (old new : List Place) → copy.value ≡ body → Pushes (Loop a b copy x r next) old new number → Opens body x r next old new number
opens body copy x r a b next number old new copied h = record {
  open_loop = Loop a b copy x r next;
  loops = λ n e ps. ap (λ f. joined (any_number f x r n e) (at ps next)) copied;
  pushes = h;
}

-- ---- its close

module _ (body : Form) (x r : Bool) (next : Next) (loop : ℕ) (opt : Option ℕ) (start old : List Place) (back : LeadsBack body x r next loop opt start old) where
  abbrev more : List Place
  more = back.grows.more

  is_old : old ≡ start ++ back.open_loop ∷ more
  is_old = back.grows.is ∙ one_behind start back.open_loop more

  abbrev u : ℕ → End → WordsAndTurns
  u n e = at (parts n e start) next.moved

  abbrev g : ℕ → End → WordsAndTurns
  g n e = at_option (parts n e start) next.unmoved

  loop_at : (n : ℕ) (e : End) → at (parts n e old) loop ≡ joined (any_number body x r n e) (u n e)
  loop_at n e =
      ap (at (parts n e old)) back.number ∙ ap (λ z. at (parts n e z) (length start)) is_old ∙ parts_seam n e start back.open_loop more
      ∙ back.loops n e (parts n e start)

  leads : (n : ℕ) (e : End) (i : ℕ) → Replaces i (another body x r n e (u n e) (u n e) i) (at_option (parts n e old) opt)
  leads n e i = subst (λ z. Replaces i (joined (form_part n e body x) (forked i no_way z)) (at_option (parts n e old) opt)) (loop_at n e) (back.leads n e i)

  -- where no iteration can take a row, there is no loop
  pub no_loop : (new : List Place) (r' : Next) → opt ≡ None → new ≡ take loop old → r' ≡ next → LeadsInto (any_number body x r) next start new r'
  no_loop new r' none is same =
      let is_start : new ≡ start = is ∙ ap (λ k. take k old) back.number ∙ ap (take (length start)) is_old ∙ take-append_seam start (back.open_loop ∷ more) in
      let none_at : (n : ℕ) (e : End) (i : ℕ) → Replaces i (another body x r n e (u n e) (u n e) i) no_way =
      λ n e i. subst (λ z. Replaces i (another body x r n e (u n e) (u n e) i) (at_option (parts n e old) z)) none (leads n e i) in
      subst (λ z. LeadsInto (any_number body x r) next start z r') (sym is_start)
      (subst (LeadsInto (any_number body x r) next start start) (sym same)
      (makes_nothing _ _ start next back.next_within
      (λ n e i. replaces_then i _ (choice r (another body x r n e (g n e) (u n e) i) (g n e)) (g n e) (loop_fork body x r n e (g n e) (u n e) i) (choice_stops r (another body x r n e (g n e) (u n e) i) (g n e) i (none_at n e i)))
      (λ n e i. replaces_then i _ (choice r (another body x r n e (u n e) (u n e) i) (u n e)) (u n e) (loop_same body x r n e (u n e) i) (choice_stops r (another body x r n e (u n e) (u n e) i) (u n e) i (none_at n e i)))))

  module _ (place : ℕ) (some : opt ≡ Some place) (new : List Place) (closes : Closes body x r next loop place old new) where
    is_new : new ≡ start ++ closes.closed_loop ∷ more
    is_new = closes.is start more back.open_loop is_old back.number

    both_loops : (n : ℕ) (e : End) → stands_for n e (parts n e start) back.open_loop ≡ stands_for n e (parts n e start) closes.closed_loop
    both_loops n e = back.loops n e (parts n e start) ∙ sym (closes.loops n e (parts n e start))

    same_parts : (n : ℕ) (e : End) → parts n e old ≡ parts n e new
    same_parts n e = ap (parts n e) is_old ∙ parts_swap n e start back.open_loop closes.closed_loop more (both_loops n e) ∙ ap (parts n e) (sym is_new)

    closed_at : (n : ℕ) (e : End) → at (parts n e new) loop ≡ joined (any_number body x r n e) (u n e)
    closed_at n e = ap (λ ps. at ps loop) (sym (same_parts n e)) ∙ loop_at n e

    long : length new ≡ suc (length start + length more)
    long = ap length is_new ∙ length-seam start closes.closed_loop more

    stays : (n : ℕ) (e : End) (q : ℕ) → q < length start → at (parts n e new) q ≡ at (parts n e start) q
    stays n e q lt = ap (λ z. at (parts n e z) q) is_new ∙ parts_stay n e start (closes.closed_loop ∷ more) q lt

    option_stays : (n : ℕ) (e : End) (q : Option ℕ) → IsOption (length start) q → at_option (parts n e new) q ≡ at_option (parts n e start) q
    option_stays n e None w = refl
    option_stays n e (Some q) w = stays n e q w

    leads_new : (n : ℕ) (e : End) (i : ℕ) → Replaces i (another body x r n e (u n e) (u n e) i) (at (parts n e new) place)
    leads_new n e i =
        subst (λ ps. Replaces i (another body x r n e (u n e) (u n e) i) (at ps place)) (same_parts n e)
        (subst (λ z. Replaces i (another body x r n e (u n e) (u n e) i) (at_option (parts n e old) z)) some (leads n e i))

    closed_holds : Holds new (length start)
    closed_holds =
        let is : place_at new (length start) ≡ closes.closed_loop = ap (λ z. place_at z (length start)) is_new ∙ get_or-append_seam start closes.closed_loop more Match in
        let here : loop ≡ length start = back.number in
        let another_in : place < length new = subst (λ k. place < k) (sym closes.long) (subst (IsOption (length old)) some back.another_within) in
        let next_in : next.moved < loop = subst (λ k. next.moved < k) (sym here) back.next_within.moved in
        record {
          names = subst (Names (length new) (length start)) (sym is) (subst (λ k. Names (length new) k closes.closed_loop) here (closes.names (length new) another_in next_in (omega (arith, long, here))));
          makes = λ n e i.
              subst (λ z. Replaces i z (made n e (parts n e new) (place_at new (length start)))) (sym (ap (at (parts n e new)) (sym here) ∙ closed_at n e))
              (subst (λ z. Replaces i (joined (any_number body x r n e) (u n e)) z)
              (sym (ap (made n e (parts n e new)) is ∙ closes.makes n e (parts n e new) ∙ ap (choice r (at (parts n e new) place)) (stays n e next.moved back.next_within.moved)))
              (replaces_then i (joined (any_number body x r n e) (u n e)) (choice r (another body x r n e (u n e) (u n e) i) (u n e)) (choice r (at (parts n e new) place) (u n e))
              (loop_same body x r n e (u n e) i)
              (choice_replaced r (another body x r n e (u n e) (u n e) i) (u n e) (at (parts n e new) place) (u n e) i (leads_new n e i) (replaces_self i (u n e)))));
        }

    later_holds : (q : ℕ) → length start < q → q < length new → Holds new q
    later_holds q lt less =
        let old_long : length old ≡ suc (length start + length more) = ap length is_old ∙ length-seam start back.open_loop more in
        let opened : length (start ++ back.open_loop ∷ []) ≡ suc (length start) = omega (arith, length-append start (back.open_loop ∷ [])) in
        let held = back.grows.holds q (omega (arith, opened, lt)) (omega (arith, old_long, long, less)) in
        subst (λ z. Holds z q) (sym is_new) (holds_swapped start more back.open_loop closes.closed_loop both_loops q lt (subst (λ z. Holds z q) is_old held))

    pub closed_grows : Grows start new
    closed_grows = record { more = closes.closed_loop ∷ more; is = is_new; holds = λ q le less. go q le less (nat_eq q (length start)) refl }
      where
        go : (q : ℕ) → length start ≤ q → q < length new → (b : Bool) → nat_eq q (length start) ≡ b → Holds new q
        go q le less true is = let here : length start ≡ q = grind (arith, nat_tests) in subst (Holds new) here closed_holds
        go q le less false is = let lt : length start < q = grind (arith, nat_tests) in later_holds q lt less

    loop_in : loop < length new
    loop_in = omega (arith, long, back.number)

    moved : (n : ℕ) (e : End) (i : ℕ) → Replaces i (joined (any_number body x r n e) (u n e)) (at (parts n e new) loop)
    moved n e i = replaces_as i _ (joined (any_number body x r n e) (u n e)) (at (parts n e new) loop) (sym (closed_at n e)) (replaces_self i (joined (any_number body x r n e) (u n e)))

    pub loop_leads_same : (r' : Next) → next.unmoved ≡ Some next.moved → r' ≡ record { unmoved = Some loop; moved = loop } → LeadsInto (any_number body x r) next start new r'
    loop_leads_same r' same is = subst (LeadsInto (any_number body x r) next start new) (sym is) (record {
      grows = closed_grows;
      within = record { unmoved = loop_in; moved = loop_in };
      unmoved = λ n e i.
          replaces_then i _ (joined (any_number body x r n e) (u n e)) (at (parts n e new) loop)
          (later_replaced (any_number body x r n e) (forked i (g n e) (u n e)) (u n e) i (λ j le. subst (λ z. Replaces j (forked i z (u n e)) (u n e)) (sym (ap (at_option (parts n e start)) same)) (back_fork n e i j)))
          (moved n e i);
      moved = moved;
    })
      where
        back_fork : (n : ℕ) (e : End) (i j : ℕ) → Replaces j (forked i (u n e) (u n e)) (u n e)
        back_fork n e i j = fork_same i j (u n e)

    pub loop_leads : (last : List Place) (g' : Option ℕ) → StopsOr r (Some place) next.unmoved new last g' → LeadsInto (any_number body x r) next start last (record { unmoved = g'; moved = loop })
    loop_leads last g' h = record {
      grows = grows_then start new last closed_grows h.grows;
      within = record { unmoved = h.within; moved = omega (arith, loop_in, grows_length new last h.grows) };
      unmoved = λ n e i.
          replaces_then i (joined (any_number body x r n e) (forked i (g n e) (u n e))) (choice r (another body x r n e (g n e) (u n e) i) (g n e)) (at_option (parts n e last) g')
          (loop_fork body x r n e (g n e) (u n e) i)
          (replaces_then i (choice r (another body x r n e (g n e) (u n e) i) (g n e)) (choice r (at (parts n e new) place) (at_option (parts n e new) next.unmoved)) (at_option (parts n e last) g')
          (choice_replaced r (another body x r n e (g n e) (u n e) i) (g n e) (at (parts n e new) place) (at_option (parts n e new) next.unmoved) i (leads_new n e i)
          (replaces_as i (g n e) (g n e) (at_option (parts n e new) next.unmoved) (sym (option_stays n e next.unmoved back.next_within.unmoved)) (replaces_self i (g n e))))
          (h.stands n e i));
      moved = λ n e i. replaces_as i _ (at (parts n e new) loop) (at (parts n e last) loop) (sym (grown_at new last h.grows n e loop loop_in)) (moved n e i);
    }
