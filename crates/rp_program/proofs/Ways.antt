-- The orders of variables before what follows them, by which variable is mapped first.
use Rattle.std.proofs.Common.{◌≡◌, ℕ, suc, ◌+◌, ◌-◌, ◌<◌, ◌≤◌, List, [], ◌∷◌, ◌++◌, map, length, Bool, true, false, cond, refl, sym, ap, ◌∙◌, arith, subst}
use Rattle.std.specs.Prelude.{sum_by, nat_le}
use Rattle.std.specs.List.{flat_map, AllByRecursion}
use Rattle.std.proofs.lemmas.Grind.{flat_map-append}
use Rattle.std.proofs.lemmas.List.{map-append}
use Rattle.std.proofs.lemmas.List.Sums.{sum_by-append, sum_by-cons}
use Rattle.std.proofs.lemmas.Bool.Decides.{nat_tests}
use Rattle.rp_words.specs.declared.form.Form.TheVariants as V
use Rattle.rp_words.specs.declared.word.End.{End}
use Rattle.rp_words.specs.declared.word.End.TheVariants.{Open as OpenEnd, Closed as ClosedEnd}
use Rattle.rp_words.specs.declared.word.Label.{Label}
use Rattle.rp_words.specs.Mapping.{Open, preceded}
use Rattle.rp_words.specs.Permutations.{factorial}
use Rattle.rp_words.specs.Words.{followed, led, orders, picks, sequence}
use Rattle.rp_words.specs.Turns.{WordsAndTurns, turns_after, chain_turns, words_of, orders_from}
use Rattle.rp_words.proofs.Algebra.{append_nil, concatenation_nothing_first}
use Rattle.rp_words.proofs.Arrangements.{orders-map}
use Rattle.rp_words.proofs.OrdersAt.{length-orders, length-picks, factorial_positive}
use Rattle.rp_program.specs.Parts.{form_part, joined, either, chained, open_words, may_begin, Replaces}
use Rattle.rp_program.specs.Places.{at}
use Rattle.rp_program.specs.Sets.{variable_parts, one_way, any_way}
use Rattle.rp_program.proofs.Expansions.{variable_row, variable_open, variable_closed, variable_turns}
use Rattle.rp_program.proofs.Steps.{joined_assoc}
use Rattle.rp_program.proofs.Picking.{Picked, picked_long, Begins, orders_led, orders_begin}

module _ (n : ℕ) (e : End) (x : Bool) where
  abbrev row : ℕ → WordsAndTurns
  row v = form_part n e (V.Variable v) x

  abbrev label : ℕ → Label
  label v = record { var = v; excluded = x }

  -- ---- one row, before what follows it

  known_words : (v : ℕ) (q : WordsAndTurns) (i : ℕ) → i ≤ n → (joined (row v) q).0 i ≡ map (preceded (label v ∷ [])) (q.0 (i + 1))
  known_words v q i le = ap (flat_map (followed q.0 i)) (variable_row n e x v i le) ∙ append_nil (map (preceded (label v ∷ [])) (q.0 (i + 1)))

  known_turns : (v : ℕ) (q : WordsAndTurns) (i : ℕ) → i ≤ n → (joined (row v) q).1 i ≡ 1 + q.1 (i + 1)
  known_turns v q i le = let w = ap (sum_by (turns_after q.1 i)) (variable_row n e x v i le) in omega (arith, w, variable_turns n e x v i)

  unknown_open : (v : ℕ) (q : WordsAndTurns) (i : ℕ) → n < i → e ≡ OpenEnd → (joined (row v) q).0 i ≡ Open [] ∷ []
  unknown_open v q i past is = ap (flat_map (followed q.0 i)) (variable_open n e x v i past is)

  unknown_closed : (v : ℕ) (q : WordsAndTurns) (i : ℕ) → n < i → e ≡ ClosedEnd → (joined (row v) q).0 i ≡ []
  unknown_closed v q i past is = ap (flat_map (followed q.0 i)) (variable_closed n e x v i past is)

  unknown_turns : (v : ℕ) (q : WordsAndTurns) (i : ℕ) → n < i → (joined (row v) q).1 i ≡ 1
  unknown_turns v q i past = go e refl
    where
      go : (d : End) → e ≡ d → (joined (row v) q).1 i ≡ 1
      go OpenEnd is = let w = ap (sum_by (turns_after q.1 i)) (variable_open n e x v i past is) in omega (arith, w, variable_turns n e x v i)
      go ClosedEnd is = let w = ap (sum_by (turns_after q.1 i)) (variable_closed n e x v i past is) in omega (arith, w, variable_turns n e x v i)

  module _ (later : WordsAndTurns) where
    -- an order of variables, and then what follows
    abbrev order : List ℕ → WordsAndTurns
    order o = joined (chained (variable_parts n e o x)) later

    -- any of these orders
    abbrev pub any_order : List (List ℕ) → WordsAndTurns
    any_order os = (λ i. flat_map (λ o. (order o).0 i) os, λ i. sum_by (λ o. 1 + (order o).1 i) os)

    -- it has the words of all orders of a set, and takes fewer turns
    pub record StandsFor (p : WordsAndTurns) (ys : List ℕ) (i : ℕ) : Type 0 where
      pub words : p.0 i ≡ (any_order (orders ys)).0 i
      pub turns : p.1 i < (any_order (orders ys)).1 i

    -- ---- all orders, as they are said of a PERMUTE

    mapped_words : (os : List (List ℕ)) (i : ℕ) → flat_map (followed later.0 i) (flat_map (λ o. sequence (map words_of o) i) (map (λ o. variable_parts n e o x) os)) ≡ (any_order os).0 i
    mapped_words [] i = refl
    mapped_words (o ∷ os) i =
        flat_map-append (followed later.0 i) (sequence (map words_of (variable_parts n e o x)) i) (flat_map (λ o. sequence (map words_of o) i) (map (λ o. variable_parts n e o x) os))
        ∙ ap (λ z. (order o).0 i ++ z) (mapped_words os i)

    mapped_turns : (os : List (List ℕ)) (i : ℕ) →
        sum_by (λ o. 1 + chain_turns o i) (map (λ o. variable_parts n e o x) os) + sum_by (turns_after later.1 i) (flat_map (λ o. sequence (map words_of o) i) (map (λ o. variable_parts n e o x) os)) ≡ (any_order os).1 i
    mapped_turns [] i = omega arith
    mapped_turns (o ∷ os) i =
        let ps = variable_parts n e o x in
        let rest = map (λ o. variable_parts n e o x) os in
        let a = sum_by-cons (λ o. 1 + chain_turns o i) ps rest in
        let b = sum_by-append (turns_after later.1 i) (sequence (map words_of ps) i) (flat_map (λ o. sequence (map words_of o) i) rest) in
        let c = sum_by-cons (λ o. 1 + (order o).1 i) o os in
        omega (arith, a, b, c, mapped_turns os i)

    pub set_replaces : (p : WordsAndTurns) (ys : List ℕ) (i : ℕ) → StandsFor p ys i → Replaces i (joined (orders_from 0 (variable_parts n e ys x)) later) p
    set_replaces p ys i h =
        let same : orders (variable_parts n e ys x) ≡ map (λ o. variable_parts n e o x) (orders ys) = orders-map row ys in
        let w : (joined (orders_from 0 (variable_parts n e ys x)) later).0 i ≡ (any_order (orders ys)).0 i =
        ap (λ z. flat_map (followed later.0 i) (flat_map (λ o. sequence (map words_of o) i) z)) same ∙ mapped_words (orders ys) i in
        let t : (joined (orders_from 0 (variable_parts n e ys x)) later).1 i ≡ (any_order (orders ys)).1 i =
        ap (λ z. sum_by (λ o. 1 + chain_turns o i) z + sum_by (turns_after later.1 i) (flat_map (λ o. sequence (map words_of o) i) z)) same ∙ mapped_turns (orders ys) i in
        record { words = h.words ∙ sym w; turns = omega (arith, h.turns, t) }

    -- what follows stands for the set of no variable
    pub none_stands : (i : ℕ) → StandsFor later [] i
    none_stands i = record {
      words = sym (append_nil ((order []).0 i) ∙ concatenation_nothing_first later.0 i);
      turns = let here : i + 0 ≡ i = omega arith in omega (arith, ap later.1 here);
    }

    -- ---- from a known row

    module _ (i : ℕ) (le : i ≤ n) where
      first_words : (v : ℕ) (o : List ℕ) → (order (v ∷ o)).0 i ≡ map (preceded (label v ∷ [])) ((order o).0 (i + 1))
      first_words v o = sym (joined_assoc (row v) (chained (variable_parts n e o x)) later i).words ∙ known_words v (order o) i le

      first_turns : (v : ℕ) (o : List ℕ) → 1 + (order o).1 (i + 1) ≤ (order (v ∷ o)).1 i
      first_turns v o = let a = (joined_assoc (row v) (chained (variable_parts n e o x)) later i).turns in omega (arith, a, known_turns v (order o) i le)

      led_words : (v : ℕ) (os : List (List ℕ)) → (any_order (map (λ o. v ∷ o) os)).0 i ≡ map (preceded (label v ∷ [])) ((any_order os).0 (i + 1))
      led_words v [] = refl
      led_words v (o ∷ os) =
          ap (λ z. z ++ (any_order (map (λ o. v ∷ o) os)).0 i) (first_words v o) ∙ ap (λ z. map (preceded (label v ∷ [])) ((order o).0 (i + 1)) ++ z) (led_words v os)
          ∙ sym (map-append (preceded (label v ∷ [])) ((order o).0 (i + 1)) ((any_order os).0 (i + 1)))

      led_turns : (v : ℕ) (os : List (List ℕ)) → (any_order os).1 (i + 1) + length os ≤ (any_order (map (λ o. v ∷ o) os)).1 i
      led_turns v [] = omega arith
      led_turns v (o ∷ os) =
          let a = sum_by-cons (λ o. 1 + (order o).1 (i + 1)) o os in
          let b = sum_by-cons (λ o. 1 + (order o).1 i) (v ∷ o) (map (λ o. v ∷ o) os) in
          omega (arith, a, b, first_turns v o, led_turns v os)

      module _ (ps : List WordsAndTurns) (others : ℕ) where
        abbrev Leads : ℕ → List ℕ → Type 0
        Leads q ys = (j : ℕ) → StandsFor (at ps q) ys j

        way_words : (w : ℕ × ℕ) (p : ℕ × List ℕ) → w.0 ≡ p.0 → Leads w.1 p.1 → (one_way n e ps x w).0 i ≡ (any_order (led orders p)).0 i
        way_words w p is h =
            known_words w.0 (at ps w.1) i le ∙ ap (map (preceded (label w.0 ∷ []))) (h (i + 1)).words
            ∙ ap (λ v. map (preceded (label v ∷ [])) ((any_order (orders p.1)).0 (i + 1))) is ∙ sym (led_words p.0 (orders p.1))

        way_turns : (w : ℕ × ℕ) (p : ℕ × List ℕ) → Leads w.1 p.1 → (one_way n e ps x w).1 i < (any_order (led orders p)).1 i
        way_turns w p h =
            omega (arith, known_turns w.0 (at ps w.1) i le, (h (i + 1)).turns, led_turns p.0 (orders p.1), length-orders p.1, factorial_positive (length p.1))

        known_from : {A : Type 0} (x y : A) (b : Bool) → nat_le i n ≡ b → cond b x y ≡ x
        known_from x y true k = refl
        known_from x y false k = absurd (grind (arith, nat_tests))

        ways_words : (w : ℕ × ℕ) (ws : List (ℕ × ℕ)) (p : ℕ × List ℕ) (qs : List (ℕ × List ℕ)) → Picked Leads (w ∷ ws) (p ∷ qs) →
            (any_way n e ps x others (w ∷ ws)).0 i ≡ (any_order (flat_map (led orders) (p ∷ qs))).0 i
        ways_words w [] p [] h = way_words w p h.0.0 h.0.1 ∙ ap (λ z. (any_order z).0 i) (sym (append_nil (led orders p)))
        ways_words w [] p (q ∷ qs) h = absurd h.1
        ways_words w (v ∷ ws) p [] h = absurd h.1
        ways_words w (v ∷ ws) p (q ∷ qs) h =
            let first = one_way n e ps x w in
            let second = any_way n e ps x others (v ∷ ws) in
            known_from ((either first second).0 i) (may_begin e others) (nat_le i n) refl
            ∙ ap (λ z. z ++ second.0 i) (way_words w p h.0.0 h.0.1) ∙ ap (λ z. (any_order (led orders p)).0 i ++ z) (ways_words v ws q qs h.1)
            ∙ sym (flat_map-append (λ o. (order o).0 i) (led orders p) (flat_map (led orders) (q ∷ qs)))

        ways_turns : (w : ℕ × ℕ) (ws : List (ℕ × ℕ)) (p : ℕ × List ℕ) (qs : List (ℕ × List ℕ)) → Picked Leads (w ∷ ws) (p ∷ qs) →
            (any_way n e ps x others (w ∷ ws)).1 i < (any_order (flat_map (led orders) (p ∷ qs))).1 i
        ways_turns w [] p [] h = subst (λ z. (one_way n e ps x w).1 i < (any_order z).1 i) (sym (append_nil (led orders p))) (way_turns w p h.0.1)
        ways_turns w [] p (q ∷ qs) h = absurd h.1
        ways_turns w (v ∷ ws) p [] h = absurd h.1
        ways_turns w (v ∷ ws) p (q ∷ qs) h =
            let first = one_way n e ps x w in
            let second = any_way n e ps x others (v ∷ ws) in
            let t = known_from ((either first second).1 i) 1 (nat_le i n) refl in
            let a = way_turns w p h.0.1 in
            let b = ways_turns v ws q qs h.1 in
            let c = sum_by-append (λ o. 1 + (order o).1 i) (led orders p) (flat_map (led orders) (q ∷ qs)) in
            omega (arith, t, a, b, c)

    -- ---- past the last known row

    module _ (i : ℕ) (past : n < i) where
      open_orders : e ≡ OpenEnd → (os : List (List ℕ)) → AllByRecursion Begins os → (any_order os).0 i ≡ open_words (length os)
      open_orders is [] a = refl
      open_orders is ([] ∷ os) a = absurd a.0
      open_orders is ((v ∷ o) ∷ os) a =
          let here : (order (v ∷ o)).0 i ≡ Open [] ∷ [] = sym (joined_assoc (row v) (chained (variable_parts n e o x)) later i).words ∙ unknown_open v (order o) i past is in
          ap (λ z. z ++ (any_order os).0 i) here ∙ ap (λ z. Open [] ∷ z) (open_orders is os a.1)

      closed_orders : e ≡ ClosedEnd → (os : List (List ℕ)) → AllByRecursion Begins os → (any_order os).0 i ≡ []
      closed_orders is [] a = refl
      closed_orders is ([] ∷ os) a = absurd a.0
      closed_orders is ((v ∷ o) ∷ os) a =
          let here : (order (v ∷ o)).0 i ≡ [] = sym (joined_assoc (row v) (chained (variable_parts n e o x)) later i).words ∙ unknown_closed v (order o) i past is in
          ap (λ z. z ++ (any_order os).0 i) here ∙ closed_orders is os a.1

      orders_turns : (os : List (List ℕ)) → AllByRecursion Begins os → length os + length os ≤ (any_order os).1 i
      orders_turns [] a = omega arith
      orders_turns ([] ∷ os) a = absurd a.0
      orders_turns ((v ∷ o) ∷ os) a =
          let here = (joined_assoc (row v) (chained (variable_parts n e o x)) later i).turns in
          let c = sum_by-cons (λ o. 1 + (order o).1 i) (v ∷ o) os in
          omega (arith, c, here, unknown_turns v (order o) i past, orders_turns os a.1)

      module _ (ps : List WordsAndTurns) (others : ℕ) where
        unknown_from : {A : Type 0} (x y : A) (b : Bool) → nat_le i n ≡ b → cond b x y ≡ y
        unknown_from x y true k = absurd (grind (arith, nat_tests))
        unknown_from x y false k = refl

        past_words : (w : ℕ × ℕ) (ws : List (ℕ × ℕ)) (os : List (List ℕ)) → AllByRecursion Begins os → length os ≡ suc others → (length ws ≡ 0 → others ≡ 0) →
            (any_way n e ps x others (w ∷ ws)).0 i ≡ (any_order os).0 i
        past_words w [] os a long one = go e refl
          where
            go : (d : End) → e ≡ d → (any_way n e ps x others (w ∷ [])).0 i ≡ (any_order os).0 i
            go OpenEnd is = unknown_open w.0 (at ps w.1) i past is ∙ ap open_words (sym (long ∙ ap suc (one refl))) ∙ sym (open_orders is os a)
            go ClosedEnd is = unknown_closed w.0 (at ps w.1) i past is ∙ sym (closed_orders is os a)
        past_words w (v ∷ ws) os a long one =
            unknown_from ((either (one_way n e ps x w) (any_way n e ps x others (v ∷ ws))).0 i) (may_begin e others) (nat_le i n) refl ∙ go e refl
          where
            go : (d : End) → e ≡ d → may_begin e others ≡ (any_order os).0 i
            go OpenEnd is = ap (λ d. may_begin d others) is ∙ ap open_words (sym long) ∙ sym (open_orders is os a)
            go ClosedEnd is = ap (λ d. may_begin d others) is ∙ sym (closed_orders is os a)

        past_turns : (w : ℕ × ℕ) (ws : List (ℕ × ℕ)) → (any_way n e ps x others (w ∷ ws)).1 i ≡ 1
        past_turns w [] = unknown_turns w.0 (at ps w.1) i past
        past_turns w (v ∷ ws) = unknown_from ((either (one_way n e ps x w) (any_way n e ps x others (v ∷ ws))).1 i) 1 (nat_le i n) refl

    -- ---- the ways of a set

    abbrev pub LeadsTo : List WordsAndTurns → ℕ → List ℕ → Type 0
    LeadsTo ps q ys = (j : ℕ) → StandsFor (at ps q) ys j

    module _ (ps : List WordsAndTurns) (w : ℕ × ℕ) (ws : List (ℕ × ℕ)) (y : ℕ) (ys : List ℕ) (h : Picked (LeadsTo ps) (w ∷ ws) (picks (y ∷ ys))) (i : ℕ) where
      abbrev others : ℕ
      others = factorial (length (y ∷ ys)) - 1

      long : length (orders (y ∷ ys)) ≡ suc others
      long = omega (arith, length-orders (y ∷ ys), factorial_positive (length (y ∷ ys)))

      alone : length ws ≡ 0 → others ≡ 0
      alone none =
          let one : length (y ∷ ys) ≡ 1 = omega (arith, none, picked_long (LeadsTo ps) (w ∷ ws) (picks (y ∷ ys)) h, length-picks (y ∷ ys)) in
          omega (arith, ap factorial one)

      pub ways_stand : StandsFor (any_way n e ps x others (w ∷ ws)) (y ∷ ys) i
      ways_stand = go (nat_le i n) refl
        where
          go : (b : Bool) → nat_le i n ≡ b → StandsFor (any_way n e ps x others (w ∷ ws)) (y ∷ ys) i
          go true is =
              let le : i ≤ n = grind (arith, nat_tests) in
              let led_as : orders (y ∷ ys) ≡ flat_map (led orders) (picks (y ∷ ys)) = orders_led y ys in
              record {
                words = ways_words i le ps others w ws (y, ys) (map (λ p. (p.0, y ∷ p.1)) (picks ys)) h ∙ ap (λ z. (any_order z).0 i) (sym led_as);
                turns = subst (λ z. (any_way n e ps x others (w ∷ ws)).1 i < (any_order z).1 i) (sym led_as) (ways_turns i le ps others w ws (y, ys) (map (λ p. (p.0, y ∷ p.1)) (picks ys)) h);
              }
          go false is =
              let past : n < i = grind (arith, nat_tests) in
              let os = orders (y ∷ ys) in
              record {
                words = past_words i past ps others w ws os (orders_begin y ys) long alone;
                turns = omega (arith, past_turns i past ps others w ws, orders_turns i past os (orders_begin y ys), long);
              }
