-- Parts that map one row, and parts that map none, before what follows by whether a row has been taken.
use Rattle.std.proofs.Common.{◌≡◌, ℕ, ◌+◌, ◌<◌, ◌≤◌, List, [], ◌∷◌, length, Bool, true, false, refl, sym, ap, ◌∙◌, arith, subst}
use Rattle.std.specs.Prelude.{sum_by, nat_le, nat_eq, ⊤}
use Rattle.std.specs.List.{flat_map, AllByRecursion}
use Rattle.std.proofs.lemmas.List.Sums.{sum_by-cons}
use Rattle.std.proofs.lemmas.Bool.Decides.{nat_tests}
use Rattle.rp_words.specs.declared.form.Form.TheVariants as V
use Rattle.rp_words.specs.declared.word.End.{End}
use Rattle.rp_words.specs.declared.word.End.TheVariants.{Open as OpenEnd, Closed as ClosedEnd}
use Rattle.rp_words.specs.Mapping.{Mapping, Full, Open}
use Rattle.rp_words.specs.Words.{followed}
use Rattle.rp_words.specs.Turns.{WordsAndTurns, turns_after}
use Rattle.rp_program.specs.Parts.{form_part, joined, forked, Replaces}
use Rattle.rp_program.proofs.Parts.{fork_past}
use Rattle.rp_program.proofs.Expansions.{variable_row, variable_open, variable_closed, start_words, start_none, start_turns, end_words, end_open, end_none, end_turns}

-- it takes a row, or it is open
abbrev pub Moves : Mapping → Type 0
Moves (Full []) = ⊥
Moves (Full (l ∷ ls)) = ⊤
Moves (Open ls) = ⊤

-- it takes no row
abbrev Stands : Mapping → Type 0
Stands (Full []) = ⊤
Stands (Full (l ∷ ls)) = ⊥
Stands (Open ls) = ⊤

module _ (f g : WordsAndTurns) (i : ℕ) where
  module _ (h : (j : ℕ) → i < j → Replaces j f g) where
    moved_words : (ws : List Mapping) → AllByRecursion Moves ws → flat_map (followed g.0 i) ws ≡ flat_map (followed f.0 i) ws
    moved_words [] a = refl
    moved_words (Full [] ∷ ws) a = absurd a.0
    moved_words (Full (l ∷ ls) ∷ ws) a = let b = (h (i + length (l ∷ ls)) (omega arith)).words in let c = moved_words ws a.1 in cc (b, c)
    moved_words (Open ls ∷ ws) a = ap (λ z. Open ls ∷ z) (moved_words ws a.1)

    moved_turns : (ws : List Mapping) → AllByRecursion Moves ws → sum_by (turns_after g.1 i) ws ≤ sum_by (turns_after f.1 i) ws
    moved_turns [] a = omega arith
    moved_turns (Full [] ∷ ws) a = absurd a.0
    moved_turns (Full (l ∷ ls) ∷ ws) a =
        let b = sum_by-cons (turns_after g.1 i) (Full (l ∷ ls)) ws in
        let c = sum_by-cons (turns_after f.1 i) (Full (l ∷ ls)) ws in
        omega (arith, b, c, (h (i + length (l ∷ ls)) (omega arith)).turns, moved_turns ws a.1)
    moved_turns (Open ls ∷ ws) a =
        let b = sum_by-cons (turns_after g.1 i) (Open ls) ws in
        let c = sum_by-cons (turns_after f.1 i) (Open ls) ws in
        omega (arith, b, c, moved_turns ws a.1)

    -- behind a part that takes a row, what follows past the row counts
    pub moved_joined : (p : WordsAndTurns) → AllByRecursion Moves (p.0 i) → Replaces i (joined p f) (joined p g)
    moved_joined p a = record { words = moved_words (p.0 i) a; turns = omega (arith, moved_turns (p.0 i) a) }

  module _ (h : Replaces i f g) where
    at : i + 0 ≡ i
    at = omega arith

    stood_words : (ws : List Mapping) → AllByRecursion Stands ws → flat_map (followed g.0 i) ws ≡ flat_map (followed f.0 i) ws
    stood_words [] a = refl
    stood_words (Full [] ∷ ws) a =
        let b : g.0 (i + 0) ≡ f.0 (i + 0) = ap g.0 at ∙ h.words ∙ sym (ap f.0 at) in
        let c = stood_words ws a.1 in
        cc (b, c)
    stood_words (Full (l ∷ ls) ∷ ws) a = absurd a.0
    stood_words (Open ls ∷ ws) a = ap (λ z. Open ls ∷ z) (stood_words ws a.1)

    stood_turns : (ws : List Mapping) → AllByRecursion Stands ws → sum_by (turns_after g.1 i) ws ≤ sum_by (turns_after f.1 i) ws
    stood_turns [] a = omega arith
    stood_turns (Full [] ∷ ws) a =
        let b = sum_by-cons (turns_after g.1 i) (Full []) ws in
        let c = sum_by-cons (turns_after f.1 i) (Full []) ws in
        let d = ap g.1 at in
        let e = ap f.1 at in
        omega (arith, b, c, d, e, h.turns, stood_turns ws a.1)
    stood_turns (Full (l ∷ ls) ∷ ws) a = absurd a.0
    stood_turns (Open ls ∷ ws) a =
        let b = sum_by-cons (turns_after g.1 i) (Open ls) ws in
        let c = sum_by-cons (turns_after f.1 i) (Open ls) ws in
        omega (arith, b, c, stood_turns ws a.1)

    -- behind a part that takes no row, what follows at the row counts
    pub stood_joined : (p q : WordsAndTurns) → q.0 i ≡ p.0 i → q.1 i ≡ p.1 i → AllByRecursion Stands (p.0 i) → Replaces i (joined p f) (joined q g)
    stood_joined p q w t a = record {
      words = ap (flat_map (followed g.0 i)) w ∙ stood_words (p.0 i) a;
      turns = omega (arith, t, ap (sum_by (turns_after g.1 i)) w, stood_turns (p.0 i) a);
    }

module _ (n : ℕ) (e : End) (x : Bool) (i : ℕ) where
  pub variable_moves : (v : ℕ) → AllByRecursion Moves ((form_part n e (V.Variable v) x).0 i)
  variable_moves v = go (nat_le i n) refl
    where
      past : (d : End) → e ≡ d → n < i → AllByRecursion Moves ((form_part n e (V.Variable v) x).0 i)
      past OpenEnd is h = subst (AllByRecursion Moves) (sym (variable_open n e x v i h is)) (tt, tt)
      past ClosedEnd is h = subst (AllByRecursion Moves) (sym (variable_closed n e x v i h is)) tt

      go : (b : Bool) → nat_le i n ≡ b → AllByRecursion Moves ((form_part n e (V.Variable v) x).0 i)
      go true h = subst (AllByRecursion Moves) (sym (variable_row n e x v i (grind (arith, nat_tests)))) (tt, tt)
      go false h = past e refl (grind (arith, nat_tests))

  -- a row, before what follows where a row has been taken
  pub variable_joined : (v : ℕ) (g u : WordsAndTurns) → Replaces i (joined (form_part n e (V.Variable v) x) (forked i g u)) (joined (form_part n e (V.Variable v) x) u)
  variable_joined v g u = moved_joined (forked i g u) u i (λ j lt. fork_past i g u j lt) (form_part n e (V.Variable v) x) (variable_moves v)

  -- `^`, before what follows at the row
  pub start_joined : (f g : WordsAndTurns) → Replaces i f g → Replaces i (joined (form_part n e V.PartitionStart x) f) (joined (form_part n e V.PartitionStart false) g)
  start_joined f g h = go (nat_eq i 1) refl
    where
      turns_same : (form_part n e V.PartitionStart false).1 i ≡ (form_part n e V.PartitionStart x).1 i
      turns_same = start_turns n e false i ∙ sym (start_turns n e x i)

      go : (b : Bool) → nat_eq i 1 ≡ b → Replaces i (joined (form_part n e V.PartitionStart x) f) (joined (form_part n e V.PartitionStart false) g)
      go true is =
          let here : i ≡ 1 = grind (arith, nat_tests) in
          stood_joined f g i h (form_part n e V.PartitionStart x) (form_part n e V.PartitionStart false) (start_words n e false i here ∙ sym (start_words n e x i here)) turns_same
          (subst (AllByRecursion Stands) (sym (start_words n e x i here)) (tt, tt))
      go false is =
          let not_here : i ≡ 1 → ⊥ = λ k. absurd (grind (arith, nat_tests)) in
          stood_joined f g i h (form_part n e V.PartitionStart x) (form_part n e V.PartitionStart false) (start_none n e false i not_here ∙ sym (start_none n e x i not_here)) turns_same
          (subst (AllByRecursion Stands) (sym (start_none n e x i not_here)) tt)

  -- `$`, before what follows at the row
  pub end_joined : (f g : WordsAndTurns) → Replaces i f g → Replaces i (joined (form_part n e V.PartitionEnd x) f) (joined (form_part n e V.PartitionEnd false) g)
  end_joined f g h = go (nat_le i n) refl
    where
      turns_same : (form_part n e V.PartitionEnd false).1 i ≡ (form_part n e V.PartitionEnd x).1 i
      turns_same = end_turns n e false i ∙ sym (end_turns n e x i)

      past : (d : End) → e ≡ d → n < i → Replaces i (joined (form_part n e V.PartitionEnd x) f) (joined (form_part n e V.PartitionEnd false) g)
      past OpenEnd is lt =
          stood_joined f g i h (form_part n e V.PartitionEnd x) (form_part n e V.PartitionEnd false) (end_open n e false i lt is ∙ sym (end_open n e x i lt is)) turns_same
          (subst (AllByRecursion Stands) (sym (end_open n e x i lt is)) (tt, tt))
      past ClosedEnd is lt =
          stood_joined f g i h (form_part n e V.PartitionEnd x) (form_part n e V.PartitionEnd false) (end_words n e false i lt is ∙ sym (end_words n e x i lt is)) turns_same
          (subst (AllByRecursion Stands) (sym (end_words n e x i lt is)) (tt, tt))

      go : (b : Bool) → nat_le i n ≡ b → Replaces i (joined (form_part n e V.PartitionEnd x) f) (joined (form_part n e V.PartitionEnd false) g)
      go true k =
          let le : i ≤ n = grind (arith, nat_tests) in
          stood_joined f g i h (form_part n e V.PartitionEnd x) (form_part n e V.PartitionEnd false) (end_none n e false i le ∙ sym (end_none n e x i le)) turns_same
          (subst (AllByRecursion Stands) (sym (end_none n e x i le)) tt)
      go false k = past e refl (grind (arith, nat_tests))
