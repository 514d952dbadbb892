-- What replaces a part, and what follows it.
use Rattle.std.proofs.Common.{◌≡◌, ℕ, ◌+◌, ◌<◌, ◌≤◌, List, [], ◌∷◌, ◌++◌, length, Bool, true, false, cond, refl, sym, ap, ◌∙◌, arith, subst}
use Rattle.std.specs.Prelude.{sum_by, nat_lt}
use Rattle.std.specs.List.{flat_map}
use Rattle.std.proofs.lemmas.List.Sums.{sum_by-cons}
use Rattle.std.proofs.lemmas.Bool.Decides.{nat_tests}
use Rattle.rp_words.specs.Mapping.{Mapping, Full, Open}
use Rattle.rp_words.specs.Words.{followed}
use Rattle.rp_words.specs.Turns.{WordsAndTurns, turns_after}
use Rattle.rp_words.proofs.Algebra.{append_nil}
use Rattle.rp_program.specs.Parts.{joined, either, forked, no_way, Replaces}

pub replaces_self : (i : ℕ) (p : WordsAndTurns) → Replaces i p p
replaces_self i p = record { words = refl; turns = omega arith }

pub replaces_then : (i : ℕ) (p q r : WordsAndTurns) → Replaces i p q → Replaces i q r → Replaces i p r
replaces_then i p q r h k = record { words = k.words ∙ h.words; turns = omega (arith, h.turns, k.turns) }

pub replaces_same : (i : ℕ) (p q : WordsAndTurns) → q.0 i ≡ p.0 i → q.1 i ≡ p.1 i → Replaces i p q
replaces_same i p q w t = record { words = w; turns = omega (arith, t) }

pub replaces_as : (i : ℕ) (p q r : WordsAndTurns) → q ≡ r → Replaces i p q → Replaces i p r
replaces_as i p q r h k = subst (Replaces i p) h k

-- ---- by whether a row has been taken

at_row : {A : Type 0} (i : ℕ) (x y : A) (b : Bool) → nat_lt i i ≡ b → cond b x y ≡ y
at_row i x y true h = absurd (grind (arith, nat_tests))
at_row i x y false h = refl

past_row : {A : Type 0} (i j : ℕ) (x y : A) (b : Bool) → i < j → nat_lt i j ≡ b → cond b x y ≡ x
past_row i j x y true h k = refl
past_row i j x y false h k = absurd (grind (arith, nat_tests))

module _ (i : ℕ) (g u : WordsAndTurns) where
  pub fork_here : Replaces i (forked i g u) g
  fork_here = replaces_same i (forked i g u) g (sym (at_row i (u.0 i) (g.0 i) (nat_lt i i) refl)) (sym (at_row i (u.1 i) (g.1 i) (nat_lt i i) refl))

  pub here_fork : Replaces i g (forked i g u)
  here_fork = replaces_same i g (forked i g u) (at_row i (u.0 i) (g.0 i) (nat_lt i i) refl) (at_row i (u.1 i) (g.1 i) (nat_lt i i) refl)

  pub fork_past : (j : ℕ) → i < j → Replaces j (forked i g u) u
  fork_past j h = replaces_same j (forked i g u) u (sym (past_row i j (u.0 j) (g.0 j) (nat_lt i j) h refl)) (sym (past_row i j (u.1 j) (g.1 j) (nat_lt i j) h refl))

  pub past_fork : (j : ℕ) → i < j → Replaces j u (forked i g u)
  past_fork j h = replaces_same j u (forked i g u) (past_row i j (u.0 j) (g.0 j) (nat_lt i j) h refl) (past_row i j (u.1 j) (g.1 j) (nat_lt i j) h refl)

  -- what replaces both replaces the fork
  pub fork_from : (p : WordsAndTurns) → Replaces i p g → ((j : ℕ) → i < j → Replaces j p u) → (j : ℕ) → i ≤ j → Replaces j p (forked i g u)
  fork_from p here later j h = go (nat_lt i j) refl
    where
      go : (b : Bool) → nat_lt i j ≡ b → Replaces j p (forked i g u)
      go true k = let lt : i < j = grind (arith, nat_tests) in replaces_then j p u (forked i g u) (later j lt) (past_fork j lt)
      go false k = let is : i ≡ j = grind (arith, nat_tests) in subst (λ j. Replaces j p (forked i g u)) is (replaces_then i p g (forked i g u) here here_fork)

-- where both are the same
pub fork_same : (i j : ℕ) (p : WordsAndTurns) → Replaces j (forked i p p) p
fork_same i j p = replaces_same j (forked i p p) p (sym (same (nat_lt i j) (p.0 j))) (sym (same (nat_lt i j) (p.1 j)))
  where
    same : {A : Type 0} (b : Bool) (x : A) → cond b x x ≡ x
    same true x = refl
    same false x = refl

pub same_fork : (i j : ℕ) (p : WordsAndTurns) → Replaces j p (forked i p p)
same_fork i j p = replaces_same j p (forked i p p) (same (nat_lt i j) (p.0 j)) (same (nat_lt i j) (p.1 j))
  where
    same : {A : Type 0} (b : Bool) (x : A) → cond b x x ≡ x
    same true x = refl
    same false x = refl

-- ---- what follows a part

module _ (p q r : WordsAndTurns) (i : ℕ) (h : (j : ℕ) → i ≤ j → Replaces j q r) where
  later_words : (ws : List Mapping) → flat_map (followed r.0 i) ws ≡ flat_map (followed q.0 i) ws
  later_words [] = refl
  later_words (Full ls ∷ ws) = let a = (h (i + length ls) (omega arith)).words in let b = later_words ws in cc (a, b)
  later_words (Open ls ∷ ws) = ap (λ z. Open ls ∷ z) (later_words ws)

  later_turns : (ws : List Mapping) → sum_by (turns_after r.1 i) ws ≤ sum_by (turns_after q.1 i) ws
  later_turns [] = omega arith
  later_turns (Full ls ∷ ws) =
      let a = sum_by-cons (turns_after r.1 i) (Full ls) ws in
      let b = sum_by-cons (turns_after q.1 i) (Full ls) ws in
      omega (arith, a, b, (h (i + length ls) (omega arith)).turns, later_turns ws)
  later_turns (Open ls ∷ ws) =
      let a = sum_by-cons (turns_after r.1 i) (Open ls) ws in
      let b = sum_by-cons (turns_after q.1 i) (Open ls) ws in
      omega (arith, a, b, later_turns ws)

  pub later_replaced : Replaces i (joined p q) (joined p r)
  later_replaced = record { words = later_words (p.0 i); turns = omega (arith, later_turns (p.0 i)) }

-- past the row, what follows is as where a row has been taken
pub joined_past : (p g u : WordsAndTurns) (i j : ℕ) → i < j → Replaces j (joined p (forked i g u)) (joined p u)
joined_past p g u i j h = later_replaced p (forked i g u) u j (λ k le. fork_past i g u k (omega (arith, h, le)))

pub past_joined : (p g u : WordsAndTurns) (i j : ℕ) → i < j → Replaces j (joined p u) (joined p (forked i g u))
past_joined p g u i j h = later_replaced p u (forked i g u) j (λ k le. past_fork i g u k (omega (arith, h, le)))

-- A part is joined to what replaces another part before what follows: at the row, and past it.
pub joined_fork : (p q g u g' u' : WordsAndTurns) (i : ℕ) → Replaces i (joined q (forked i g u)) g' → ((j : ℕ) → Replaces j (joined q u) u') →
    Replaces i (joined p (joined q (forked i g u))) (joined p (forked i g' u'))
joined_fork p q g u g' u' i here later =
    later_replaced p (joined q (forked i g u)) (forked i g' u') i
    (fork_from i g' u' (joined q (forked i g u)) here (λ j lt. replaces_then j (joined q (forked i g u)) (joined q u) u' (joined_past q g u i j lt) (later j)))

-- a part with the same words from the row, and no more turns
pub first_replaced : (p q r : WordsAndTurns) (i : ℕ) → Replaces i p q → Replaces i (joined p r) (joined q r)
first_replaced p q r i h = record {
  words = ap (flat_map (followed r.0 i)) h.words;
  turns = omega (arith, h.turns, ap (sum_by (turns_after r.1 i)) h.words);
}

-- ---- either of two

pub either_replaced : (p q p' q' : WordsAndTurns) (i : ℕ) → Replaces i p p' → Replaces i q q' → Replaces i (either p q) (either p' q')
either_replaced p q p' q' i h k = record {
  words = ap (λ z. z ++ q'.0 i) h.words ∙ ap (λ z. p.0 i ++ z) k.words;
  turns = omega (arith, h.turns, k.turns);
}

pub no_first : (p : WordsAndTurns) (i : ℕ) → Replaces i (either no_way p) p
no_first p i = record { words = refl; turns = omega arith }

pub no_second : (p : WordsAndTurns) (i : ℕ) → Replaces i (either p no_way) p
no_second p i = record { words = sym (append_nil (p.0 i)); turns = omega arith }
