-- What each form leaves before what follows it.
use Rattle.std.proofs.Common.{ℕ, [], ◌∷◌, arith, subst}
use Rattle.rp_words.specs.Turns.{WordsAndTurns}
use Rattle.rp_program.specs.Parts.{joined, either, Replaces}
use Rattle.rp_program.proofs.Chains.{one_part}
use Rattle.rp_program.proofs.Expansions.{Leaves, LeavesTwo}

module _ (i : ℕ) (later : WordsAndTurns) where
  -- what a part leaves replaces it
  pub leaves_later : (p : WordsAndTurns) → Leaves i (p ∷ later ∷ []) (later ∷ []) → Replaces i (joined p later) later
  leaves_later p h = subst (λ z. Replaces i (joined p z) z) (one_part later) (record { words = h.words; turns = omega (arith, h.turns) })

  pub leaves_one : (p q : WordsAndTurns) → Leaves i (p ∷ later ∷ []) (q ∷ later ∷ []) → Replaces i (joined p later) (joined q later)
  leaves_one p q h = subst (λ z. Replaces i (joined p z) (joined q z)) (one_part later) (record { words = h.words; turns = omega (arith, h.turns) })

  pub leaves_two : (p q r : WordsAndTurns) → Leaves i (p ∷ later ∷ []) (q ∷ r ∷ later ∷ []) → Replaces i (joined p later) (joined q (joined r later))
  leaves_two p q r h = subst (λ z. Replaces i (joined p z) (joined q (joined r z))) (one_part later) (record { words = h.words; turns = omega (arith, h.turns) })

  pub leaves_either : (p q r : WordsAndTurns) → LeavesTwo i (p ∷ later ∷ []) (q ∷ later ∷ []) (r ∷ later ∷ []) → Replaces i (joined p later) (either (joined q later) (joined r later))
  leaves_either p q r h = subst (λ z. Replaces i (joined p z) (either (joined q z) (joined r z))) (one_part later) (record { words = h.words; turns = omega (arith, h.turns) })
