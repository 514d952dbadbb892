-- Iterations that take a row each, before what follows them.
use Rattle.std.proofs.Common.{ℕ, ◌<◌, ◌≤◌, [], ◌∷◌, sym, ap, arith, subst}
use Rattle.std.specs.List.{flat_map}
use Rattle.rp_words.specs.Words.{followed}
use Rattle.rp_words.specs.Turns.{WordsAndTurns, past}
use Rattle.rp_words.proofs.TurnsTaken.{past_there, past_not_there}
use Rattle.rp_program.specs.Parts.{joined, either, forked, no_way, Replaces}
use Rattle.rp_program.proofs.Chains.{one_part}
use Rattle.rp_program.proofs.Expansions.{LeavesTwo}
use Rattle.rp_program.proofs.Parts.{replaces_then, replaces_same, later_replaced, first_replaced, either_replaced, fork_here, fork_from, joined_past}

module _ (p it : WordsAndTurns) (g u : WordsAndTurns) (i : ℕ) where
  abbrev fork : WordsAndTurns
  fork = forked i g u

  missed : Replaces i (joined (past i it) fork) no_way
  missed = record { words = sym (ap (flat_map (followed fork.0 i)) (past_not_there i it i (omega arith)).0); turns = omega arith }

  reached : (j : ℕ) → i < j → Replaces j (joined (past i it) fork) (joined it u)
  reached j lt =
      let there = past_there i it j lt in
      replaces_then j (joined (past i it) fork) (joined it fork) (joined it u)
      (first_replaced (past i it) it fork j (replaces_same j (past i it) it (sym there.0) (sym there.1)))
      (joined_past it g u i j lt)

  -- further iterations that are reached past the row alone
  again : (j : ℕ) → i ≤ j → Replaces j (joined (past i it) fork) (forked i no_way (joined it u))
  again j le = fork_from i no_way (joined it u) (joined (past i it) fork) missed reached j le

  abbrev pub another : WordsAndTurns
  another = joined p (forked i no_way (joined it u))

  another_from : Replaces i (joined p (joined (past i it) fork)) another
  another_from = later_replaced p (joined (past i it) fork) (forked i no_way (joined it u)) i again

  -- another iteration, or to stop
  pub greedy_fork : (whole : WordsAndTurns) → LeavesTwo i (whole ∷ fork ∷ []) (p ∷ past i it ∷ fork ∷ []) (fork ∷ []) → Replaces i (joined whole fork) (either another g)
  greedy_fork whole h =
      let first : Replaces i (joined whole fork) (either (joined p (joined (past i it) fork)) fork) =
      subst (λ z. Replaces i (joined whole z) (either (joined p (joined (past i it) z)) z)) (one_part fork) (record { words = h.words; turns = omega (arith, h.turns) }) in
      replaces_then i (joined whole fork) (either (joined p (joined (past i it) fork)) fork) (either another g) first
      (either_replaced (joined p (joined (past i it) fork)) fork another g i another_from (fork_here i g u))

  pub lazy_fork : (whole : WordsAndTurns) → LeavesTwo i (whole ∷ fork ∷ []) (fork ∷ []) (p ∷ past i it ∷ fork ∷ []) → Replaces i (joined whole fork) (either g another)
  lazy_fork whole h =
      let first : Replaces i (joined whole fork) (either fork (joined p (joined (past i it) fork))) =
      subst (λ z. Replaces i (joined whole z) (either z (joined p (joined (past i it) z)))) (one_part fork) (record { words = h.words; turns = omega (arith, h.turns) }) in
      replaces_then i (joined whole fork) (either fork (joined p (joined (past i it) fork))) (either g another) first
      (either_replaced fork (joined p (joined (past i it) fork)) g another i (fork_here i g u) another_from)
