use Rattle.std.proofs.Common.{◌≡◌, ◌≤◌, ◌∷◌, List, ℕ, drop, length}
use Rattle.rp_trace.specs.Grammar.{symbols_of}
use Rattle.rp_trace.proofs.grammar.expected.Given as goal

abbrev pub invariant-loop-place : goal.invariant-loop-place
invariant-loop-place l =
    (l.place ≤ length l.text)
    × (length (symbols_of (drop l.place l.text)) ≡ l.seen)
    × (l.seen ≤ l.left)
    × (l.seen ≡ l.left → (rest : List ℕ) → drop l.place l.text ≡ 32 ∷ rest → ⊥)

abbrev pub decreases-loop-place : goal.decreases-loop-place
decreases-loop-place l = l.place
