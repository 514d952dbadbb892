use Rattle.std.proofs.Common.{◌≡◌, ◌≤◌, ◌+◌, ◌-◌, length, drop}
use Rattle.rp_node.specs.ClauseTexts.{common_front}
use Rattle.rp_node.proofs.clause_text.common_front.Given as goal

abbrev pub invariant-loop-length : goal.invariant-loop-length
invariant-loop-length l = (l.length ≤ length l.text) × (l.length ≤ length l.other)
    × (common_front l.text l.other ≡ common_front (drop l.length l.text) (drop l.length l.other) + l.length)

abbrev pub decreases-loop-length : goal.decreases-loop-length
decreases-loop-length l = length l.text - l.length
