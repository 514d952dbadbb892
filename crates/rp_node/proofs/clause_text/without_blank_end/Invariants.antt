use Rattle.std.proofs.Common.{◌≡◌, ◌≤◌, length, take}
use Rattle.rp_node.specs.ClauseTexts.{without_blank_end}
use Rattle.rp_node.proofs.clause_text.without_blank_end.Given as goal

abbrev pub invariant-loop-length : goal.invariant-loop-length
invariant-loop-length l = (l.length ≤ length l.text) × (without_blank_end (take l.length l.text) ≡ without_blank_end l.text)

abbrev pub decreases-loop-length : goal.decreases-loop-length
decreases-loop-length l = l.length
