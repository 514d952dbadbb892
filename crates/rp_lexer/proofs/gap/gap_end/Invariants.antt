use Rattle.std.proofs.Common.{ℕ, ◌-◌, ◌≤◌, length}
use Rattle.rp_lexer.specs.Lexes.{IsGap}
use Rattle.rp_lexer.proofs.gap.gap_end.Given as goal

abbrev pub invariant-loop-end : goal.invariant-loop-end
invariant-loop-end l = record {
  from : l.start ≤ l.at;
  within : l.at ≤ length l.text;
  gap : (last : ℕ) → IsGap l.text l.at last → IsGap l.text l.start last;
}

abbrev pub decreases-loop-end : goal.decreases-loop-end
decreases-loop-end l = length l.text - l.at
