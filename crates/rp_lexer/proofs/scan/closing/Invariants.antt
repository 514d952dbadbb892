use Rattle.std.proofs.Common.{◌≡◌, ℕ, ◌-◌, ◌≤◌, List, ◌∷◌, length, take}
use Rattle.rp_lexer.specs.Forms.{doubled}
use Rattle.rp_lexer.proofs.scan.closing.Given as goal

abbrev pub invariant-loop-at : goal.invariant-loop-at
invariant-loop-at l = record {
  some : 1 ≤ l.at;
  within : l.at ≤ length l.rest;
  inside : List ℕ;
  front : take l.at l.rest ≡ l.quote ∷ doubled l.quote inside;
}

abbrev pub decreases-loop-at : goal.decreases-loop-at
decreases-loop-at l = length l.rest - l.at
