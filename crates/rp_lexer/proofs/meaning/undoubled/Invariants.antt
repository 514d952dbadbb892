use Rattle.std.proofs.Common.{◌≡◌, ℕ, List, ◌++◌, length}
use Rattle.std.specs.String.{string_bytes}
use denote.Text.{Utf8}
use denote.Shadow.{shadow}
use Rattle.rp_lexer.specs.Forms.{doubled}
use Rattle.rp_lexer.proofs.meaning.undoubled.Given as goal

abbrev pub invariant-loop-at : goal.invariant-loop-at
invariant-loop-at l = record {
  utf8 : shadow (Utf8 l.rest);
  inside : List ℕ;
  left : l.rest ≡ doubled l.quote inside;
  so_far : l.initial.rest ≡ doubled l.quote (string_bytes l.text) ++ l.rest;
}

abbrev pub decreases-loop-at : goal.decreases-loop-at
decreases-loop-at l = length l.rest
