use Rattle.std.proofs.Common.{◌-◌, ◌≤◌, length}
use Rattle.rp_lexer.specs.Lexes.{LexesUpTo}
use Rattle.rp_lexer.specs.Scan.{Stops}
use Rattle.rp_lexer.proofs.lexer.lex.Given as goal

abbrev pub invariant-loop-at : goal.invariant-loop-at
invariant-loop-at l = record {
  lexed : LexesUpTo l.bytes 0 l.tokens.items l.at;
  stops : Stops l.bytes l.at;
  within : l.at ≤ length l.bytes;
}

abbrev pub decreases-loop-at : goal.decreases-loop-at
decreases-loop-at l = length l.bytes - l.at
