use Rattle.std.proofs.Common.{◌≡◌, ℕ, ◌<◌, true, get_or}
use Rattle.rp_lexer.specs.Forms.{is_name_byte}
use Rattle.rp_lexer.proofs.scan.name_len.Given as goal

abbrev pub invariant-loop-len : goal.invariant-loop-len
invariant-loop-len l = (k : ℕ) → k < l.len → is_name_byte (get_or l.rest k 0) ≡ true
