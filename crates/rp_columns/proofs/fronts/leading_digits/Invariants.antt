use Rattle.std.proofs.Common.{◌≡◌, ◌+◌, length}
use Rattle.rp_columns.specs.Fronts.{leading_digits}
use Rattle.rp_columns.proofs.Numbers.{Continues}
use Rattle.rp_columns.proofs.fronts.leading_digits.Given as goal

abbrev pub invariant-digits : goal.invariant-digits
invariant-digits l = record {
  value : Continues l.fn.before (leading_digits l.fn.bytes).0 l.value (leading_digits l.rest).0;
  count : l.count + length (leading_digits l.rest).0 ≡ length (leading_digits l.fn.bytes).0;
  few : l.count + length l.rest ≡ length l.fn.bytes;
  rest : (leading_digits l.rest).1 ≡ (leading_digits l.fn.bytes).1;
}

abbrev pub decreases-digits : goal.decreases-digits
decreases-digits l = length l.rest
