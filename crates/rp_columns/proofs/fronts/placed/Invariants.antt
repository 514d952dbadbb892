use Rattle.std.proofs.Common.{◌≡◌, ◌-◌}
use Rattle.rp_columns.specs.Fronts.{behind_places, leading_digits, placed}
use Rattle.rp_columns.proofs.Numbers.{Continues}
use Rattle.rp_columns.proofs.fronts.placed.Given as goal

abbrev pub invariant-loop-place : goal.invariant-loop-place
invariant-loop-place l = record {
  value : Continues l.fn.before (placed l.fn.places (leading_digits l.fn.bytes).0) l.value (placed (l.fn.places - l.place) (leading_digits l.rest).0);
  rest : leading_digits l.rest ≡ behind_places l.place (leading_digits l.fn.bytes);
}
