use Rattle.std.proofs.Common.{◌≡◌, take, None}
use Rattle.rp_known.specs.Skips.{is_of, first_passing}
use Rattle.rp_known.proofs.skips.first_place.Given as goal

abbrev pub invariant-loop-place : goal.invariant-loop-place
invariant-loop-place l = first_passing (is_of l.variables) (take l.place l.labels) ≡ None
