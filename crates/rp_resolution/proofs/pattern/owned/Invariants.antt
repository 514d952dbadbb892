use Rattle.std.proofs.Common.{◌≡◌, map}
use Rattle.rp_resolution.proofs.pattern.owned.Given as goal

abbrev pub invariant-loop-part : goal.invariant-loop-part
invariant-loop-part l = map (λ r. r.value) l.owners.items ≡ l.yielded
