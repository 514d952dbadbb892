use Rattle.std.proofs.Common.{◌≡◌, ◌<◌, length, take, IfSome}
use Rattle.rp_known.specs.Skips.{is_of, last_passing}
use Rattle.rp_known.proofs.skips.last_place.Given as goal

abbrev pub invariant-loop-place : goal.invariant-loop-place
invariant-loop-place l = (l.last ≡ last_passing (is_of l.variables) (take l.place l.labels)) × IfSome l.last (λ k. k < length l.labels)
