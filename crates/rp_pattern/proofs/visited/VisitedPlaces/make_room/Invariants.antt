use Rattle.std.proofs.Common.{◌≡◌, ℕ, suc, ◌-◌, length}
use Rattle.rp_pattern.specs.Visited.{has_place}
use Rattle.rp_pattern.proofs.visited.VisitedPlaces.make_room.Given as goal

abbrev pub invariant-loop-self : goal.invariant-loop-self
invariant-loop-self l = (q : ℕ) → has_place l.self q ≡ has_place l.fn.self q

abbrev pub decreases-loop-self : goal.decreases-loop-self
decreases-loop-self l = suc l.place - length l.self.flags.items
