use Rattle.std.proofs.Common.{◌≡◌, ℕ, suc, ◌-◌, length}
use Rattle.rp_pattern.specs.Visited.{was_at}
use Rattle.rp_pattern.proofs.visited.Visited.make_room.Given as goal

abbrev pub invariant-loop-self : goal.invariant-loop-self
invariant-loop-self l = (l.self.known ≡ l.fn.self.known) × (l.self.end ≡ l.fn.self.end) × ((q d : ℕ) → was_at l.self q d ≡ was_at l.fn.self q d)

abbrev pub decreases-loop-self : goal.decreases-loop-self
decreases-loop-self l = suc l.depth - length l.self.depths.items
