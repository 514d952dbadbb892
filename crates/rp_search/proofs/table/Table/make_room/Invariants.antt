use Rattle.std.proofs.Common.{◌≡◌, ℕ, suc, ◌-◌, length}
use Rattle.rp_search.specs.Table.{until_of}
use Rattle.rp_search.proofs.table.Table.make_room.Given as goal

abbrev pub invariant-loop-self : goal.invariant-loop-self
invariant-loop-self l = (q r : ℕ) → until_of l.self q r ≡ until_of l.fn.self q r

abbrev pub decreases-loop-self : goal.decreases-loop-self
decreases-loop-self l = suc l.place - length l.self.places.items
