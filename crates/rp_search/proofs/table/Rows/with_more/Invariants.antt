use Rattle.std.proofs.Common.{◌≡◌, ℕ, ◌<◌, ◌≤◌, ◌%◌, ◌*◌, length}
use Rattle.rp_search.specs.Table.{until_row}
use Rattle.rp_search.proofs.table.Rows.with_more.Given as goal

abbrev pub invariant-loop-at : goal.invariant-loop-at
invariant-loop-at l =
    (0 < length l.rows.slots.items)
    × (0 < length l.self.slots.items → length l.rows.slots.items ≡ length l.self.slots.items * 2)
    × ((r : ℕ) → l.from ≤ r → l.from < until_row l.self r → r % length l.self.slots.items < l.at → until_row l.rows r ≡ until_row l.self r)
    × ((r : ℕ) → 0 < until_row l.rows r → until_row l.rows r ≡ until_row l.self r)
