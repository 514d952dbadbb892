use Rattle.std.proofs.Common.{◌≡◌, ◌+◌, ◌-◌, ◌≤◌, length, drop, max}
use Rattle.rp_answer.proofs.kept.Kept.forget.Given as goal

abbrev pub invariant-loop-self : goal.invariant-loop-self
invariant-loop-self l = record {
  low : l.fn.self.first ≤ l.self.first;
  not_past : l.self.first ≤ max l.fn.self.first l.before;
  kept : l.self.rows.items ≡ drop (l.self.first - l.fn.self.first) l.fn.self.rows.items;
  last : l.self.first + length l.self.rows.items ≡ l.fn.self.first + length l.fn.self.rows.items;
  same_end : l.self.end ≡ l.fn.self.end;
}

abbrev pub decreases-loop-self : goal.decreases-loop-self
decreases-loop-self l = l.before - l.self.first
