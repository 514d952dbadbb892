use Rattle.std.proofs.Common.{◌≤◌, take}
use Rattle.std.specs.List.{AllByRecursion}
use Rattle.rp_query.proofs.changes.greatest_in.Given as goal

abbrev pub invariant-loop-member : goal.invariant-loop-member
invariant-loop-member l = (l.least ≤ l.greatest) × AllByRecursion (λ m. m ≤ l.greatest) (take l.member-index l.members)
