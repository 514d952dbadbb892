use Rattle.std.proofs.Common.{◌≡◌, map, take}
use Rattle.rp_query.specs.Changes.{change_of}
use Rattle.rp_query.proofs.changes.changes_of.Given as goal

abbrev pub invariant-loop-total : goal.invariant-loop-total
invariant-loop-total l = l.changes.items ≡ map (change_of l.variable) (take l.total-index l.totals)
