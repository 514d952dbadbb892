use Rattle.std.proofs.Common.{take}
use Rattle.rp_query.specs.Changes.{NamesUpTo}
use Rattle.rp_query.proofs.changes.greatest_named.Given as goal

abbrev pub invariant-loop-total : goal.invariant-loop-total
invariant-loop-total l = NamesUpTo l.greatest (take l.total-index l.totals)
