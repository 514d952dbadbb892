use Rattle.std.proofs.Common.{arith, refl}
use Rattle.rp_search.proofs.TurnEnds.{at_start}
use Rattle.rp_search.proofs.Moving.{begins_work}
use Rattle.rp_search.proofs.search.Search.new.Goals as goal

pub returns-clause-at_start : goal.returns-clause-at_start
returns-clause-at_start c =
    let new = c.in_ok-new.ensures in
    at_start _ refl (omega (arith, new.start, c.requires)) new.labels new.remaining new.left c.new-2.ensures.blank

pub returns-clause-works : goal.returns-clause-works
returns-clause-works c = begins_work _ c.new-2.ensures.keeps c.new-2.ensures.lasts c.in_ok-new.ensures.costs
