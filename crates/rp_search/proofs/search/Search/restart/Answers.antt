use Rattle.std.proofs.Common.{◌∙◌, ap, arith, refl, sym}
use Rattle.rp_pattern.specs.Ways.{whole_cost}
use Rattle.rp_search.specs.Bound.{turns_before}
use Rattle.rp_search.proofs.TurnEnds.{at_start}
use Rattle.rp_search.proofs.Moving.{begins_work}
use Rattle.rp_search.proofs.search.Search.restart.Goals as goal

pub returns-clause-at_start : goal.returns-clause-at_start
returns-clause-at_start c =
    let new = c.restart.ensures in
    at_start _ refl (omega (arith, new.start, c.requires)) new.labels new.remaining new.left c.forget.ensures.blank

pub returns-clause-works : goal.returns-clause-works
returns-clause-works c = begins_work _ c.forget.ensures.keeps c.forget.ensures.lasts (c.restart.ensures.costs ∙ ap whole_cost (sym c.restart.ensures.keeps))

pub returns-clause-anew : goal.returns-clause-anew
unfolding turns_before
returns-clause-anew c = refl
