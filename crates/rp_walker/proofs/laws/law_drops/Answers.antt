use Rattle.rp_walker.proofs.Lefts.{dropped_unread}
use Rattle.rp_walker.proofs.laws.law_drops.Goals as goal

pub returns : goal.returns
returns c = λ q p p' w first sound d h. dropped_unread q p p' w first sound d h c.law_walkers.ensures.stay c.law_walkers.ensures.can c.law_left.ensures.same
