use Rattle.std.proofs.Common.{IfOk, subst, sym}
use Rattle.rp_pattern.specs.declared.ways.Ways.{Ways}
use Rattle.rp_pattern.specs.Linked.{linked_ways}
use Rattle.rp_pattern.specs.Rests.{SpendsWays}
use Rattle.rp_pattern.specs.Ways.{stack_of}
use Rattle.rp_pattern.proofs.Costs.{all_linked}
use Rattle.rp_pattern.proofs.ways.Ways.take_up_top.Goals as goal

pub returns-in-Linked-clause-costs : goal.returns-in-Linked-clause-costs
returns-in-Linked-clause-costs c =
    let new = c.take_up.new.self.stack in
    subst (λ (w : Ways). IfOk c.take_up.result (SpendsWays (stack_of w) (linked_ways new))) (sym c.in-Linked.is)
    (all_linked _ _ _ _ c.in-Linked.linked.stack new c.take_up.result c.take_up.ensures.taken)
