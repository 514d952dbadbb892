use Rattle.std.proofs.Common.{◌≡◌, ◌+◌, ◌≤◌, [], OnOk, subst, sym}
use Rattle.rp_pattern.specs.declared.ways.Ways.{Ways}
use Rattle.rp_pattern.specs.Linked.{linked_ways}
use Rattle.rp_pattern.specs.Rests.{stack_cost, first_weight}
use Rattle.rp_pattern.specs.Ways.{kept_of, stack_of, whole_cost}
use Rattle.rp_pattern.proofs.Costs.{linked_begins}
use Rattle.rp_pattern.proofs.KeptWays.{no_linked, no_placed}
use Rattle.rp_pattern.proofs.ways.Ways.put_whole.Goals as goal

pub begin-requires : goal.begin-requires
begin-requires c = no_linked _ (subst (λ (w : Ways). stack_of w ≡ []) c.in-Linked.is c.requires)

pub begin-requires-in-Compiled : goal.begin-requires-in-Compiled
begin-requires-in-Compiled c = no_placed _ _ (subst (λ (w : Ways). stack_of w ≡ []) c.in-Compiled.is c.requires)

pub returns-in-Linked-clause-costs : goal.returns-in-Linked-clause-costs
returns-in-Linked-clause-costs c =
    let new = c.begin.new.self.stack in
    subst (λ (w : Ways). OnOk c.begin.result (stack_cost (linked_ways new) + first_weight (linked_ways new) ≤ whole_cost (kept_of w))) (sym c.in-Linked.is)
    (linked_begins _ _ _ new c.begin.result c.begin.ensures.put)
