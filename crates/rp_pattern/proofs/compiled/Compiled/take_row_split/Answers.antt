use Rattle.std.proofs.Common.{◌∷◌, ap, ◌∙◌, drop}
use Rattle.rp_pattern.specs.declared.compiled.PlacedChoice.{PlacedChoice}
use Rattle.rp_pattern.proofs.PlacedChoices.{gave_way, splits_from_row}
use Rattle.rp_pattern.proofs.Costs.{dropped_cost, falls_spend, split_cost}
use Rattle.rp_pattern.proofs.compiled.Compiled.take_row_split.Goals as goal

pub returns-then-row-n-clause-taken : goal.returns-then-row-n-clause-taken
returns-then-row-n-clause-taken c =
    let a = c.args in
    let p = a.self.now.program.value in
    let old = a.self.now.stack in
    let first : PlacedChoice = record { depth = a.choice.depth; place = a.preferred } in
    gave_way _ p old c.push.new.self a.choice a.n a.end a.row c.requires.top
    (splits_from_row p a.choice (drop 1 old) c.push.new.self a.n a.end a.row a.preferred a.other c.requires.stands c.if-row-n.true
    (c.in_ok-push.ensures.ok ∙ ap (λ zs. first ∷ zs) c.set_top.ensures))

pub returns-then-row-n-clause-costs : goal.returns-then-row-n-clause-costs
returns-then-row-n-clause-costs c =
    let a = c.args in
    let p = a.self.now.program.value in
    let old = a.self.now.stack in
    let first : PlacedChoice = record { depth = a.choice.depth; place = a.preferred } in
    split_cost p old c.push.new.self a.choice a.preferred a.other c.requires.top c.requires.takes (c.in_ok-push.ensures.ok ∙ ap (λ zs. first ∷ zs) c.set_top.ensures)

pub returns-in-Closed-clause-costs : goal.returns-in-Closed-clause-costs
returns-in-Closed-clause-costs c =
    let p = c.args.self.now.program.value in
    let old = c.args.self.now.stack in
    falls_spend p old c.drop_top.new.self (dropped_cost p old c.drop_top.new.self c.args.choice c.requires.top c.drop_top.ensures)
