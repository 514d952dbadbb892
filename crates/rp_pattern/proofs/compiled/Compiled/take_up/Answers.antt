use Rattle.std.proofs.Common.{rules, ◌≡◌, ◌∷◌, ap, ◌∙◌, drop, subst}
use Rattle.rp_program.specs.declared.program.Program.{Program}
use Rattle.rp_program.specs.Programs.{IsStart, IsSplit, IsEnd}
use Rattle.rp_pattern.specs.declared.compiled.PlacedChoice.{PlacedChoice}
use Rattle.rp_pattern.proofs.PlacedChoices.{gave_way, splits_in_two, starts, ends}
use Rattle.rp_pattern.proofs.Costs.{dropped_cost, falls_spend, split_cost}
use Rattle.rp_program.specs.Costs.{TakesAs}
use Rattle.rp_program.specs.declared.program.Instruction.TheVariants as is
use Rattle.rp_pattern.proofs.compiled.Compiled.take_up.Goals as goal

pub returns-then-row-eq1-clause-taken : goal.returns-then-row-eq1-clause-taken
returns-then-row-eq1-clause-taken c =
    let a = c.args in
    let p = a.self.now.program.value in
    let old = a.self.now.stack in
    let t = c.in-Some.choice.now in
    let same : c.deref.result.now ≡ p = search rules in
    gave_way _ p old c.set_top-then-row-eq1.new.self t a.n a.end a.row c.in-Some.ensures
    (starts p t (drop 1 old) c.set_top-then-row-eq1.new.self a.n a.end a.row c.in-PartitionStart.next (subst (λ (z : Program). IsStart z t.place c.in-PartitionStart.next) same c.in-PartitionStart.ensures.stands) c.if-row-eq1.true c.set_top-then-row-eq1.ensures)

pub returns-in_ok-push-in-Split-clause-taken : goal.returns-in_ok-push-in-Split-clause-taken
returns-in_ok-push-in-Split-clause-taken c =
    let a = c.args in
    let p = a.self.now.program.value in
    let old = a.self.now.stack in
    let t = c.in-Some.choice.now in
    let same : c.deref.result.now ≡ p = search rules in
    let first : PlacedChoice = record { depth = t.depth; place = c.in-Split.preferred } in
    gave_way _ p old c.push.new.self t a.n a.end a.row c.in-Some.ensures
    (splits_in_two p t (drop 1 old) c.push.new.self a.n a.end a.row c.in-Split.preferred c.in-Split.other (subst (λ (z : Program). IsSplit z t.place c.in-Split.preferred c.in-Split.other) same c.in-Split.ensures.stands)
    (c.in_ok-push-in-Split.ensures.ok ∙ ap (λ zs. first ∷ zs) c.set_top.ensures))

pub returns-in-Closed-end-clause-taken : goal.returns-in-Closed-end-clause-taken
returns-in-Closed-end-clause-taken c =
    let a = c.args in
    let p = a.self.now.program.value in
    let old = a.self.now.stack in
    let t = c.in-Some.choice.now in
    let same : c.deref.result.now ≡ p = search rules in
    gave_way _ p old c.set_top-in-Closed-end.new.stack t a.n a.end a.row c.in-Some.ensures
    (ends p t (drop 1 old) c.set_top-in-Closed-end.new.stack a.n a.end a.row c.in-PartitionEnd.next (subst (λ (z : Program). IsEnd z t.place c.in-PartitionEnd.next) same c.in-PartitionEnd.ensures.stands) c.if-row-n-2.false c.in-Closed-end.is c.set_top-in-Closed-end.ensures)

pub returns-in-Closed-clause-costs : goal.returns-in-Closed-clause-costs
returns-in-Closed-clause-costs c =
    let p = c.args.self.now.program.value in
    let old = c.args.self.now.stack in
    falls_spend p old c.drop_top.new.self (dropped_cost p old c.drop_top.new.self c.in-Some.choice.now c.in-Some.ensures c.drop_top.ensures)

pub returns-in_ok-push-in-Split-clause-costs : goal.returns-in_ok-push-in-Split-clause-costs
returns-in_ok-push-in-Split-clause-costs c =
    let a = c.args in
    let p = a.self.now.program.value in
    let old = a.self.now.stack in
    let t = c.in-Some.choice.now in
    let same : c.deref.result.now ≡ p = search rules in
    let first : PlacedChoice = record { depth = t.depth; place = c.in-Split.preferred } in
    split_cost p old c.push.new.self t c.in-Split.preferred c.in-Split.other c.in-Some.ensures
    (subst (λ (z : Program). TakesAs z t.place (is.Split c.in-Split.preferred c.in-Split.other)) same c.in-Split.ensures.takes)
    (c.in_ok-push-in-Split.ensures.ok ∙ ap (λ zs. first ∷ zs) c.set_top.ensures)
