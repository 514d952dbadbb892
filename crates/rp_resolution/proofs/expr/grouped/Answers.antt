use Rattle.std.proofs.Common.{rules, ◌∙◌, ◌++◌, ap, arith}
use Rattle.std.specs.Option.{option_to_list}
use Rattle.rp_resolution.specs.Grouping.{wrapped}
use Rattle.rp_resolution.proofs.Chains.{goes_on, goes_wrong, goes_home}
use Rattle.rp_resolution.proofs.expr.grouped.Goals as goal

pub returns-in_err-right : goal.returns-in_err-right
returns-in_err-right c = λ x before ps mid t now are stands.
    let told = goes_wrong x before now (wrapped ps t) c.loop-left.lefts.items c.pop.new.self.items c.in-Some.left c.loop-left.right c.in_err-right.field-0.0 c.in-Some.operation (c.loop-left.invariant x before ps mid t now are stands) (c.pop.ensures.items ∙ ap (λ r. c.pop.new.self.items ++ option_to_list r) c.in-Some.is) c.in_err-right.ensures in
    search (rules, told)

pub loop-left-preserved : goal.loop-left-preserved
loop-left-preserved c = λ x before ps mid t now are stands.
    goes_on x before now (wrapped ps t) c.loop-left.lefts.items c.pop.new.self.items c.in-Some.left c.loop-left.right c.in_ok-right.right c.in-Some.operation (c.loop-left.invariant x before ps mid t now are stands) (c.pop.ensures.items ∙ ap (λ r. c.pop.new.self.items ++ option_to_list r) c.in-Some.is) c.in_ok-right.ensures

pub returns : goal.returns
returns c = λ x before ps mid t now are stands.
    goes_home x before now (wrapped ps t) c.loop-left.lefts.items c.loop-left.right (c.loop-left.invariant x before ps mid t now are stands) (let e = rw c.in_default.is at c.pop.ensures.cases in omega (arith, e.0))
