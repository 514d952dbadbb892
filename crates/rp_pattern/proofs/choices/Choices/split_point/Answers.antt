use Rattle.std.proofs.Common.{◌∙◌, refl, subst}
use Rattle.rp_pattern.specs.Ways.{IsNumbered}
use Rattle.rp_pattern.proofs.Heights.{at_split}
use Rattle.rp_pattern.proofs.Costs.{kept_is, weight_begun, weight_not}
use Rattle.rp_pattern.proofs.choices.Choices.split_point.Goals as goal

pub returns-then-not-self-clause-none : goal.returns-then-not-self-clause-none
returns-then-not-self-clause-none c = λ numbered none. weight_not c.args.self.now c.if-not-self.true

pub returns-in-None-clause-none : goal.returns-in-None-clause-none
returns-in-None-clause-none c = λ numbered none.
    let self = c.args.self.now in
    weight_begun self c.if-not-self.false ∙ c.in-None.ensures.none (subst IsNumbered (kept_is self) numbered) refl

pub returns-in-Some-clause-at : goal.returns-in-Some-clause-at
returns-in-Some-clause-at c = at_split c.args.self.now c.if-not-self.false c.in-Some.split c.in-Some.ensures.at
