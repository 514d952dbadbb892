use Rattle.std.proofs.Common.{◌∙◌}
use Rattle.rp_pattern.specs.Choices.{IsSameWhole, entered}
use Rattle.rp_pattern.proofs.ChoiceStacks.{same_whole, fresh_remaining, fresh_left}
use Rattle.rp_pattern.proofs.Costs.{empty_costs, same_kept}
use Rattle.rp_pattern.proofs.choices.Choices.reset.Goals as goal

pub returns-clause-whole : goal.returns-clause-whole
returns-clause-whole c = same_whole _ _ c.empty.ensures.start c.empty.ensures.kept

pub returns-clause-remaining : goal.returns-clause-remaining
returns-clause-remaining c = λ n e.
    let same : IsSameWhole c.args.self.now c.empty.new.self = same_whole _ _ c.empty.ensures.start c.empty.ensures.kept in
    fresh_remaining _ c.empty.ensures.begun n e ∙ same.words n e

pub returns-clause-left : goal.returns-clause-left
returns-clause-left c = λ n e.
    let same : IsSameWhole c.args.self.now c.empty.new.self = same_whole _ _ c.empty.ensures.start c.empty.ensures.kept in
    fresh_left _ c.empty.ensures.begun n e ∙ same.left n e

pub returns-clause-labels : goal.returns-clause-labels
unfolding entered
returns-clause-labels c = c.empty.ensures.labels

pub returns-clause-keeps : goal.returns-clause-keeps
returns-clause-keeps c = same_kept c.args.self.now _ c.empty.ensures.kept

pub returns-clause-costs : goal.returns-clause-costs
returns-clause-costs c = empty_costs c.args.self.now _ c.empty.ensures.begun c.empty.ensures.kept
