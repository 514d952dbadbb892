use Rattle.std.proofs.Common.{◌+◌, length, refl, ap}
use Rattle.rp_pattern.specs.Ways.{origin, most_turns}
use Rattle.rp_pattern.specs.Choices.{start_of, entered, whole, whole_turns, whole_from, whole_turns_from}
use Rattle.rp_pattern.proofs.ChoiceStacks.{same_pattern, fresh_remaining, fresh_left}
use Rattle.rp_pattern.proofs.Costs.{empty_costs, same_kept}
use Rattle.rp_pattern.proofs.choices.Choices.restart.Goals as goal

pub returns-clause-pattern : goal.returns-clause-pattern
returns-clause-pattern c = same_pattern _ _ c.empty.ensures.kept

pub returns-clause-start : goal.returns-clause-start
unfolding start_of
returns-clause-start c = refl

pub returns-clause-labels : goal.returns-clause-labels
unfolding entered
returns-clause-labels c = c.empty.ensures.labels

pub returns-clause-whole : goal.returns-clause-whole
unfolding whole whole_from
returns-clause-whole c = λ n e. ap (λ k. (origin k n e).0 c.args.start) c.empty.ensures.kept

pub returns-clause-whole_turns : goal.returns-clause-whole_turns
unfolding whole_turns whole_turns_from
returns-clause-whole_turns c = λ n e. ap (λ k. most_turns k n e c.args.start + length ((origin k n e).0 c.args.start)) c.empty.ensures.kept

pub returns-clause-remaining : goal.returns-clause-remaining
returns-clause-remaining c = λ n e. fresh_remaining _ c.empty.ensures.begun n e

pub returns-clause-left : goal.returns-clause-left
returns-clause-left c = λ n e. fresh_left _ c.empty.ensures.begun n e

pub returns-clause-keeps : goal.returns-clause-keeps
returns-clause-keeps c = same_kept c.args.self.now _ c.empty.ensures.kept

pub returns-clause-costs : goal.returns-clause-costs
returns-clause-costs c = empty_costs c.args.self.now _ c.empty.ensures.begun c.empty.ensures.kept
