use Rattle.std.proofs.Common.{refl}
use Rattle.rp_pattern.specs.Choices.{start_of, entered}
use Rattle.rp_pattern.proofs.ChoiceStacks.{new_from, new_left_from, new_whole, new_left, fresh_remaining, fresh_left}
use Rattle.rp_pattern.proofs.Costs.{new_costs}
use Rattle.rp_pattern.proofs.choices.Choices.of.Goals as goal

pub returns-clause-start : goal.returns-clause-start
unfolding start_of
returns-clause-start c = refl

pub returns-clause-labels : goal.returns-clause-labels
unfolding entered
returns-clause-labels c = c.new.ensures.items

pub returns-clause-pattern : goal.returns-clause-pattern
returns-clause-pattern c = λ f is.
    let keeps = c.in_ok-ways.ensures.keeps f is in
    record {
      from = λ n e row. new_from _ f keeps n e row;
      left_from = λ n e row. new_left_from _ f keeps n e row;
      all = λ n e. new_whole _ f keeps n e;
      all_turns = λ n e. new_left _ f keeps n e;
    }

pub returns-clause-remaining : goal.returns-clause-remaining
returns-clause-remaining c = λ n e. fresh_remaining _ refl n e

pub returns-clause-left : goal.returns-clause-left
returns-clause-left c = λ n e. fresh_left _ refl n e

pub returns-clause-costs : goal.returns-clause-costs
returns-clause-costs c = new_costs _ refl
