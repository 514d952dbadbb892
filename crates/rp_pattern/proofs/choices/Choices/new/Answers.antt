use Rattle.std.proofs.Common.{refl}
use Rattle.rp_words.specs.PatternForm.{form_of}
use Rattle.rp_pattern.specs.Choices.{start_of, entered}
use Rattle.rp_pattern.proofs.ChoiceStacks.{new_from, new_left_from, new_whole, new_left, fresh_remaining, fresh_left}
use Rattle.rp_pattern.proofs.Costs.{new_costs}
use Rattle.rp_pattern.proofs.choices.Choices.new.Goals as goal

pub returns-clause-start : goal.returns-clause-start
unfolding start_of
returns-clause-start c = refl

pub returns-clause-labels : goal.returns-clause-labels
unfolding entered
returns-clause-labels c = c.new.ensures.items

pub returns-clause-from : goal.returns-clause-from
returns-clause-from c = λ n e row. new_from _ (form_of c.args.pattern.now) c.in_ok-new.ensures.keeps n e row

pub returns-clause-left_from : goal.returns-clause-left_from
returns-clause-left_from c = λ n e row. new_left_from _ (form_of c.args.pattern.now) c.in_ok-new.ensures.keeps n e row

pub returns-clause-whole : goal.returns-clause-whole
returns-clause-whole c = λ n e. new_whole _ (form_of c.args.pattern.now) c.in_ok-new.ensures.keeps n e

pub returns-clause-whole_turns : goal.returns-clause-whole_turns
returns-clause-whole_turns c = λ n e. new_left _ (form_of c.args.pattern.now) c.in_ok-new.ensures.keeps n e

pub returns-clause-remaining : goal.returns-clause-remaining
returns-clause-remaining c = λ n e. fresh_remaining _ refl n e

pub returns-clause-left : goal.returns-clause-left
returns-clause-left c = λ n e. fresh_left _ refl n e

pub returns-clause-costs : goal.returns-clause-costs
returns-clause-costs c = new_costs _ refl
