use Rattle.std.proofs.Common.{refl, ◌∙◌}
use Rattle.rp_words.specs.PatternForm.{form_of}
use Rattle.rp_pattern.specs.Choices.{kept}
use Rattle.rp_pattern.proofs.ChoiceStacks.{new_whole, fresh_remaining}
use Rattle.rp_pattern.proofs.choices.Choices.linked.Goals as goal

pub returns-clause-linked : goal.returns-clause-linked
unfolding kept
returns-clause-linked c = c.in_ok-linked.ensures.linked

pub returns-clause-remaining : goal.returns-clause-remaining
returns-clause-remaining c = λ n e. fresh_remaining _ refl n e ∙ new_whole _ (form_of c.args.pattern.now) c.in_ok-linked.ensures.keeps n e
