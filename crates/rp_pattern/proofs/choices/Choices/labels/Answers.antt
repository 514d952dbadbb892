use Rattle.rp_pattern.specs.Choices.{entered}
use Rattle.rp_pattern.proofs.choices.Choices.labels.Goals as goal

pub returns : goal.returns
unfolding entered
returns c = c.deref.ensures.value
