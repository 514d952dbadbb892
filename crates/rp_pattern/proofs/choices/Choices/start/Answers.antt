use Rattle.std.proofs.Common.{refl}
use Rattle.rp_pattern.specs.Choices.{start_of}
use Rattle.rp_pattern.proofs.choices.Choices.start.Goals as goal

pub returns : goal.returns
unfolding start_of
returns c = refl
