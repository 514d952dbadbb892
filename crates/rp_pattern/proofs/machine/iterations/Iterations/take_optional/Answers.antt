use Rattle.std.proofs.Common.{◌∷◌}
use Rattle.rp_pattern.specs.Continuations.{iterations_part, tail_parts}
use Rattle.rp_pattern.specs.Splits.{AlwaysSplits}
use Rattle.rp_pattern.proofs.Steps.{OnOk-map}
use Rattle.rp_pattern.proofs.machine.iterations.Iterations.take_optional.Goals as goal

pub returns : goal.returns
returns c =
    OnOk-map _ (AlwaysSplits c.args.row (λ n e. iterations_part n e 0 c.args.self.now ∷ tail_parts n e c.args.then.now) c.another_or.new.split)
    (λ h n e. h c.args.row n e c.args.further (tail_parts n e c.args.then.now) c.requires.further (c.in_ok-again.ensures n e) (c.requires.stop n e))
    c.another_or.result c.another_or.ensures
