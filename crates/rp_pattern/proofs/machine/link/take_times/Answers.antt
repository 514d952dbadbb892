use Rattle.std.proofs.Common.{refl}
use Rattle.rp_pattern.specs.declared.machine.link.Part.TheVariants.{Times}
use Rattle.rp_pattern.specs.Continuations.{links_from, reached_parts}
use Rattle.rp_pattern.specs.Splits.{AlwaysSplits}
use Rattle.rp_pattern.proofs.OrderRests.{IfOk-map}
use Rattle.rp_pattern.proofs.Steps.{splits_as}
use Rattle.rp_pattern.proofs.Tails.{reached_as}
use Rattle.rp_pattern.proofs.machine.link.take_times.Goals as goal

pub returns : goal.returns
returns c =
    let row = c.args.row in
    let l = c.args.link.now.value in
    let d = c.deref-2 in
    IfOk-map _ (AlwaysSplits row (λ n e. reached_parts n e (links_from l))) (λ split h n e.
    splits_as n e row _ (reached_parts n e (links_from l)) split (reached_as n e l l d.result.now (Times c.args.lower c.args.iterations.now) refl d.ensures c.requires) (h n e))
    c.take_apart.result c.take_apart.ensures
