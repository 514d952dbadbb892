use Rattle.std.proofs.Common.{◌∷◌, ◌+◌, ap, sym, subst}
use Rattle.rp_pattern.specs.Continuations.{iterations_part, tail_parts}
use Rattle.rp_pattern.specs.Splits.{SplitsAt}
use Rattle.rp_pattern.proofs.Steps.{iterations_as, splits_as}
use Rattle.rp_pattern.proofs.machine.iterations.Iterations.take_required.Goals as goal

pub returns : goal.returns
returns c = λ row n e.
    let it = c.args.self.now in
    let copy = c.in_ok-copy.copy in
    let l = c.args.lower + 1 in
    let ts = tail_parts n e c.args.then.now in
    splits_as n e row (iterations_part n e l copy ∷ ts) _ c.one.result (ap (λ z. z ∷ ts) (iterations_as n e l it copy it.further c.in_ok-copy.ensures))
    (subst (SplitsAt n e row (iterations_part n e l copy ∷ ts)) (sym c.one.ensures) (c.in_ok-first.ensures row n e))
