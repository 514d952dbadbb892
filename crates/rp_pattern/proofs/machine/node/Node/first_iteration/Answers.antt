use Rattle.std.proofs.Common.{◌≡◌, ◌∷◌, ◌+◌, ◌-◌, ℕ, None, Some, arith, subst}
use Rattle.rp_pattern.specs.Continuations.{iterations_part, node_part, tail_parts}
use Rattle.rp_pattern.specs.Splits.{AlwaysSplits, SplitsAt}
use Rattle.rp_pattern.proofs.OrderRests.{IfOk-map}
use Rattle.rp_pattern.proofs.Steps.{same_splits}
use Rattle.rp_pattern.proofs.machine.node.Node.first_iteration.Goals as goal

pub returns : goal.returns
returns c =
    let a = c.args in
    let it = c.in_ok-iterations.iterations in
    let all : a.lower - 1 + 1 ≡ a.lower = omega (arith, c.requires.some) in
    IfOk-map _ (λ first. (row : ℕ) → AlwaysSplits row (λ n e. node_part n e a.self.now ∷ tail_parts n e a.then.now) (record { preferred = None; other = Some first }))
    (λ first h row n e.
    let ts = tail_parts n e a.then.now in
    let same = c.in_ok-iterations.ensures.part n e row in
    same_splits n e row (iterations_part n e a.lower it) (node_part n e a.self.now) ts _ same.0 same.1
    (subst (λ k. SplitsAt n e row (iterations_part n e k it ∷ ts) (record { preferred = None; other = Some first })) all (h row n e)))
    c.into_first.result c.into_first.ensures
