use Rattle.std.proofs.Common.{◌∷◌, subst}
use Rattle.rp_words.specs.Turns.{orders_from}
use Rattle.rp_pattern.specs.Continuations.{node_part, tail_parts}
use Rattle.rp_pattern.specs.Splits.{AlwaysSplits, SplitsAt}
use Rattle.rp_words.proofs.OrdersAt.{factorial_positive}
use Rattle.rp_pattern.proofs.OrderRests.{IfOk-map, permute_splits, permuted_same}
use Rattle.rp_pattern.proofs.machine.node.Node.take_permute.Goals as goal

pub invariant_of-orders : goal.invariant_of-orders
invariant_of-orders c = record { there = factorial_positive _ }

pub returns : goal.returns
returns c =
    let a = c.args in
    let node = a.self.now in
    let copy = c.in_ok-share.field-0 in
    IfOk-map _ (AlwaysSplits a.row (λ n e. node_part n e node ∷ tail_parts n e a.then.now)) (λ s h n e.
    permute_splits n e a.row node.excluded node.form.value c.requires.0 (tail_parts n e a.then.now) s c.requires.1
    (subst (λ ps. SplitsAt n e a.row (orders_from 0 ps ∷ tail_parts n e a.then.now) s) (permuted_same n e copy node c.in_ok-share.ensures) (h n e)))
    c.take_apart.result c.take_apart.ensures
