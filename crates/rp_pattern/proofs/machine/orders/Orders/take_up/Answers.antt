use Rattle.std.proofs.Common.{◌≡◌, ◌<◌, ◌∷◌, ◌++◌, ◌+◌, length, sym, ap, ◌∙◌, subst}
use Rattle.std.specs.List.{AllByRecursion}
use Rattle.std.proofs.lemmas.List.{length-map}
use Rattle.rp_pattern.specs.PermutedParts.{permuted_parts}
use Rattle.rp_words.specs.Turns.{orders_from}
use Rattle.rp_program.specs.Parts.{in_order, form_part}
use Rattle.rp_pattern.specs.Continuations.{permuted_form_parts, tail_parts}
use Rattle.rp_pattern.specs.Splits.{StandsFor}
use Rattle.rp_pattern.proofs.Steps.{two_splits, replaces}
use Rattle.rp_pattern.proofs.OrderRests.{order_leaves}
use Rattle.rp_pattern.proofs.machine.orders.Orders.take_up.Goals as goal

pub in_order-requires : goal.in_order-requires
in_order-requires c = subst (AllByRecursion (λ k. k < length (permuted_parts c.args.self.now.permute.form.value))) (sym c.deref.ensures.value) c.in_ok-order.ensures.within

pub returns : goal.returns
returns c = λ n e.
    let o = c.args.self.now in
    let i = c.args.row in
    let ps = permuted_form_parts n e o.permute in
    let ts = tail_parts n e c.args.then.now in
    let fs = permuted_parts o.permute.form.value in
    let items = c.in_ok-order.order.items in
    let r = c.in_ok-reach_shared.field-0 in
    let order : tail_parts n e c.in_ok-first.first ≡ in_order ps items ++ ts = c.in_ok-first.ensures n e ∙ ap (λ z. in_order ps z ++ ts) c.deref.ensures.value in
    two_splits n e i (orders_from o.from ps ∷ ts) (in_order ps items ++ ts) (orders_from (o.from + 1) ps ∷ ts) r c.in_ok-after.field-0
    (replaces n e i _ r (subst (λ z. StandsFor n e i z r) order (c.in_ok-reach_shared.ensures n e))) (replaces n e i _ c.in_ok-after.field-0 (c.in_ok-after.ensures n e i))
    (order_leaves o.from ps (length fs) items ts i (sym (length-map fs (λ f. form_part n e f o.permute.excluded))) c.in_ok-order.ensures.order)
