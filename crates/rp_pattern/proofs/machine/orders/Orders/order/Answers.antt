use Rattle.std.proofs.Common.{◌≡◌, ◌<◌, ◌∷◌, ◌+◌, drop, length, sym, ap, ◌∙◌, subst}
use Rattle.std.specs.List.{AllByRecursion}
use Rattle.std.proofs.lemmas.List.{length-map}
use Rattle.rp_pattern.specs.PermutedParts.{permuted_parts}
use Rattle.rp_words.specs.Words.{orders}
use Rattle.rp_words.specs.Permutations.{upto}
use Rattle.rp_pattern.proofs.OrderRests.{items_below, IfOk-map}
use Rattle.rp_pattern.proofs.machine.orders.Orders.order.Goals as goal

pub returns-clause-within : goal.returns-clause-within
returns-clause-within c =
    let o = c.args.self.now in
    let k = length c.parts.result.now in
    let long : k ≡ length (permuted_parts o.permute.form.value) = sym (length-map c.parts.result.now (λ p. p.value)) ∙ ap length c.parts.ensures.parts in
    IfOk-map (λ v. drop o.from (orders (upto k)) ≡ v.items ∷ drop (o.from + 1) (orders (upto k))) (λ v. AllByRecursion (λ x. x < length (permuted_parts o.permute.form.value)) v.items)
    (λ v h. subst (λ m. AllByRecursion (λ x. x < m) v.items) long (items_below k o.from v.items (drop (o.from + 1) (orders (upto k))) h)) c.permutation_at.result c.permutation_at.ensures
