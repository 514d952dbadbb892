use Rattle.std.proofs.Common.{◌≡◌, ◌∷◌, ◌+◌, length, sym, ap, ◌∙◌, arith}
use Rattle.std.proofs.lemmas.List.{length-map}
use Rattle.rp_pattern.specs.PermutedParts.{permuted_parts}
use Rattle.rp_words.specs.Permutations.{factorial}
use Rattle.rp_program.specs.Parts.{form_part}
use Rattle.rp_pattern.specs.Continuations.{permuted_form_parts, links_parts, tail_parts, reached_parts}
use Rattle.rp_words.proofs.OrdersAt.{factorial_small}
use Rattle.rp_pattern.proofs.OrderRests.{no_order, permuted_same}
use Rattle.rp_pattern.proofs.Steps.{stands_as}
use Rattle.rp_pattern.specs.declared.machine.continuation.Continuation.TheVariants.{Reached}
use Rattle.rp_words.specs.Turns.{orders_from}
use Rattle.rp_pattern.proofs.machine.orders.Orders.after.Goals as goal

pub overflow_add-from : goal.overflow_add-from
overflow_add-from c =
    let o = c.args.self.now in
    let long : length (permuted_parts o.permute.form.value) ≡ length c.parts.result.now = sym (ap length c.parts.ensures.parts) ∙ length-map c.parts.result.now (λ p. p.value) in
    let room = o.there in
    let count = ap factorial long in
    let few = factorial_small (length c.parts.result.now) c.parts.ensures.few in
    omega (arith, room, count, few)

pub returns-then-from-count : goal.returns-then-from-count
returns-then-from-count c = λ n e i.
    let o = c.args.self.now in
    let fs = permuted_parts o.permute.form.value in
    let long : length fs ≡ length c.parts.result.now = sym (ap length c.parts.ensures.parts) ∙ length-map c.parts.result.now (λ p. p.value) in
    let longs : length (permuted_form_parts n e o.permute) ≡ length c.parts.result.now = length-map fs (λ f. form_part n e f o.permute.excluded) ∙ long in
    no_order n e i (o.from + 1) (permuted_form_parts n e o.permute) (tail_parts n e c.args.then.now) (omega (arith, c.factorial-count.ensures, ap factorial longs, c.if-from-count.true))

pub returns : goal.returns
returns c = λ n e i.
    let o = c.args.self.now in
    let ts = tail_parts n e c.args.then.now in
    let copy = c.in_ok-share.field-0 in
    let link = c.in_ok-link.link in
    stands_as n e i (Reached link) (orders_from (o.from + 1) (permuted_form_parts n e o.permute) ∷ ts)
    (ap (reached_parts n e) c.in_ok-link.ensures
    ∙ ap (λ ls. orders_from (o.from + 1) (permuted_form_parts n e copy) ∷ links_parts n e ls) c.in_ok-share-2.ensures
    ∙ ap (λ ps. orders_from (o.from + 1) ps ∷ ts) (permuted_same n e copy o.permute c.in_ok-share.ensures))
