use Rattle.std.proofs.Common.{◌≡◌, ◌<◌, ◌∷◌, ◌++◌, ℕ, List, None, length, sym, ap, subst, arith, IsTrue}
use Rattle.std.specs.List.{AllByRecursion}
use Rattle.std.proofs.lemmas.List.{length-map, nil_from_length}
use Rattle.rp_words.specs.Bounds.{is_allowed}
use Rattle.rp_pattern.specs.PermutedParts.{permuted_parts}
use Rattle.rp_words.specs.declared.word.End.{End}
use Rattle.rp_pattern.specs.declared.machine.link.Part.TheVariants.{Whole}
use Rattle.rp_program.specs.Parts.{in_order}
use Rattle.rp_pattern.specs.Continuations.{links_parts, permuted_form_parts, tail_parts, tail_links}
use Rattle.rp_pattern.proofs.OrderRests.{allowed_at, next_linked, IfOk-map}
use Rattle.rp_pattern.proofs.machine.node.Node.+in_order.Goals as goal

pub bounds-parts-place : goal.bounds-parts-place
bounds-parts-place t c =
    let P : List ℕ → Type 0 = AllByRecursion (λ k. k < length (permuted_parts c.args.self.now.form.value)) in
    let below = subst P c.in-Some.ensures.cases.0 c.requires in
    omega (arith, below.0, ap length c.parts.ensures.parts, length-map c.parts.result.now (λ p. p.value))

pub of-requires : goal.of-requires
of-requires t c =
    let P : List ℕ → Type 0 = AllByRecursion (λ k. k < length (permuted_parts c.args.self.now.form.value)) in
    let below = subst P c.in-Some.ensures.cases.0 c.requires in
    let ps = c.parts.result.now in
    let room : c.in-Some.place.now < length ps = omega (arith, below.0, ap length c.parts.ensures.parts, length-map ps (λ p. p.value)) in
    subst (λ p. IsTrue (is_allowed p.value)) (sym c.index-parts-place.is) (allowed_at ps c.in-Some.place.now c.index-parts-place.result c.parts.ensures.allowed room)

pub in_order-requires : goal.in_order-requires
in_order-requires t c =
    let P : List ℕ → Type 0 = AllByRecursion (λ k. k < length (permuted_parts c.args.self.now.form.value)) in
    let below = subst P c.in-Some.ensures.cases.0 c.requires in
    (omega (arith, c.decreases, c.in-Some.ensures.cases.1), below.1)

pub returns : goal.returns
returns t c =
    let node = c.in_ok-of.field-0 in
    let rest = c.in_ok-in_order.field-0 in
    IfOk-map (λ tail. tail_links tail ≡ (None, Whole node) ∷ tail_links rest) (λ tail. (n : ℕ) (e : End) → tail_parts n e tail ≡ in_order (permuted_form_parts n e c.args.self.now) c.args.order.now ++ tail_parts n e c.args.then.now)
    (λ tail h n e.
    next_linked n e c.args.self.now node c.parts.result.now c.index-parts-place.result c.in-Some.place.now c.in-Some.places.now c.args.order.now tail rest c.args.then.now
    c.parts.ensures.parts c.requires c.in-Some.ensures.cases.0 c.index-parts-place.is c.in_ok-of.ensures (c.in_ok-in_order.ensures n e) h)
    c.linked.result c.linked.ensures

pub returns-in_default : goal.returns-in_default
returns-in_default t c =
    let none = nil_from_length c.args.order.now c.in_default.ensures.cases in
    IfOk-map (λ tail. tail_links tail ≡ tail_links c.args.then.now) (λ tail. (n : ℕ) (e : End) → tail_parts n e tail ≡ in_order (permuted_form_parts n e c.args.self.now) c.args.order.now ++ tail_parts n e c.args.then.now)
    (λ tail same n e. rw none (ap (links_parts n e) same)) c.share.result c.share.ensures
