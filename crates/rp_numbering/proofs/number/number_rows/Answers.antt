use Rattle.std.proofs.Common.{◌≡◌, ◌∙◌, List, ◌++◌, ◌∷◌, [], sym, ap, subst, arith, append-nil}
use Rattle.std.proofs.lemmas.Grind.{common_steps}
use Rattle.std.specs.Vec.Iter.{into_iter_items}
use Rattle.rp_numbering.specs.Gathering.{parts_of}
use Rattle.rp_numbering.specs.Numbered.{AreOrdered, AreOrderedParts, part_packets}
use Rattle.rp_numbering.specs.Partitions.{Part}
use Rattle.rp_numbering.proofs.Numbering.{order_next, packets_more}
use Rattle.rp_numbering.proofs.number.number_rows.Goals as goal

pub loop-key-preserved : goal.loop-key-preserved
loop-key-preserved c =
    let query = c.args.query.now in
    let inv = c.loop-key.invariant in
    let ordered = c.order_rows.new.rows.items in
    let left = into_iter_items c.next.new.self in
    let gives : into_iter_items c.loop-key.key-iterator ≡ c.in-Some.field-0 ∷ left = grind (arith, common_steps, c.in-Some.ensures.steps) in
    let all : (later : List Part) → AreOrdered query.order.items ((c.in-Some.field-0.key, c.in-Some.field-0.rows.items) ∷ parts_of left) later → AreOrderedParts query.partition.items query.order.items c.args.rows.items (inv.0 ++ later) =
    λ later h. inv.2 later (subst (λ parts. AreOrdered query.order.items (parts_of parts) later) (sym gives) h) in (
      inv.0 ++ (c.in-Some.field-0.key, ordered) ∷ [],
      c.in_ok-push_part.ensures ∙ ap (λ t. t ++ part_packets (c.in-Some.field-0.key, ordered)) inv.1 ∙ sym (packets_more inv.0 (c.in-Some.field-0.key, ordered)),
      order_next query.order.items (AreOrderedParts query.partition.items query.order.items c.args.rows.items) inv.0 (parts_of left) c.in-Some.field-0.key c.in-Some.field-0.rows.items ordered c.in_ok-order_rows.ensures.ok all,
    )

pub returns : goal.returns
returns c =
    let query = c.args.query.now in
    let inv = c.loop-key.invariant in
    let none : into_iter_items c.loop-key.key-iterator ≡ [] = grind (arith, common_steps, c.in-None.ensures.steps) in
    let all = inv.2 [] (subst (λ parts. AreOrdered query.order.items (parts_of parts) []) (sym none) tt) in
    (inv.0, subst (AreOrderedParts query.partition.items query.order.items c.args.rows.items) (append-nil inv.0) all, inv.1)
