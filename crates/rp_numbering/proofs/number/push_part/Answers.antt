use Rattle.std.proofs.Common.{◌≡◌, ◌∙◌, ◌+◌, ◌++◌, ◌∷◌, [], length, ap, sym, arith, append_assoc, length-append}
use Rattle.std.proofs.lemmas.Grind.{common_steps}
use Rattle.std.specs.Vec.Iter.{into_iter_items}
use Rattle.rp_numbering.specs.Numbered.{numbered_from}
use Rattle.rp_feed.specs.declared.packet.Packet.TheVariants.{Row}
use Rattle.rp_numbering.proofs.Numbering.{numbered_more}
use Rattle.rp_numbering.proofs.number.push_part.Goals as goal

pub loop-cells-preserved : goal.loop-cells-preserved
loop-cells-preserved c =
    let inv = c.loop-cells.invariant in
    let place : c.loop-cells.number + 1 ≡ 1 + length c.loop-cells.yielded = omega arith in
    let gives : into_iter_items c.loop-cells.cells-iterator ≡ c.in-Some.cells ∷ into_iter_items c.next.new.self = grind (arith, common_steps, c.in-Some.ensures.steps) in
    record {
      written = c.in_ok-push.ensures ∙ ap (λ t. t ++ Row (c.loop-cells.number + 1) c.in-Some.cells ∷ []) inv.written
          ∙ append_assoc c.args.packets.now.items (numbered_from 1 c.loop-cells.yielded) (Row (c.loop-cells.number + 1) c.in-Some.cells ∷ [])
          ∙ sym (ap (λ t. c.args.packets.now.items ++ t) (numbered_more 1 (c.loop-cells.number + 1) c.loop-cells.yielded c.in-Some.cells place));
      count = omega (arith, length-append c.loop-cells.yielded (c.in-Some.cells ∷ []));
      left = append_assoc c.loop-cells.yielded (c.in-Some.cells ∷ []) (into_iter_items c.next.new.self) ∙ ap (λ t. c.loop-cells.yielded ++ t) (sym gives) ∙ inv.left;
    }
