use Rattle.std.proofs.Common.{arith, ◌≡◌, ◌∙◌, ◌++◌, ◌∷◌, [], sym, ap, append_assoc}
use Rattle.std.proofs.lemmas.Grind.{common_steps}
use Rattle.std.specs.Cmp.{IsEquivalence}
use Rattle.std.specs.Vec.Iter.{into_iter_items}
use Rattle.rp_value.specs.contracts.cells.CellsEq.TheImpl.Laws.{laws-law}
use Rattle.rp_query.specs.Keys.{same_key, values_in}
use Rattle.rp_numbering.specs.Gathering.{with_row}
use Rattle.rp_numbering.proofs.Gathering.{partitions_more}
use Rattle.rp_numbering.proofs.partition.gather.Goals as goal

pub loop-row-preserved : goal.loop-row-preserved
loop-row-preserved c =
    let laws : IsEquivalence same_key = laws-law in
    let inv = c.loop-row.invariant in
    let before = c.loop-row.yielded in
    let row = c.in-Some.row in
    let gives : into_iter_items c.loop-row.row-iterator ≡ row ∷ into_iter_items c.next.new.self = grind (arith, common_steps, c.in-Some.ensures.steps) in
    record {
      gathered = c.in_ok-room.ensures
          ∙ ap (λ parts. with_row parts (values_in c.args.columns.now row) row) inv.gathered
          ∙ sym (partitions_more laws c.args.columns.now before row);
      left = append_assoc before (row ∷ []) (into_iter_items c.next.new.self) ∙ ap (λ t. before ++ t) (sym gives) ∙ inv.left;
    }
