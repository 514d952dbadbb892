use Rattle.std.proofs.Common.{arith, ◌≡◌, ◌∙◌, ◌++◌, ◌∷◌, [], ap, cond, sym, append_assoc}
use Rattle.std.proofs.lemmas.Grind.{common_steps}
use Rattle.std.proofs.lemmas.List.Elements.{filter-append}
use Rattle.std.specs.List.{filter}
use Rattle.std.specs.Vec.Iter.{into_iter_items}
use Rattle.rp_filter.specs.Meets.{meets}
use Rattle.rp_filter.proofs.filter.Filter.keep.Goals as goal

pub loop-row-preserved : goal.loop-row-preserved
loop-row-preserved c =
    let test = meets c.args.self.now.query in
    let inv = c.loop-row.invariant in
    let before = c.loop-row.yielded in
    let row = c.in-Some.row in
    let gives : into_iter_items c.loop-row.row-iterator ≡ row ∷ into_iter_items c.next.new.self = grind (arith, common_steps, c.in-Some.ensures.steps) in
    record {
      kept = c.in_ok-keep_if.ensures
          ∙ ap (λ rows. rows ++ cond c.in_ok-met.met (row ∷ []) []) inv.kept
          ∙ ap (λ met. filter test before ++ cond met (row ∷ []) []) c.in_ok-met.ensures
          ∙ sym (filter-append test before (row ∷ []));
      left = append_assoc before (row ∷ []) (into_iter_items c.next.new.self) ∙ ap (λ t. before ++ t) (sym gives) ∙ inv.left;
    }
