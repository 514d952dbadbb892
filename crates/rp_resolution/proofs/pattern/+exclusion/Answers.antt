use Rattle.std.proofs.Common.{◌≡◌, ◌∙◌, ◌+◌, map, drop, sym, ap, None, Some}
use Rattle.std.proofs.lemmas.List.{drop_all}
use Rattle.rp_tree.specs.Tree.{tree_of, tree_step, Tree}
use Rattle.rp_tree.specs.Tree as tree
use Rattle.rp_tree.specs.declared.tree.Pattern.TheOpen as P
use Rattle.rp_tree.specs.declared.tree.Pattern.TheVariants as V
use Rattle.rp_tree.specs.declared.tree.Pattern.TheFolds.{fold-roll-Pattern}
use Rattle.rp_resolution.specs.PartFaults.{first_exclusion, first_of}
use Rattle.rp_resolution.specs.Reading.{exclusion_among}
use Rattle.rp_resolution.proofs.Each.{cut}
use Rattle.rp_resolution.proofs.Joining.{in_turn, one_of, beside, exclusion_joined}
use Rattle.rp_same_query.specs.Shapes as shape
use Rattle.rp_resolution.proofs.pattern.+exclusion.Goals as goal

pub exclusion_among-returns-in-Some : goal.exclusion_among-returns-in-Some
exclusion_among-returns-in-Some t c =
    let here : first_exclusion (tree_of c.part-item.result) ≡ Some c.in-Some.at = sym c.first_exclusion.ensures ∙ c.in-Some.is in
    let next = cut tree_of c.args.parts.now c.loop-part.part-index c.part-item.result c.loop-part-test.true c.part-item.is in
    sym (ap exclusion_among next ∙ ap (λ z. first_of z (exclusion_among (map tree_of (drop (c.loop-part.part-index + 1) c.args.parts.now)))) here) ∙ c.loop-part.invariant

pub exclusion_among-loop-part-preserved : goal.exclusion_among-loop-part-preserved
exclusion_among-loop-part-preserved t c =
    let here : first_exclusion (tree_of c.part-item.result) ≡ None = sym c.first_exclusion.ensures ∙ c.in_default.is in
    let next = cut tree_of c.args.parts.now c.loop-part.part-index c.part-item.result c.loop-part-test.true c.part-item.is in
    sym (ap exclusion_among next ∙ ap (λ z. first_of z (exclusion_among (map tree_of (drop (c.loop-part.part-index + 1) c.args.parts.now)))) here) ∙ c.loop-part.invariant

pub exclusion_among-returns : goal.exclusion_among-returns
exclusion_among-returns t c =
    sym (ap (λ z. exclusion_among (map tree_of z)) (drop_all c.loop-part.part-index c.args.parts.now c.loop-part-test.false)) ∙ c.loop-part.invariant

pub first_exclusion-returns-in-Concatenation : goal.first_exclusion-returns-in-Concatenation
first_exclusion-returns-in-Concatenation t c =
    let parts = c.in-Concatenation.parts in
    let whole : tree_of c.args.pattern.now ≡ tree.joined_all tree.Concatenation (map tree_of parts.items) = ap tree_of c.in-Concatenation.is ∙ (ap tree_of (sym (V.rolls-Concatenation parts)) ∙ fold-roll-Pattern Tree tree_step (P.Concatenation parts)) in
    c.exclusion_among.ensures ∙ (ap (λ z. exclusion_among (map tree_of z)) c.as_slice.ensures.value ∙ (sym (exclusion_joined tree.Concatenation shape.Concatenation in_turn (map tree_of parts.items)) ∙ ap first_exclusion (sym whole)))

pub first_exclusion-returns-in-Alternation : goal.first_exclusion-returns-in-Alternation
first_exclusion-returns-in-Alternation t c =
    let parts = c.in-Alternation.parts in
    let whole : tree_of c.args.pattern.now ≡ tree.joined_all tree.Alternation (map tree_of parts.items) = ap tree_of c.in-Alternation.is ∙ (ap tree_of (sym (V.rolls-Alternation parts)) ∙ fold-roll-Pattern Tree tree_step (P.Alternation parts)) in
    c.exclusion_among-in-Alternation.ensures ∙ (ap (λ z. exclusion_among (map tree_of z)) c.as_slice-in-Alternation.ensures.value ∙ (sym (exclusion_joined tree.Alternation shape.Alternation one_of (map tree_of parts.items)) ∙ ap first_exclusion (sym whole)))

pub first_exclusion-returns-in-Permute : goal.first_exclusion-returns-in-Permute
first_exclusion-returns-in-Permute t c =
    let parts = c.in-Permute.parts in
    let whole : tree_of c.args.pattern.now ≡ tree.Permute c.in-Permute.at (tree.joined_all tree.Beside (map tree_of parts.items)) = ap tree_of c.in-Permute.is ∙ (ap tree_of (sym (V.rolls-Permute c.in-Permute.at parts)) ∙ fold-roll-Pattern Tree tree_step (P.Permute c.in-Permute.at parts)) in
    c.exclusion_among-in-Permute.ensures ∙ (ap (λ z. exclusion_among (map tree_of z)) c.as_slice-in-Permute.ensures.value ∙ (sym (exclusion_joined tree.Beside shape.Beside beside (map tree_of parts.items)) ∙ ap first_exclusion (sym whole)))
