use Rattle.std.proofs.Common.{◌&&◌, ◌∙◌, ap, sym, map, length, subst, IsTrue}
use Rattle.std.specs.Prelude.{nat_le}
use Rattle.rp_words.specs.Bounds.{is_allowed}
use Rattle.rp_words.specs.Variables.{all_true}
use Rattle.rp_words.proofs.FormEquations.{allowed_permute}
use Rattle.rp_pattern.specs.PermutedParts.{permuted_parts}
use Rattle.rp_pattern.proofs.OrderRests.{and_last, permuted_permute}
use Rattle.rp_pattern.proofs.machine.node.Node.parts.Goals as goal

pub returns-in-Permute-clause-allowed : goal.returns-in-Permute-clause-allowed
returns-in-Permute-clause-allowed c =
    let ps = c.in-Permute.parts in
    let whole = sym (allowed_permute ps) ∙ ap is_allowed (sym c.in-Permute.is ∙ c.deref.ensures) ∙ c.args.self.now.allowed in
    subst (λ xs. IsTrue (all_true (map (λ p. is_allowed p.value) xs))) (sym c.deref-in-Permute.ensures.value)
    (and_last (nat_le 1 (length ps.items) && nat_le (length ps.items) 8) (all_true (map (λ p. is_allowed p.value) ps.items)) whole)

pub returns-in-Permute-clause-parts : goal.returns-in-Permute-clause-parts
returns-in-Permute-clause-parts c =
    ap (map (λ f. f.value)) c.deref-in-Permute.ensures.value ∙ sym (permuted_permute c.in-Permute.parts) ∙ ap permuted_parts (sym c.in-Permute.is ∙ c.deref.ensures)
