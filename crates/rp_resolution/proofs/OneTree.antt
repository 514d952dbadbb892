-- A pattern is one part, and not several beside each other.
use Rattle.std.proofs.Common.{◌≡◌, ◌∙◌, suc, List, [], ◌∷◌, map, length, refl, sym, ap, subst}
use Rattle.std.specs.Prelude.{nat_le}
use Rattle.rp_tree.specs.declared.tree.Pattern.{Pattern}
use Rattle.rp_tree.specs.declared.tree.Pattern.TheOpen.{Pattern-F, Variable, Empty, PartitionStart, PartitionEnd, Concatenation, Alternation, Permute, Exclusion, Quantified}
use Rattle.rp_tree.specs.declared.tree.Pattern.TheViews.{roll-Pattern}
use Rattle.rp_tree.specs.declared.tree.Pattern.TheFolds.{map-Pattern, fold-roll-Pattern, ind-Pattern}
use Rattle.rp_tree.specs.Tree as tree
use Rattle.rp_tree.specs.Tree.{Tree, tree_of, tree_step}
use Rattle.rp_resolution.specs.PartFaults.{part_count}

abbrev IsOne : Pattern → Type 0
IsOne p = part_count (tree_of p) ≡ 1

abbrev trees : Pattern-F ((p : Pattern) × IsOne p) → Pattern-F Pattern
trees y = map-Pattern ((p : Pattern) × IsOne p) Pattern (λ q. q.0) y

abbrev parts_of : Pattern-F ((p : Pattern) × IsOne p) → Pattern-F Tree
parts_of y = map-Pattern Pattern Tree tree_of (trees y)

one_concatenation : (qs : List ((p : Pattern) × IsOne p)) → part_count (tree.joined_all tree.Concatenation (map tree_of (map (λ q. q.0) qs))) ≡ 1
one_concatenation [] = refl
one_concatenation (q ∷ []) = q.1
one_concatenation (q ∷ r ∷ rs) = refl

one_alternation : (qs : List ((p : Pattern) × IsOne p)) → part_count (tree.joined_all tree.Alternation (map tree_of (map (λ q. q.0) qs))) ≡ 1
one_alternation [] = refl
one_alternation (q ∷ []) = q.1
one_alternation (q ∷ r ∷ rs) = refl

layer : (y : Pattern-F ((p : Pattern) × IsOne p)) → part_count (tree_step (parts_of y)) ≡ 1
layer (Variable name) = refl
layer Empty = refl
layer PartitionStart = refl
layer PartitionEnd = refl
layer (Concatenation parts) = one_concatenation parts.items
layer (Alternation parts) = one_alternation parts.items
layer (Permute at parts) = refl
layer (Exclusion at body) = refl
layer (Quantified body quantifier) = refl

one_part : (p : Pattern) → IsOne p
one_part = ind-Pattern IsOne (λ x y is. subst (λ z. IsOne (roll-Pattern z)) is (ap part_count (fold-roll-Pattern Tree tree_step (trees y)) ∙ layer y))

beside_count : (p : Pattern) (ps : List Pattern) → part_count (tree.joined tree.Beside (tree_of p) (map tree_of ps)) ≡ length (p ∷ ps)
beside_count p [] = one_part p
beside_count p (q ∷ qs) = ap suc (beside_count q qs)

-- so many parts of PERMUTE are few enough
pub few_parts : (ps : List Pattern) → nat_le (length ps) 8 ≡ nat_le (part_count (tree.joined_all tree.Beside (map tree_of ps))) 8
few_parts [] = refl
few_parts (p ∷ ps) = ap (λ n. nat_le n 8) (sym (beside_count p ps))
