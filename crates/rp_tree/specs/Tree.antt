-- A row pattern as plain data, wherever its parts are kept.
use Rattle.std.specs.Prelude.{ℕ, List, [], ◌∷◌}
use Rattle.rp_grammar.specs.declared.written.Name.{Name}
use Rattle.rp_tree.specs.declared.tree.Quantifier.{Quantifier}
use Rattle.rp_tree.specs.declared.tree.Pattern.{Pattern}
use Rattle.rp_tree.specs.declared.tree.Pattern.TheOpen as P
use Rattle.rp_tree.specs.declared.tree.Pattern.TheFolds.{fold-Pattern}

-- The parts of a concatenation, an alternation and PERMUTE are nested from the right; those of PERMUTE by `Beside`.
pub data Tree : Type 0 where
  Variable : Name → Tree
  Empty : Tree
  PartitionStart : Tree
  PartitionEnd : Tree
  Concatenation : Tree → Tree → Tree
  Alternation : Tree → Tree → Tree
  Permute : ℕ → Tree → Tree
  Beside : Tree → Tree → Tree
  Exclusion : ℕ → Tree → Tree
  Quantified : Quantifier → Tree → Tree

-- a tree and those after it, as one tree, from the right
abbrev pub joined : (Tree → Tree → Tree) → Tree → List Tree → Tree
joined f t [] = t
joined f t (u ∷ us) = f t (joined f u us)

abbrev pub joined_all : (Tree → Tree → Tree) → List Tree → Tree
joined_all f [] = Empty
joined_all f (t ∷ ts) = joined f t ts

abbrev pub tree_step : P.Pattern-F Tree → Tree
tree_step (P.Variable name) = Variable name
tree_step P.Empty = Empty
tree_step P.PartitionStart = PartitionStart
tree_step P.PartitionEnd = PartitionEnd
tree_step (P.Concatenation parts) = joined_all Concatenation parts.items
tree_step (P.Alternation parts) = joined_all Alternation parts.items
tree_step (P.Permute at parts) = Permute at (joined_all Beside parts.items)
tree_step (P.Exclusion at body) = Exclusion at body.value
tree_step (P.Quantified body quantifier) = Quantified quantifier body.value

abbrev pub tree_of : Pattern → Tree
tree_of = fold-Pattern Tree tree_step
