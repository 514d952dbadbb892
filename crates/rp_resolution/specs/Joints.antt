-- Inside: how parts of a pattern are joined.
use Rattle.rp_tree.specs.Tree as tree
use Rattle.rp_tree.specs.Tree.{Tree}
use Rattle.rp_same_query.specs.Shapes as shape
use Rattle.rp_same_query.specs.Shapes.{Shape}
use Rattle.rp_resolution.specs.declared.pattern.Joint.{Joint}
use Rattle.rp_resolution.specs.declared.pattern.Joint.TheVariants.{Concatenation, Alternation}

abbrev pub tree_joint : Joint → Tree → Tree → Tree
tree_joint Concatenation = tree.Concatenation
tree_joint Alternation = tree.Alternation

abbrev pub shape_joint : Joint → Shape → Shape → Shape
shape_joint Concatenation = shape.Concatenation
shape_joint Alternation = shape.Alternation
