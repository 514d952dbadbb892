use Rattle.std.proofs.Common.{◌≡◌, ◌++◌, [], ◌∷◌, map, length}
use Rattle.rp_words.specs.Bounds.{is_allowed}
use Rattle.rp_words.specs.Variables.{all_true}
use Rattle.rp_resolution.specs.Joints.{shape_joint}
use Rattle.rp_same_query.specs.Shapes as shape
use Rattle.rp_same_query.specs.Shapes.{shape_of}
use Rattle.rp_resolution.proofs.pattern.join_all.Given as goal

abbrev pub invariant-loop-part : goal.invariant-loop-part
invariant-loop-part l = record {
  shape : shape.joined_all (shape_joint l.joint) (map shape_of l.parts.items ++ shape_of l.last ∷ []) ≡ shape.joined_all (shape_joint l.joint) (map shape_of l.fn.parts.items);
  allowed : all_true (map is_allowed l.parts.items ++ is_allowed l.last ∷ []) ≡ all_true (map is_allowed l.fn.parts.items);
}

abbrev pub decreases-loop-part : goal.decreases-loop-part
decreases-loop-part l = length l.parts.items
