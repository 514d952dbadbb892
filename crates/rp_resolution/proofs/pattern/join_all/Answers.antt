use Rattle.std.proofs.Common.{◌≡◌, ◌∙◌, ◌++◌, [], ◌∷◌, map, ap}
use Rattle.std.proofs.lemmas.List.{map_push}
use Rattle.std.specs.Option.{option_to_list}
use Rattle.rp_words.specs.Bounds.{is_allowed}
use Rattle.rp_resolution.specs.Joints.{shape_joint}
use Rattle.rp_same_query.specs.Shapes.{shape_of}
use Rattle.rp_resolution.proofs.Joining.{last_joined, last_allowed}
use Rattle.rp_resolution.proofs.pattern.join_all.Goals as goal

pub loop-part-preserved : goal.loop-part-preserved
loop-part-preserved c =
    let popped : c.loop-part.parts.items ≡ c.pop-in-loop-part.new.self.items ++ c.in-Some-pop.part ∷ [] =
    c.pop-in-loop-part.ensures.items ∙ ap (λ r. c.pop-in-loop-part.new.self.items ++ option_to_list r) c.in-Some-pop.is in
    let i = rw popped at c.loop-part.invariant in
    record {
      shape = rw (c.in_ok-last.ensures.shape, last_joined (shape_joint c.args.joint) (map shape_of c.pop-in-loop-part.new.self.items) (shape_of c.in-Some-pop.part) (shape_of c.loop-part.last), ← map_push shape_of c.pop-in-loop-part.new.self.items c.in-Some-pop.part) i.shape;
      allowed = rw (c.in_ok-last.ensures.allowed, ← last_allowed (map is_allowed c.pop-in-loop-part.new.self.items) (is_allowed c.in-Some-pop.part) (is_allowed c.loop-part.last), ← map_push is_allowed c.pop-in-loop-part.new.self.items c.in-Some-pop.part) i.allowed;
    }
