use Rattle.std.proofs.Common.{◌≡◌, map, drop}
use Rattle.rp_tree.specs.Tree.{tree_of}
use Rattle.rp_resolution.specs.Reading.{exclusion_among}
use Rattle.rp_resolution.proofs.pattern.+exclusion.Given as goal

abbrev pub invariant-exclusion_among-loop-part : goal.invariant-exclusion_among-loop-part
invariant-exclusion_among-loop-part l = exclusion_among (map tree_of (drop l.part-index l.parts)) ≡ exclusion_among (map tree_of l.fn.parts)
