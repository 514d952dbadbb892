use Rattle.std.proofs.Common.{◌≡◌, drop, take}
use Rattle.rp_objects.specs.Paths.{path_of}
use Rattle.rp_objects.proofs.PathParts.{onto}
use Rattle.rp_objects.proofs.path.first_part.Given as goal

abbrev pub invariant-loop-at : goal.invariant-loop-at
invariant-loop-at l = path_of l.path ≡ onto (take l.at l.path) (path_of (drop l.at l.path))
