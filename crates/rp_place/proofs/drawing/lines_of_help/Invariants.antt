use Rattle.std.proofs.Common.{◌≡◌, map, string_bytes}
use Rattle.std.specs.List.{flat_map}
use Rattle.rp_place.specs.Drawn.{help_line}
use Rattle.rp_place.proofs.drawing.lines_of_help.Given as goal

abbrev pub invariant-loop-line : goal.invariant-loop-line
invariant-loop-line l = string_bytes l.lines ≡ flat_map help_line (map (λ y. y.now) l.yielded)
