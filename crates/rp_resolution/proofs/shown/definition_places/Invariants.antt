use Rattle.std.proofs.Common.{◌≡◌, map, take}
use Rattle.rp_tree.specs.Clauses.{definition_tree}
use Rattle.rp_resolution.specs.Queries.{definition_place}
use Rattle.rp_resolution.proofs.shown.definition_places.Given as goal

abbrev pub invariant-loop-name : goal.invariant-loop-name
invariant-loop-name l = l.places.items ≡ map (definition_place (map definition_tree l.definitions)) (take l.name-index l.variables)
