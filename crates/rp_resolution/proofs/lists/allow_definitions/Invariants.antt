use Rattle.rp_tree.specs.Clauses.{definition_tree}
use Rattle.rp_resolution.specs.PartFaults.{defined_faults}
use Rattle.rp_resolution.proofs.Each.{IsLeft}
use Rattle.rp_resolution.proofs.lists.allow_definitions.Given as goal

abbrev pub invariant-loop-i : goal.invariant-loop-i
invariant-loop-i l = IsLeft definition_tree (defined_faults l.variables) l.definitions l.i
