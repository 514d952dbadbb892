use Rattle.rp_tree.specs.Clauses.{measure_tree}
use Rattle.rp_resolution.specs.PartFaults.{output_faults, shown_names}
use Rattle.rp_resolution.proofs.Each.{IsLeft}
use Rattle.rp_resolution.proofs.lists.allow_measures.Given as goal

abbrev pub invariant-loop-i : goal.invariant-loop-i
invariant-loop-i l = IsLeft measure_tree (output_faults (shown_names l.rows l.partition l.columns)) l.measures l.i
