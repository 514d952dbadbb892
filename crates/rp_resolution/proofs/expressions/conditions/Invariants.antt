use Rattle.std.proofs.Common.{map, drop}
use Rattle.rp_tree.specs.Clauses.{definition_tree}
use Rattle.rp_resolution.specs.Context.{context_of}
use Rattle.rp_resolution.specs.PartFaults.{definition_faults}
use Rattle.rp_query.specs.Formulas.{plain_total, condition_formula}
use Rattle.rp_resolution.specs.Queries.{terms_of_definitions}
use Rattle.rp_resolution.proofs.Each.{IsLeft}
use Rattle.rp_resolution.proofs.Terms.{AreDone}
use Rattle.rp_resolution.proofs.expressions.conditions.Given as goal

abbrev pub invariant-loop-i : goal.invariant-loop-i
invariant-loop-i l = record {
  clean : IsLeft definition_tree (definition_faults (context_of l.names)) l.written l.i;
  done : AreDone (context_of l.names) (map plain_total l.fn.totals.items) (terms_of_definitions (map definition_tree l.written)) (map condition_formula l.conditions.items) (map plain_total l.totals.items) (terms_of_definitions (map definition_tree (drop l.i l.written)));
}
