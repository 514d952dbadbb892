use Rattle.std.proofs.Common.{◌≡◌, ◌++◌, map, drop}
use Rattle.rp_tree.specs.Clauses.{measure_tree}
use Rattle.rp_resolution.specs.Context.{context_of}
use Rattle.rp_resolution.specs.PartFaults.{measure_faults}
use Rattle.rp_query.specs.Formulas.{plain_total, value_formula}
use Rattle.rp_resolution.specs.Output.{measure_columns}
use Rattle.rp_resolution.specs.Queries.{terms_of_measures}
use Rattle.rp_resolution.proofs.Each.{IsLeft}
use Rattle.rp_resolution.proofs.Terms.{AreDone}
use Rattle.rp_resolution.proofs.expressions.measures.Given as goal

abbrev pub invariant-loop-i : goal.invariant-loop-i
invariant-loop-i l = record {
  clean : IsLeft measure_tree (measure_faults (context_of l.names)) l.written l.i;
  done : AreDone (context_of l.names) (map plain_total l.fn.totals.items) (terms_of_measures (map measure_tree l.written)) (map value_formula l.exprs.items) (map plain_total l.totals.items) (terms_of_measures (map measure_tree (drop l.i l.written)));
  shown : l.shown.items ++ measure_columns (context_of l.names) l.i (map measure_tree (drop l.i l.written)) ≡ l.fn.shown.items ++ measure_columns (context_of l.names) 0 (map measure_tree l.written);
}
