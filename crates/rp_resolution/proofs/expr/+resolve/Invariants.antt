use Rattle.std.proofs.Common.{map, drop}
use Rattle.rp_tree.specs.Terms.{term_of, operand_of}
use Rattle.rp_query.specs.Formulas.{plain_total}
use Rattle.rp_resolution.specs.Context.{context_of}
use Rattle.rp_resolution.proofs.Chains.{SoFar, GoneThrough}
use Rattle.rp_resolution.proofs.expr.+resolve.Given as goal

abbrev pub decreases-resolve : goal.decreases-resolve
decreases-resolve l = goal.size-resolve l

abbrev pub invariant-sums : goal.invariant-sums
invariant-sums l = SoFar (context_of l.names) (map plain_total l.fn.totals.items) (term_of l.expr) l.sum (map plain_total l.totals.items) (map operand_of (drop l.operation-index l.operation-items))

abbrev pub invariant-lasts : goal.invariant-lasts
invariant-lasts l = GoneThrough (context_of l.names) (map plain_total l.fn.totals.items) (term_of l.expr) l.lefts.items l.last (map plain_total l.totals.items) (map operand_of (drop l.operation-index l.operation-items))
