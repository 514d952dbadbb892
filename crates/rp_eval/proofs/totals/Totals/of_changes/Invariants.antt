use Rattle.std.proofs.Common.{◌≡◌, map, take}
use Rattle.rp_query.specs.declared.plan.Total.{Total}
use Rattle.rp_eval.proofs.KeptSeries.{nothing}
use Rattle.rp_eval.proofs.totals.Totals.of_changes.Given as goal

abbrev pub invariant-loop-total : goal.invariant-loop-total
invariant-loop-total l = l.series.items ≡ map (λ (t : Total). nothing) (take l._total-index l.plan.value.items)
