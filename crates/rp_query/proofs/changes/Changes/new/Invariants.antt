use Rattle.std.proofs.Common.{ℕ, ◌≡◌, ◌<◌, ◌+◌, ◌-◌, [], map, length}
use Rattle.std.specs.Prelude.{slice_get}
use Rattle.rp_query.specs.Changes.{change_of, or_others}
use Rattle.rp_query.proofs.changes.Changes.new.Given as goal

abbrev pub invariant-loop-by_variable : goal.invariant-loop-by_variable
invariant-loop-by_variable l = (variable : ℕ) → variable < length l.by_variable.items → or_others [] (slice_get l.by_variable.items variable) ≡ map (change_of variable) l.totals

abbrev pub decreases-loop-by_variable : goal.decreases-loop-by_variable
decreases-loop-by_variable l = l.greatest + 1 - length l.by_variable.items
