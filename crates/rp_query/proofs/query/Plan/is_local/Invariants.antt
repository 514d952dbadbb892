use Rattle.std.proofs.Common.{◌≡◌, ℕ, ◌<◌, true}
use Rattle.rp_query.specs.Locality.{judges_locally}
use Rattle.rp_query.proofs.query.Plan.is_local.Given as goal

abbrev pub invariant-loop-variable : goal.invariant-loop-variable
invariant-loop-variable l = (v : ℕ) → v < l.variable → judges_locally l.locality l.self v ≡ true
