use Rattle.std.proofs.Common.{◌≡◌, ℕ, ◌<◌, true}
use Rattle.rp_query.specs.Definitions.{definition_of}
use Rattle.rp_query.specs.LooksBack.{looks_back_where_defined}
use Rattle.rp_query.proofs.query.Plan.looks_back.Given as goal

abbrev pub invariant-loop-variable : goal.invariant-loop-variable
invariant-loop-variable l = (v : ℕ) → v < l.variable → looks_back_where_defined (definition_of l.self v) ≡ true
