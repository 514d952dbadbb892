use Rattle.std.proofs.Common.{◌≡◌, ℕ, ◌<◌, Some}
use Rattle.rp_query.specs.declared.plan.Condition.{Condition}
use Rattle.rp_query.specs.Definitions.{definition_of}
use Rattle.rp_describe.specs.Said.{IsSaidOf}
use Rattle.rp_describe.proofs.looks.all_looks.Given as goal

abbrev pub invariant-loop-number : goal.invariant-loop-number
invariant-loop-number l = (v : ℕ) → v < l.number → (c : Condition) → definition_of l.query.plan v ≡ Some c → IsSaidOf l.query v c l.all
