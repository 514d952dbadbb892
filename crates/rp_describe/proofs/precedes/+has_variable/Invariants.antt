use Rattle.std.proofs.Common.{drop}
use Rattle.std.specs.List.{AllByRecursion}
use Rattle.rp_describe.specs.Precedes.{HasNoRow}
use Rattle.rp_describe.proofs.precedes.+has_variable.Given as goal

abbrev pub invariant-loop-part : goal.invariant-loop-part
invariant-loop-part l = AllByRecursion (λ p. HasNoRow l.variable p.value) (drop l.part-index l.part-items) → HasNoRow l.variable l.form
