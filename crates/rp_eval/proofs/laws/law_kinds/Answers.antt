use Rattle.rp_eval.proofs.Typed.{values_have_kinds, cells_have_kinds}
use Rattle.rp_eval.proofs.laws.law_kinds.Goals as goal

pub returns-clause-values : goal.returns-clause-values
returns-clause-values c = values_have_kinds

pub returns-clause-cells : goal.returns-clause-cells
returns-clause-cells c = cells_have_kinds
