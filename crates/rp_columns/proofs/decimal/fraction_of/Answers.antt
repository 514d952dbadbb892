use Rattle.rp_columns.specs.Fronts.{leading_digits}
use Rattle.rp_columns.proofs.decimal.fraction_of.Goals as goal

pub returns-in-None-clause-value : goal.returns-in-None-clause-value
unfolding leading_digits
returns-in-None-clause-value c = rw c.in-None.ensures c.placed-value.ensures.value
