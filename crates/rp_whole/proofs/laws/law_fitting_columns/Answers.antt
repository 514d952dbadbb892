use Rattle.rp_value.specs.contracts.value.ValueOrd.TheImpl.Laws.{total-law}
use Rattle.rp_numbering.proofs.Orders.{value_total, rows_weak}
use Rattle.rp_whole.proofs.ColumnsFit.{fitting_columns}
use Rattle.rp_whole.proofs.laws.law_fitting_columns.Goals as goal

pub returns : goal.returns
returns c = fitting_columns (rows_weak (value_total _ total-law c.law_value_order.ensures.order))
