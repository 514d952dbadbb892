use Rattle.rp_value.specs.contracts.value.ValueOrd.TheImpl.Laws.{total-law}
use Rattle.rp_numbering.proofs.Orders.{value_total, rows_weak}
use Rattle.rp_whole.proofs.RowsFit.{fitting}
use Rattle.rp_whole.proofs.laws.law_fitting.Goals as goal

pub returns : goal.returns
returns c = fitting (rows_weak (value_total _ total-law c.law_value_order.ensures.order))
