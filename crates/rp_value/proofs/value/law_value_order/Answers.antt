use Rattle.rp_value.proofs.Orders.{value_order-reversed}
use Rattle.rp_value.proofs.value.law_value_order.Goals as goal

pub returns-clause-exchanged : goal.returns-clause-exchanged
returns-clause-exchanged c = value_order-reversed
