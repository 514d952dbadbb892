use Rattle.rp_value.specs.contracts.value.ValueOrd.TheImpl.Laws.{total-law}
use Rattle.rp_numbering.specs.Orders.{is_before}
use Rattle.rp_numbering.proofs.Orders.{value_total, rows_weak}
use Rattle.rp_numbering.proofs.Sinking.{is_sorted, is_stable, sorted}
use Rattle.rp_numbering.proofs.order.law_orders.Goals as goal

pub returns : goal.returns
returns c = λ order rows.
    let weak = rows_weak (value_total _ total-law c.law_value_order.ensures.order) order in
    (sorted (is_before order) rows, (is_sorted (is_before order) weak rows, is_stable (is_before order) weak rows))
