use Rattle.std.proofs.Common.{OnOk, rules, subst}
use Rattle.std.proofs.lemmas.Fn.{always_returns_same}
use Rattle.rp_value.specs.contracts.value.ValueOrd.TheImpl.Laws.{total-law}
use Rattle.rp_numbering.specs.Orders.{IsOrdered}
use Rattle.rp_numbering.proofs.Orders.{rows_weak, sorted_by, value_total}
use Rattle.rp_numbering.proofs.order.order_rows.Goals as goal

pub returns-clause-ok : goal.returns-clause-ok
returns-clause-ok c =
    let order = c.order-order.result.now in
    let weak = rows_weak (value_total _ total-law c.law_value_order.ensures.order) order in
    subst (λ columns. OnOk c.sort_by.result (IsOrdered columns c.args.rows.now.items c.sort_by.new.self.items)) c.order-order.ensures
    (sorted_by c.sort_by.result order c.args.rows.now.items c.sort_by.new.self.items weak (always_returns_same _ _ _ (λ a r f' q. search rules)) c.sort_by.ensures.sorted c.sort_by.ensures.stable)
