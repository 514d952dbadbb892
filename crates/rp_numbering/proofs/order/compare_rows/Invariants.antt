use Rattle.std.proofs.Common.{◌≡◌, drop}
use Rattle.rp_numbering.specs.Orders.{rows_order}
use Rattle.rp_numbering.proofs.order.compare_rows.Given as goal

abbrev pub invariant-loop-column : goal.invariant-loop-column
invariant-loop-column l = rows_order l.order l.left l.right ≡ rows_order (drop l.column-index l.order) l.left l.right
