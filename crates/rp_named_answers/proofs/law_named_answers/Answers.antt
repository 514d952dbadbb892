use Rattle.rp_value.specs.contracts.value.ValueOrd.TheImpl.Laws.{total-law}
use Rattle.rp_numbering.proofs.Orders.{rows_weak, value_total}
use Rattle.rp_named_answers.proofs.Apart.{names_apart}
use Rattle.rp_named_answers.proofs.Read.{Below, objects_read, records_read}
use Rattle.rp_named_answers.proofs.Within.{cells_stay}
use Rattle.rp_named_answers.proofs.law_named_answers.Goals as goal

below : goal.After-law_limits → Below
below c = record {
  weak = rows_weak (value_total _ total-law c.law_value_order.ensures.order);
  table = c.law_fitting.ensures;
  columns = c.law_fitting_columns.ensures;
  whole = c.law_limits.ensures.whole;
  records = c.law_header.ensures.rows;
  objects = c.law_header.ensures.objects;
}

pub returns-clause-apart : goal.returns-clause-apart
returns-clause-apart c = names_apart

pub returns-clause-cells : goal.returns-clause-cells
returns-clause-cells c = cells_stay c.law_named.ensures.named

pub returns-clause-records : goal.returns-clause-records
returns-clause-records c = records_read (below c)

pub returns-clause-objects : goal.returns-clause-objects
returns-clause-objects c = objects_read (below c)
