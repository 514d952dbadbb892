use Rattle.std.proofs.Common.{rules, ◌∙◌, [], ◌∷◌, ◌++◌, map, take, ap, sym}
use Rattle.std.proofs.lemmas.List.{take_all}
use Rattle.rp_resolution.specs.PartFaults.{order_faults}
use Rattle.rp_resolution.specs.Queries.{order_column}
use Rattle.rp_resolution.proofs.Telling.{telling}
use Rattle.rp_resolution.proofs.Each.{begins, one_taken, goes_on, goes_wrong, ends}
use Rattle.rp_resolution.proofs.lists.order_columns.Goals as goal

pub loop-i-init : goal.loop-i-init
loop-i-init c = record {
  clean = begins (λ o. o.name) (order_faults c.args.columns.now c.args.partition.now) c.args.order.now;
  numbers = c.new-numbers.ensures.items;
}

pub returns-in_err-column : goal.returns-in_err-column
returns-in_err-column c =
    let told = goes_wrong (λ o. o.name) (order_faults c.args.columns.now c.args.partition.now) c.args.order.now c.loop-i.i c.index-order-i.result c.in_err-column.field-0.0 c.loop-i-test.true c.index-order-i.is c.loop-i.invariant.clean c.in_err-column.ensures in
    search (rules, told)

pub returns-in_err-push : goal.returns-in_err-push
returns-in_err-push c = search (rules, telling)

pub loop-i-preserved : goal.loop-i-preserved
loop-i-preserved c =
    let xs = c.args.order.now in
    let i = c.loop-i.i in
    let column = order_column c.args.columns.now in
    let done = map column (take i xs) in
    record {
      clean = goes_on (λ o. o.name) (order_faults c.args.columns.now c.args.partition.now) xs i c.index-order-i.result c.loop-i-test.true c.index-order-i.is c.loop-i.invariant.clean c.in_ok-column.ensures.0;
      numbers = c.in_ok-push.ensures.items ∙ (ap (λ z. z ++ c.in_ok-column.column ∷ []) c.loop-i.invariant.numbers
          ∙ (ap (λ o. done ++ o ∷ []) c.in_ok-column.ensures.1 ∙ sym (one_taken column xs i c.index-order-i.result c.loop-i-test.true c.index-order-i.is)));
    }

pub returns : goal.returns
returns c = (
  ends (λ o. o.name) (order_faults c.args.columns.now c.args.partition.now) c.args.order.now c.loop-i.i c.loop-i-test.false c.loop-i.invariant.clean,
  c.loop-i.invariant.numbers ∙ ap (map (order_column c.args.columns.now)) (take_all c.loop-i.i c.args.order.now c.loop-i-test.false),
)
