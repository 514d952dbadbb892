use Rattle.std.proofs.Common.{rules, ◌∙◌, [], ◌∷◌, ◌++◌, map, take, ap, sym, refl}
use Rattle.std.proofs.lemmas.List.{take_all}
use Rattle.rp_grammar.specs.declared.written.Name.{Name}
use Rattle.rp_resolution.specs.Context.{column_named}
use Rattle.rp_resolution.specs.PartFaults.{partition_faults}
use Rattle.rp_resolution.specs.Resolved.{number_at}
use Rattle.rp_resolution.proofs.Telling.{telling}
use Rattle.rp_resolution.proofs.Each.{one_taken, goes_on_by, goes_wrong_by, ends_by}
use Rattle.rp_resolution.proofs.lists.partition_columns.Goals as goal

pub loop-i-init : goal.loop-i-init
loop-i-init c = record { clean = refl; numbers = c.new-numbers.ensures.items }

pub returns-in_err-number : goal.returns-in_err-number
returns-in_err-number c =
    let told = goes_wrong_by (partition_faults c.args.columns.now) c.args.partition.now c.loop-i.i c.index-partition-i.result c.in_err-number.field-0.0 c.loop-i-test.true c.index-partition-i.is c.loop-i.invariant.clean c.in_err-number.ensures in
    search (rules, told)

pub returns-in_err-push : goal.returns-in_err-push
returns-in_err-push c = search (rules, telling)

pub loop-i-preserved : goal.loop-i-preserved
loop-i-preserved c =
    let xs = c.args.partition.now in
    let i = c.loop-i.i in
    let done = map (λ (n : Name). number_at (column_named n.text c.args.columns.now)) (take i xs) in
    record {
      clean = goes_on_by (partition_faults c.args.columns.now) xs i c.index-partition-i.result c.loop-i-test.true c.index-partition-i.is c.loop-i.invariant.clean c.in_ok-number.ensures.0;
      numbers = c.in_ok-push.ensures.items ∙ (ap (λ z. z ++ c.in_ok-number.number ∷ []) c.loop-i.invariant.numbers
          ∙ (ap (λ k. done ++ k ∷ []) c.in_ok-number.ensures.1 ∙ sym (one_taken (λ (n : Name). number_at (column_named n.text c.args.columns.now)) xs i c.index-partition-i.result c.loop-i-test.true c.index-partition-i.is)));
    }

pub returns : goal.returns
returns c = (
  ends_by (partition_faults c.args.columns.now) c.args.partition.now c.loop-i.i c.loop-i-test.false c.loop-i.invariant.clean,
  c.loop-i.invariant.numbers ∙ ap (map (λ (n : Name). number_at (column_named n.text c.args.columns.now))) (take_all c.loop-i.i c.args.partition.now c.loop-i-test.false),
)
