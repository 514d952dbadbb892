use Rattle.std.proofs.Common.{◌≤◌, length, arith}
use Rattle.std.proofs.lemmas.List.{length-map}
use Rattle.csv.specs.Records.{fields_of}
use Rattle.rp_value.specs.Tables.{kinds_of}
use Rattle.rp_input.specs.Fields.{IsField, IsNoField}
use Rattle.rp_input.proofs.Lists.{continues-end, continues-none, continues-start, continues-step, kinds_step}
use Rattle.rp_input.proofs.fields.take_values.Goals as goal

pub loop-index-init : goal.loop-index-init
loop-index-init c = rw c.clear.ensures.items (continues-start (kinds_of c.args.columns.now) (fields_of c.args.fields.now))

pub returns-in_default : goal.returns-in_default
returns-in_default c =
    let k = c.index-columns-index.result.kind in
    let none : IsNoField k c.text_at-field.result.now = rw c.in_default.is at c.in_ok-value.ensures in
    let next = kinds_step c.args.columns.now c.loop-index.index c.index-columns-index.result c.loop-index-test.true c.index-columns-index.is in
    continues-none (kinds_of c.args.columns.now) (fields_of c.args.fields.now) c.loop-index.values.items c.loop-index.index k c.text_at-field.result.now next c.text_at-field.ensures.field none c.loop-index.invariant

pub loop-index-preserved : goal.loop-index-preserved
loop-index-preserved c =
    let k = c.index-columns-index.result.kind in
    let is : IsField k c.text_at-field.result.now c.in-Some.value = rw c.in-Some.is at c.in_ok-value.ensures in
    let next = kinds_step c.args.columns.now c.loop-index.index c.index-columns-index.result c.loop-index-test.true c.index-columns-index.is in
    rw c.in_ok-push.ensures.items (
    continues-step (kinds_of c.args.columns.now) (fields_of c.args.fields.now) c.loop-index.values.items c.loop-index.index k c.text_at-field.result.now c.in-Some.value next c.text_at-field.ensures.field is c.loop-index.invariant
    )

pub returns : goal.returns
returns c =
    let kinds : length (kinds_of c.args.columns.now) ≤ c.loop-index.index = omega (arith, length-map c.args.columns.now (λ x. x.kind)) in
    let fields : length (fields_of c.args.fields.now) ≤ c.loop-index.index = omega arith in
    continues-end (kinds_of c.args.columns.now) (fields_of c.args.fields.now) c.loop-index.values.items c.loop-index.index kinds fields c.loop-index.invariant
