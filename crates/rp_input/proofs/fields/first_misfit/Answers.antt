use Rattle.std.proofs.Common.{◌≡◌, ◌∷◌, ◌+◌, drop, sym, add-one}
use Rattle.csv.specs.Records.{fields_of}
use Rattle.rp_value.specs.Tables.{kinds_of}
use Rattle.rp_input.proofs.Lists.{at_field, kinds_step, no_field}
use Rattle.rp_input.proofs.Misfits.{fields-end, values-misfit, values-step}
use Rattle.rp_input.proofs.fields.first_misfit.Goals as goal

pub returns-in_default : goal.returns-in_default
returns-in_default c =
    let fields = fields_of c.args.fields.now in
    fields-end (kinds_of c.args.columns.now) fields c.loop-index.index c.loop-index.invariant (no_field fields c.loop-index.index (sym c.in_default.ensures.value))

pub returns-then-not-is_value : goal.returns-then-not-is_value
returns-then-not-is_value c =
    let kinds = kinds_of c.args.columns.now in
    let fields = fields_of c.args.fields.now in
    let i = c.loop-index.index in
    let f = c.in-Some.field.now in
    let kind = kinds_step c.args.columns.now i c.index-columns-index.result c.loop-index-test.true c.index-columns-index.is in
    let field : drop i fields ≡ f ∷ drop (i + 1) fields = rw add-one (at_field fields i f (sym c.in-Some.ensures.value)) in
    values-misfit kinds fields i c.index-columns-index.result.kind f kind field c.loop-index.invariant c.if-not-is_value.ensures

pub loop-index-preserved : goal.loop-index-preserved
loop-index-preserved c =
    let kinds = kinds_of c.args.columns.now in
    let fields = fields_of c.args.fields.now in
    let i = c.loop-index.index in
    let f = c.in-Some.field.now in
    let kind = kinds_step c.args.columns.now i c.index-columns-index.result c.loop-index-test.true c.index-columns-index.is in
    let field : drop i fields ≡ f ∷ drop (i + 1) fields = rw add-one (at_field fields i f (sym c.in-Some.ensures.value)) in
    values-step kinds fields i c.index-columns-index.result.kind f kind field c.loop-index.invariant c.if-not-is_value.ensures
