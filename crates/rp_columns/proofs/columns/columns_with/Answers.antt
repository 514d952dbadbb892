use Rattle.std.proofs.Common.{◌≡◌}
use Rattle.rp_columns.specs.Loaded.{column_with}
use Rattle.rp_columns.specs.declared.columns.InputColumn.{InputColumn}
use Rattle.rp_columns.proofs.Mapped.{made_all, made_more}
use Rattle.rp_columns.proofs.columns.columns_with.Goals as goal

pub loop-column-init : goal.loop-column-init
loop-column-init c = c.in_ok-with.ensures.items

pub loop-column-preserved : goal.loop-column-preserved
loop-column-preserved c =
    let column = c.column-item.result in
    let made : InputColumn = record { name = c.in_ok-name.name; reading = c.in_ok-reading.reading; source = c.in_ok-source.source } in
    let made_of : made ≡ column_with c.args.region.now c.args.rules.now column = λ i. record { name = c.in_ok-name.ensures i; reading = c.in_ok-reading.ensures i; source = c.in_ok-source.ensures i } in
    made_more (column_with c.args.region.now c.args.rules.now) c.args.columns.now c.loop-column.column-index column made c.loop-column.with.items c.push.new.self.items
    c.loop-column-test.true c.column-item.is made_of c.in_ok-push.ensures.items c.loop-column.invariant

pub returns : goal.returns
returns c = made_all (column_with c.args.region.now c.args.rules.now) c.args.columns.now c.loop-column.column-index c.loop-column.with.items c.loop-column-test.false c.loop-column.invariant
