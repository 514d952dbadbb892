use Rattle.std.proofs.Common.{◌≡◌}
use Rattle.rp_columns.specs.Headings.{column_for}
use Rattle.rp_columns.specs.declared.columns.InputColumn.{InputColumn}
use Rattle.rp_columns.proofs.Mapped.{made_all, made_more}
use Rattle.rp_columns.proofs.columns.read_by_kind.Goals as goal

pub loop-column-init : goal.loop-column-init
loop-column-init c = c.in_ok-read.ensures.items

pub loop-column-preserved : goal.loop-column-preserved
loop-column-preserved c =
    let column = c.column-item.result in
    let made : InputColumn = record { name = c.in_ok-name.name; reading = c.of_kind-reading.result; source = c.in_ok-source.source } in
    let made_of : made ≡ column_for column = λ i. record { name = c.in_ok-name.ensures i; reading = c.of_kind-reading.ensures i; source = c.in_ok-source.ensures i } in
    made_more column_for c.args.columns.now c.loop-column.column-index column made c.loop-column.read.items c.push.new.self.items
    c.loop-column-test.true c.column-item.is made_of c.in_ok-push.ensures.items c.loop-column.invariant

pub returns : goal.returns
returns c = made_all column_for c.args.columns.now c.loop-column.column-index c.loop-column.read.items c.loop-column-test.false c.loop-column.invariant
