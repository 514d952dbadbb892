use Rattle.std.proofs.Common.{◌∙◌, sym}
use Rattle.rp_checkpoint.specs.Checkpoints.{row_of}
use Rattle.rp_json.proofs.Steps.{joined-at, joined-stop}
use Rattle.rp_checkpoint.proofs.ReadLists.{joined_all, joined_first}
use Rattle.rp_checkpoint.proofs.restore.rows_in.Goals as goal

pub loop-json-init : goal.loop-json-init
loop-json-init c = rw c.in_ok-rows.ensures.items (joined_first row_of c.args.list.now)

pub loop-json-preserved : goal.loop-json-preserved
loop-json-preserved c =
    let read = sym c.in-Some.is ∙ c.in_ok-row.ensures in
    rw c.in_ok-push.ensures.items
    (c.loop-json.invariant ∙ joined-at row_of c.loop-json.rows.items c.args.list.now c.loop-json.json-index c.json-item.result c.in-Some.row c.loop-json-test.true c.json-item.is read)

pub returns-in_default : goal.returns-in_default
returns-in_default c =
    let read = sym c.in_default.is ∙ c.in_ok-row.ensures in
    sym (c.loop-json.invariant ∙ joined-stop row_of c.loop-json.rows.items c.args.list.now c.loop-json.json-index c.json-item.result c.loop-json-test.true c.json-item.is read)

pub returns : goal.returns
returns c = sym (c.loop-json.invariant ∙ joined_all row_of c.loop-json.rows.items c.args.list.now c.loop-json.json-index c.loop-json-test.false)
