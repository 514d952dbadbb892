use Rattle.std.proofs.Common.{◌≤◌, length, arith}
use Rattle.std.proofs.lemmas.List.{drop_all}
use Rattle.csv.specs.Records.{fields_of}
use Rattle.rp_input.specs.Placed.{cells_from}
use Rattle.rp_input.proofs.Placing.{before_none, cell_fault, cell_more, cells_end, comes_next}
use Rattle.rp_input.proofs.placed.take_cells.Goals as goal

pub loop-index-init : goal.loop-index-init
loop-index-init c = rw c.clear.ensures.items (before_none (cells_from 0 c.args.nulls.now c.args.number c.args.columns.now (fields_of c.args.fields.now)))

pub returns-in-Err-clause-err : goal.returns-in-Err-clause-err
returns-in-Err-clause-err c =
    let n = c.loop-index.index in
    let p = c.index-columns-index.result in
    rw c.told.ensures (cell_fault c.args.nulls.now c.args.number c.args.columns.now (fields_of c.args.fields.now) n c.loop-index.cells.items c.loop-index.invariant p c.in-Err.fault
    (comes_next c.args.columns.now n p c.loop-index-test.true c.index-columns-index.is) (rw c.field_or_empty-field.ensures at c.in-Err.ensures))

pub loop-index-preserved : goal.loop-index-preserved
loop-index-preserved c =
    let n = c.loop-index.index in
    let p = c.index-columns-index.result in
    rw c.in_ok-push-in-Ok.ensures.items (cell_more c.args.nulls.now c.args.number c.args.columns.now (fields_of c.args.fields.now) n c.loop-index.cells.items c.loop-index.invariant p c.in-Ok.cell
    (comes_next c.args.columns.now n p c.loop-index-test.true c.index-columns-index.is) (rw c.field_or_empty-field.ensures at c.in-Ok.ensures))

pub returns-clause-ok : goal.returns-clause-ok
returns-clause-ok c =
    let none : length c.args.columns.now ≤ c.loop-index.index = omega arith in
    cells_end c.args.nulls.now c.args.number c.args.columns.now (fields_of c.args.fields.now) c.loop-index.index c.loop-index.cells.items c.loop-index.invariant (drop_all c.loop-index.index c.args.columns.now none)
