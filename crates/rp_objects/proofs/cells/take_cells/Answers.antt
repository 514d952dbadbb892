use Rattle.std.proofs.Common.{◌≡◌, ◌≤◌, ◌+◌, ◌∷◌, ◌∙◌, ap, drop, length, sym, arith}
use Rattle.std.proofs.lemmas.List.{drop_all, drop_more}
use Rattle.json.specs.Value.{value_view}
use Rattle.rp_objects.specs.Cells.{cells_from}
use Rattle.rp_objects.proofs.CellsTaken.{cell_fault, cell_more, cells_end, none_in_front}
use Rattle.rp_objects.proofs.cells.take_cells.Goals as goal

pub loop-index-init : goal.loop-index-init
loop-index-init c = rw c.clear.ensures.items (none_in_front (cells_from 0 c.args.nulls.now c.args.number (value_view c.args.object.now) c.args.columns.now))

pub returns-in-Err-clause-err : goal.returns-in-Err-clause-err
returns-in-Err-clause-err c =
    let columns = c.args.columns.now in
    let n = c.loop-index.index in
    let column = c.index-columns-index.result in
    let next : drop n columns ≡ column ∷ drop (n + 1) columns = drop_more columns n column c.loop-index-test.true ∙ ap (λ x. x ∷ drop (n + 1) columns) (sym c.index-columns-index.is) in
    cell_fault c.args.nulls.now c.args.number (value_view c.args.object.now) columns n c.loop-index.cells.items c.loop-index.invariant column c.in-Err.fault next c.in-Err.ensures

pub loop-index-preserved : goal.loop-index-preserved
loop-index-preserved c =
    let columns = c.args.columns.now in
    let n = c.loop-index.index in
    let column = c.index-columns-index.result in
    let next : drop n columns ≡ column ∷ drop (n + 1) columns = drop_more columns n column c.loop-index-test.true ∙ ap (λ x. x ∷ drop (n + 1) columns) (sym c.index-columns-index.is) in
    rw c.in_ok-push-in-Ok.ensures.items
    (cell_more c.args.nulls.now c.args.number (value_view c.args.object.now) columns n c.loop-index.cells.items c.loop-index.invariant column c.in-Ok.cell next c.in-Ok.ensures)

pub returns-clause-ok : goal.returns-clause-ok
returns-clause-ok c =
    let none : length c.args.columns.now ≤ c.loop-index.index = omega arith in
    cells_end c.args.nulls.now c.args.number (value_view c.args.object.now) c.args.columns.now c.loop-index.index c.loop-index.cells.items c.loop-index.invariant (drop_all c.loop-index.index c.args.columns.now none)
