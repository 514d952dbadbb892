use Rattle.std.proofs.Common.{subst, take}
use Rattle.std.proofs.lemmas.List.{take_all, take_more}
use Rattle.std.proofs.lemmas.List.Elements.{All-push}
use Rattle.rp_protocol.specs.Within.{AreCells, IsCell}
use Rattle.rp_named_answers.proofs.law_row.Goals as goal

pub loop-cell-preserved : goal.loop-cell-preserved
loop-cell-preserved c =
    let cell = c.cell-item.result in
    let done = take c.loop-cell.cell-index c.args.cells.now in
    let cut = take_more c.args.cells.now c.loop-cell.cell-index cell c.loop-cell-test.true in
    rw (cut, ← c.cell-item.is) (All-push IsCell done cell c.loop-cell.invariant c.law_cell.ensures)

pub returns : goal.returns
returns c = subst AreCells (take_all c.loop-cell.cell-index c.args.cells.now c.loop-cell-test.false) c.loop-cell.invariant
