use Rattle.std.proofs.Common.{subst, take}
use Rattle.std.proofs.lemmas.List.{take_all, take_more}
use Rattle.std.proofs.lemmas.List.Elements.{All-push}
use Rattle.rp_protocol.specs.Within.{AreCells}
use Rattle.rp_named_answers.specs.NamedAnswers.{AreRowsOfCells}
use Rattle.rp_named_answers.proofs.law_cells.Goals as goal

pub loop-row-preserved : goal.loop-row-preserved
loop-row-preserved c =
    let row = c.row-item.result in
    let done = take c.loop-row.row-index c.args.rows.now in
    let cut = take_more c.args.rows.now c.loop-row.row-index row c.loop-row-test.true in
    rw (cut, ← c.row-item.is) (All-push AreCells done row c.loop-row.invariant (subst AreCells c.cells.ensures c.law_row.ensures))

pub returns : goal.returns
returns c = subst AreRowsOfCells (take_all c.loop-row.row-index c.args.rows.now c.loop-row-test.false) c.loop-row.invariant
