use Rattle.std.proofs.Common.{take}
use Rattle.rp_named_answers.specs.NamedAnswers.{AreRowsOfCells}
use Rattle.rp_named_answers.proofs.law_cells.Given as goal

abbrev pub invariant-loop-row : goal.invariant-loop-row
invariant-loop-row l = AreRowsOfCells (take l.row-index l.rows)
