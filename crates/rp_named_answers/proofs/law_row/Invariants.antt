use Rattle.std.proofs.Common.{take}
use Rattle.rp_protocol.specs.Within.{AreCells}
use Rattle.rp_named_answers.proofs.law_row.Given as goal

abbrev pub invariant-loop-cell : goal.invariant-loop-cell
invariant-loop-cell l = AreCells (take l.cell-index l.cells)
