use Rattle.std.proofs.Common.{ℕ, List}
use Rattle.rp_input.specs.Beginning.{IsBelowHeader}
use Rattle.rp_value.specs.RowLists.{rows_added}
use Rattle.rp_input.proofs.TakenRecords.{Taken}
use Rattle.rp_input.proofs.rows.take_rows.Given as goal

abbrev pub invariant-loop-number : goal.invariant-loop-number
invariant-loop-number l = (text : List ℕ) → IsBelowHeader l.fn.table text l.fn.reader → Taken l.fn.table text (rows_added l.taking.rows) l.number l.reader
