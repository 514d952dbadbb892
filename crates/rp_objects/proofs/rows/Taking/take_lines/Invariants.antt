use Rattle.rp_value.specs.RowLists.{rows_added}
use Rattle.rp_objects.proofs.LinesTaken.{Taken}
use Rattle.rp_objects.proofs.rows.Taking.take_lines.Given as goal

abbrev pub invariant-loop-number : goal.invariant-loop-number
invariant-loop-number l = Taken l.fn.nulls l.fn.columns l.fn.text (rows_added l.self.rows) l.number l.lines.rest.now l.lines.taken
