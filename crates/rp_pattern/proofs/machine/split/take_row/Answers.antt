use Rattle.rp_pattern.proofs.Steps.{row_taken, row_waits, row_none}
use Rattle.rp_pattern.proofs.machine.split.take_row.Goals as goal

pub returns-then-row-n : goal.returns-then-row-n
returns-then-row-n c = λ later. row_taken c.args.n c.args.end c.args.row c.args.var c.args.excluded later c.if-row-n.true

pub returns-in-Closed : goal.returns-in-Closed
returns-in-Closed c = λ later. row_none c.args.n c.args.end c.args.row c.args.var c.args.excluded later c.none.result c.none.ensures c.if-row-n.false c.in-Closed.is

pub returns-in-Open : goal.returns-in-Open
returns-in-Open c = λ later. row_waits c.args.n c.args.end c.args.row c.args.var c.args.excluded later c.if-row-n.false c.in-Open.is
