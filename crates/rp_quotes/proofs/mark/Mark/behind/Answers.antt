use Rattle.rp_quotes.proofs.Marks.{told_first, told_nothing, told_second}
use Rattle.rp_quotes.proofs.mark.Mark.behind.Goals as goal

pub returns-in-Nothing-2 : goal.returns-in-Nothing-2
returns-in-Nothing-2 c = λ text. told_nothing c.args.self c.args.byte text c.in-Nothing.is c.if-byte-eq239.false

pub returns-in-First-2 : goal.returns-in-First-2
returns-in-First-2 c = λ text. told_first c.args.self c.args.byte text c.in-First.is c.if-byte-eq187.false

pub returns-in-Second : goal.returns-in-Second
returns-in-Second c = λ text. told_second c.args.self c.args.byte text c.in-Second.is
