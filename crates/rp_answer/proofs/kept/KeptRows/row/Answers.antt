use Rattle.std.proofs.Common.{arith}
use Rattle.rp_answer.proofs.Keeping.{there, not_there}
use Rattle.rp_answer.proofs.kept.KeptRows.row.Goals as goal

pub returns : goal.returns
returns c = not_there c.args.self.now c.args.number c.if-number-self.false (omega (arith, c.len.ensures, c.if-place-len.false))

pub returns-then-place-len : goal.returns-then-place-len
returns-then-place-len c = there c.args.self.now c.args.number c.index.result.now c.if-number-self.false (omega (arith, c.len.ensures, c.if-place-len.true)) c.index.ensures
