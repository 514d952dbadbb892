use Rattle.std.proofs.Common.{sym, ◌∙◌, arith}
use Rattle.rp_partition.proofs.Rows.{past_front, up_to_front}
use Rattle.rp_partition.proofs.part_rows.PartRowsRows.row.Goals as goal

pub returns-then-number-front : goal.returns-then-number-front
returns-then-number-front c =
    sym (past_front c.args.self.now.feed.now c.args.number c.args.self.now.least (omega (arith, c.if-number-front.true, c.front.ensures.front)))

pub returns : goal.returns
returns c =
    c.row.ensures ∙ sym (up_to_front c.args.self.now.feed.now c.args.number c.front.ensures.feed.ordered (omega (arith, c.if-number-front.false, c.front.ensures.front)))
