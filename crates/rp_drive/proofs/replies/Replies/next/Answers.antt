use Rattle.std.proofs.Common.{rules, ◌≡◌, ◌∙◌, ap, arith}
use Rattle.std.proofs.lemmas.Bool.Decides.{nat_tests}
use Rattle.rp_io.specs.Pending.{coming, pending_of}
use Rattle.rp_drive.specs.Lines.{reply_within}
use Rattle.rp_drive.proofs.Hearing.{comes_last, comes_line}
use Rattle.rp_drive.proofs.replies.Replies.next.Goals as goal

pub returns-then-branch-clause-came : goal.returns-then-branch-clause-came
returns-then-branch-clause-came g c =
    let limit = c.args.self.now.limit in
    let takes = rw c.args.self.now.kept at c.in_ok-next.ensures.line (search rules) in
    let is : c.in_ok-reply_on.field-0 ≡ reply_within limit c.next.new.line.items = c.in_ok-reply_on.ensures ∙ ap (reply_within limit) c.as_slice.ensures.value in
    rw (c.if-self.false, is)
    (comes_line limit (coming c.args.self.now.lines (g.R.Intake.seen c.args.reader.now)) (coming c.next.new.self (g.R.Intake.seen c.next.new.reader)) c.next.new.line.items takes)

pub returns-clause-came : goal.returns-clause-came
returns-clause-came g c =
    let limit = c.args.self.now.limit in
    let takes = rw c.args.self.now.kept at c.in_ok-next.ensures.last (search rules) in
    let is : c.in_ok-reply_on-2.field-0 ≡ reply_within limit c.next.new.line.items = c.in_ok-reply_on-2.ensures ∙ ap (reply_within limit) c.as_slice-2.ensures.value in
    rw (c.if-self.false, is)
    (comes_last limit (coming c.args.self.now.lines (g.R.Intake.seen c.args.reader.now)) (g.R.Intake.seen c.next.new.reader).remaining (pending_of c.next.new.self) c.next.new.line.items takes
    (λ none. grind (arith, nat_tests)))
