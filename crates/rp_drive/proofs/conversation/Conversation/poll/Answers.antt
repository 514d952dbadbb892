use Rattle.std.proofs.Common.{rules, ◌≡◌, subst, refl, Some, None, IfErr, Err}
use Rattle.std.proofs.lemmas.Result.{IfErr-weaker}
use Rattle.std.specs.Io.KnownBytes.{Appends}
use Rattle.rp_protocol.specs.declared.reply.Reply.TheVariants as reply
use Rattle.rp_drive.specs.Faults.{IsOfWriting}
use Rattle.rp_drive.specs.Exchanged.{SendsLine}
use Rattle.rp_drive.specs.Listening.{Comes, replies_left}
use Rattle.rp_drive.specs.Exchange.{Poll}
use Rattle.rp_drive.proofs.Steps.{item_part, poll_idle, poll_item, poll_none, poll_paused, poll_refused, poll_taken, poll_unheard, writing_stops}
use Rattle.rp_drive.proofs.Whole.{if_err_is}
use Rattle.rp_drive.proofs.conversation.Conversation.poll.Goals as goal

pub returns-in_err-key-clause-stops : goal.returns-in_err-key-clause-stops
returns-in_err-key-clause-stops g c =
    let q = c.args.self.now.query.now in
    let all = replies_left c.args.replies.now (g.R.Intake.seen c.args.reader.now) in
    let left = replies_left c.ask.new.replies (g.R.Intake.seen c.ask.new.reader) in
    let w = g.W.Outlet.contents c.args.writer.now in
    let w' = g.W.Outlet.contents c.ask.new.writer in
    let o = g.O.Outlet.contents c.args.out.now in
    let why = c.in_err-key.field-0.0 in
    let is : c.from_residual.result ≡ Err why = search rules in
    let sends = subst (SendsLine why w w') c.requires c.in_err-key.ensures.stops in
    if_err_is c.from_residual.result why _ is
    (λ rest. poll_unheard q c.args.self.now.budget c.args.self.now.node_number all left w w' c.args.key.now rest o c.args.refusal.now why sends)

pub returns-in_err-write_item-in-Some-Item-clause-stops : goal.returns-in_err-write_item-in-Some-Item-clause-stops
returns-in_err-write_item-in-Some-Item-clause-stops g c =
    let q = c.args.self.now.query.now in
    let all = replies_left c.args.replies.now (g.R.Intake.seen c.args.reader.now) in
    let left = replies_left c.ask.new.replies (g.R.Intake.seen c.ask.new.reader) in
    let w = g.W.Outlet.contents c.args.writer.now in
    let w' = g.W.Outlet.contents c.ask.new.writer in
    let o = g.O.Outlet.contents c.args.out.now in
    let o' = g.O.Outlet.contents c.write_item.new.out in
    let fine : IfErr c.from_residual-in_err-write_item-in-Some-Item.result IsOfWriting = search rules in
    let sent = subst (Appends w w') c.requires c.in_ok-key.ensures.asked in
    let is : c.in_ok-key.field-0 ≡ Some (reply.Item c.in-Some-Item.key c.in-Some-Item.place c.in-Some-Item.item) = search rules in
    let comes = subst (Comes all left) is c.in_ok-key.ensures.came in
    IfErr-weaker c.from_residual-in_err-write_item-in-Some-Item.result IsOfWriting _
    (λ fault telling rest. writing_stops q c.args.self.now.budget c.args.self.now.node_number (Poll c.args.key.now rest) all w w' o o' c.args.refusal.now fault telling
    (item_part q c.args.self.now.budget c.args.self.now.node_number all left w w' c.args.key.now rest o o' c.in-Some-Item.key c.in-Some-Item.place c.in-Some-Item.item comes sent c.in_err-write_item-in-Some-Item.ensures.front)) fine

pub returns-in-Some-Item-clause-again : goal.returns-in-Some-Item-clause-again
returns-in-Some-Item-clause-again g c = λ ok rest.
    let q = c.args.self.now.query.now in
    let all = replies_left c.args.replies.now (g.R.Intake.seen c.args.reader.now) in
    let left = replies_left c.ask.new.replies (g.R.Intake.seen c.ask.new.reader) in
    let w = g.W.Outlet.contents c.args.writer.now in
    let w' = g.W.Outlet.contents c.ask.new.writer in
    let o = g.O.Outlet.contents c.args.out.now in
    let o' = g.O.Outlet.contents c.write_item.new.out in
    let sent = subst (Appends w w') c.requires c.in_ok-key.ensures.asked in
    let is : c.in_ok-key.field-0 ≡ Some (reply.Item c.in-Some-Item.key c.in-Some-Item.place c.in-Some-Item.item) = search rules in
    let comes = subst (Comes all left) is c.in_ok-key.ensures.came in
    poll_item q c.args.self.now.budget c.args.self.now.node_number all left w w' c.args.key.now rest o o' c.in-Some-Item.key c.in-Some-Item.place c.in-Some-Item.item comes sent c.in_ok-write_item-in-Some-Item.ensures.all

pub returns-in-Some-Paused-clause-again : goal.returns-in-Some-Paused-clause-again
returns-in-Some-Paused-clause-again g c = λ ok rest.
    let all = replies_left c.args.replies.now (g.R.Intake.seen c.args.reader.now) in
    let left = replies_left c.ask.new.replies (g.R.Intake.seen c.ask.new.reader) in
    let w = g.W.Outlet.contents c.args.writer.now in
    let w' = g.W.Outlet.contents c.ask.new.writer in
    let sent = subst (Appends w w') c.requires c.in_ok-key.ensures.asked in
    let is : c.in_ok-key.field-0 ≡ Some (reply.Paused c.in-Some-Paused.field-0-0) = search rules in
    let comes = subst (Comes all left) is c.in_ok-key.ensures.came in
    poll_paused c.args.self.now.query.now c.args.self.now.budget c.args.self.now.node_number all left w w' c.args.key.now rest (g.O.Outlet.contents c.args.out.now) c.in-Some-Paused.field-0-0 comes sent

pub returns-in-Some-Idle-clause-idle : goal.returns-in-Some-Idle-clause-idle
returns-in-Some-Idle-clause-idle g c = λ ok rest.
    let all = replies_left c.args.replies.now (g.R.Intake.seen c.args.reader.now) in
    let left = replies_left c.ask.new.replies (g.R.Intake.seen c.ask.new.reader) in
    let w = g.W.Outlet.contents c.args.writer.now in
    let w' = g.W.Outlet.contents c.ask.new.writer in
    let sent = subst (Appends w w') c.requires c.in_ok-key.ensures.asked in
    let is : c.in_ok-key.field-0 ≡ Some (reply.Idle c.in-Some-Idle.field-0-0) = search rules in
    let comes = subst (Comes all left) is c.in_ok-key.ensures.came in
    poll_idle c.args.self.now.query.now c.args.self.now.budget c.args.self.now.node_number all left w w' c.args.key.now rest (g.O.Outlet.contents c.args.out.now) c.in-Some-Idle.field-0-0 comes sent

pub returns-in-Some-Refused-clause-stops : goal.returns-in-Some-Refused-clause-stops
returns-in-Some-Refused-clause-stops g c = λ rest.
    let all = replies_left c.args.replies.now (g.R.Intake.seen c.args.reader.now) in
    let left = replies_left c.ask.new.replies (g.R.Intake.seen c.ask.new.reader) in
    let w = g.W.Outlet.contents c.args.writer.now in
    let w' = g.W.Outlet.contents c.ask.new.writer in
    let sent = subst (Appends w w') c.requires c.in_ok-key.ensures.asked in
    let is : c.in_ok-key.field-0 ≡ Some (reply.Refused c.in-Some-Refused.why) = search rules in
    let comes = subst (Comes all left) is c.in_ok-key.ensures.came in
    (c.in-Some-Refused.why, refl, poll_refused c.args.self.now.query.now c.args.self.now.budget c.args.self.now.node_number all left w w' c.args.key.now rest (g.O.Outlet.contents c.args.out.now) c.in-Some-Refused.why comes sent)

pub returns-in-Some-Taken-clause-stops : goal.returns-in-Some-Taken-clause-stops
returns-in-Some-Taken-clause-stops g c = λ rest.
    let all = replies_left c.args.replies.now (g.R.Intake.seen c.args.reader.now) in
    let left = replies_left c.ask.new.replies (g.R.Intake.seen c.ask.new.reader) in
    let w = g.W.Outlet.contents c.args.writer.now in
    let w' = g.W.Outlet.contents c.ask.new.writer in
    let sent = subst (Appends w w') c.requires c.in_ok-key.ensures.asked in
    let is : c.in_ok-key.field-0 ≡ Some (reply.Taken c.in-Some-Taken.field-0-0) = search rules in
    let comes = subst (Comes all left) is c.in_ok-key.ensures.came in
    poll_taken c.args.self.now.query.now c.args.self.now.budget c.args.self.now.node_number all left w w' c.args.key.now rest (g.O.Outlet.contents c.args.out.now) c.in-Some-Taken.field-0-0 comes sent

pub returns-clause-stops : goal.returns-clause-stops
returns-clause-stops g c = λ rest.
    let all = replies_left c.args.replies.now (g.R.Intake.seen c.args.reader.now) in
    let left = replies_left c.ask.new.replies (g.R.Intake.seen c.ask.new.reader) in
    let w = g.W.Outlet.contents c.args.writer.now in
    let w' = g.W.Outlet.contents c.ask.new.writer in
    let sent = subst (Appends w w') c.requires c.in_ok-key.ensures.asked in
    let is : c.in_ok-key.field-0 ≡ None = search rules in
    let comes = subst (Comes all left) is c.in_ok-key.ensures.came in
    poll_none c.args.self.now.query.now c.args.self.now.budget c.args.self.now.node_number all left w w' c.args.key.now rest (g.O.Outlet.contents c.args.out.now) comes sent
