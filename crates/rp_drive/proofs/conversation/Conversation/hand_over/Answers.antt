use Rattle.std.proofs.Common.{rules, ◌≡◌, ◌∙◌, ◌∷◌, subst, refl, Err, None}
use Rattle.std.specs.Io.KnownBytes.{Appends}
use Rattle.rp_protocol.specs.declared.request.Request.TheVariants as request
use Rattle.rp_drive.specs.Exchange.{Packets, Poll}
use Rattle.rp_drive.specs.Exchanged.{GoesOn, SendsLine, StopsBy}
use Rattle.rp_drive.specs.Keys.{packet_key}
use Rattle.rp_drive.specs.Lines.{line_of}
use Rattle.rp_drive.specs.Listening.{replies_left}
use Rattle.rp_drive.specs.declared.fault.DriveFault.TheVariants.{OutOfMemory}
use Rattle.rp_drive.proofs.Going.{goes_both, goes_stops, part_none}
use Rattle.rp_drive.proofs.ReadParts.{hears_both, hears_cut, hears_none}
use Rattle.rp_drive.proofs.Steps.{send_goes, send_stops, send_unheard}
use Rattle.rp_drive.proofs.Whole.{if_err_is}
use Rattle.rp_drive.proofs.conversation.Conversation.hand_over.Goals as goal

pub returns-in_err-key-clause-stops : goal.returns-in_err-key-clause-stops
returns-in_err-key-clause-stops g c =
    let q = c.args.self.now.query.now in
    let all = replies_left c.args.replies.now (g.R.Intake.seen c.args.reader.now) in
    let is : c.from_residual.result ≡ Err OutOfMemory = search rules in
    if_err_is c.from_residual.result OutOfMemory _ is
    (λ rest. part_none q c.args.self.now.budget c.args.self.now.node_number (Packets (c.args.packet.now ∷ rest)) all (g.W.Outlet.contents c.args.writer.now) (g.O.Outlet.contents c.args.out.now))

pub returns-in_err-line-clause-stops : goal.returns-in_err-line-clause-stops
returns-in_err-line-clause-stops g c =
    let q = c.args.self.now.query.now in
    let all = replies_left c.args.replies.now (g.R.Intake.seen c.args.reader.now) in
    let is : c.from_residual-in_err-line.result ≡ Err OutOfMemory = search rules in
    if_err_is c.from_residual-in_err-line.result OutOfMemory _ is
    (λ rest. part_none q c.args.self.now.budget c.args.self.now.node_number (Packets (c.args.packet.now ∷ rest)) all (g.W.Outlet.contents c.args.writer.now) (g.O.Outlet.contents c.args.out.now))

pub returns-in_err-sent-clause-stops : goal.returns-in_err-sent-clause-stops
returns-in_err-sent-clause-stops g c =
    let q = c.args.self.now.query.now in
    let all = replies_left c.args.replies.now (g.R.Intake.seen c.args.reader.now) in
    let is : c.from_residual-in_err-sent.result ≡ Err OutOfMemory = search rules in
    if_err_is c.from_residual-in_err-sent.result OutOfMemory _ is
    (λ rest. part_none q c.args.self.now.budget c.args.self.now.node_number (Packets (c.args.packet.now ∷ rest)) all (g.W.Outlet.contents c.args.writer.now) (g.O.Outlet.contents c.args.out.now))

pub returns-in_err-reply-clause-stops : goal.returns-in_err-reply-clause-stops
returns-in_err-reply-clause-stops g c =
    let q = c.args.self.now.query.now in
    let all = replies_left c.args.replies.now (g.R.Intake.seen c.args.reader.now) in
    let left = replies_left c.ask.new.replies (g.R.Intake.seen c.ask.new.reader) in
    let w = g.W.Outlet.contents c.args.writer.now in
    let w' = g.W.Outlet.contents c.ask.new.writer in
    let o = g.O.Outlet.contents c.args.out.now in
    let why = c.in_err-reply.field-0.0 in
    let is : c.from_residual-in_err-reply.result ≡ Err why = search rules in
    let line : c.as_slice.result.now ≡ line_of (request.Packet c.args.packet.now) = c.as_slice.ensures.value ∙ c.in_ok-sent.ensures in
    let sends = subst (SendsLine why w w') line c.in_err-reply.ensures.stops in
    if_err_is c.from_residual-in_err-reply.result why _ is
    (λ rest. send_unheard q c.args.self.now.budget c.args.self.now.node_number all left w w' c.args.packet.now rest o c.args.refusal.now why sends)

pub returns-in_err-must_be_taken-clause-stops : goal.returns-in_err-must_be_taken-clause-stops
returns-in_err-must_be_taken-clause-stops g c =
    let q = c.args.self.now.query.now in
    let all = replies_left c.args.replies.now (g.R.Intake.seen c.args.reader.now) in
    let left = replies_left c.ask.new.replies (g.R.Intake.seen c.ask.new.reader) in
    let w = g.W.Outlet.contents c.args.writer.now in
    let w' = g.W.Outlet.contents c.ask.new.writer in
    let o = g.O.Outlet.contents c.args.out.now in
    let why = c.in_err-must_be_taken.field-0.0 in
    let is : c.from_residual-in_err-must_be_taken.result ≡ Err why = search rules in
    let line : c.as_slice.result.now ≡ line_of (request.Packet c.args.packet.now) = c.as_slice.ensures.value ∙ c.in_ok-sent.ensures in
    let sent = subst (Appends w w') line c.in_ok-reply.ensures.asked in
    if_err_is c.from_residual-in_err-must_be_taken.result why _ is
    (λ rest. send_stops q c.args.self.now.budget c.args.self.now.node_number all left w w' c.args.packet.now rest o c.in_ok-reply.reply c.must_be_taken.new.refusal why c.in_err-must_be_taken.ensures.fault c.in_err-must_be_taken.ensures.refusal c.in_ok-reply.ensures.came sent)

pub polls-init : goal.polls-init
polls-init g c =
    let all = replies_left c.args.replies.now (g.R.Intake.seen c.args.reader.now) in
    let left = replies_left c.ask.new.replies (g.R.Intake.seen c.ask.new.reader) in
    let w = g.W.Outlet.contents c.args.writer.now in
    let w' = g.W.Outlet.contents c.ask.new.writer in
    let line : c.as_slice.result.now ≡ line_of (request.Packet c.args.packet.now) = c.as_slice.ensures.value ∙ c.in_ok-sent.ensures in
    let sent = subst (Appends w w') line c.in_ok-reply.ensures.asked in
    record {
      goes = λ rest. send_goes c.args.self.now.query.now c.args.self.now.budget c.args.self.now.node_number all left w w' c.args.packet.now rest (g.O.Outlet.contents c.args.out.now) c.in_ok-reply.reply
          c.in_ok-must_be_taken.ensures.taken c.in_ok-reply.ensures.came sent;
      write = c.in_ok-reply.ensures.write;
      told = refl;
      reads = c.in_ok-reply.ensures.reads;
    }

pub returns-in_err-poll-clause-stops : goal.returns-in_err-poll-clause-stops
returns-in_err-poll-clause-stops g c =
    let q = c.args.self.now.query.now in
    let all = replies_left c.args.replies.now (g.R.Intake.seen c.args.reader.now) in
    let mid = replies_left c.polls.replies (g.R.Intake.seen c.polls.reader) in
    let w = g.W.Outlet.contents c.args.writer.now in
    let w1 = g.W.Outlet.contents c.polls.writer in
    let w2 = g.W.Outlet.contents c.poll.new.writer in
    let o = g.O.Outlet.contents c.args.out.now in
    let o1 = g.O.Outlet.contents c.polls.out in
    let o2 = g.O.Outlet.contents c.poll.new.out in
    let why = c.in_err-poll.field-0.0 in
    let key = packet_key q c.args.packet.now in
    let same : c.in_ok-key.key ≡ key = search rules in
    let is : c.from_residual-in_err-poll.result ≡ Err why = search rules in
    if_err_is c.from_residual-in_err-poll.result why _ is
    (λ rest. goes_stops q c.args.self.now.budget c.args.self.now.node_number (Packets (c.args.packet.now ∷ rest)) (Poll key rest) all mid w w1 o o1 (c.polls.invariant.goes rest) c.poll.new.refusal why w2 o2
    (subst (λ k. StopsBy q c.args.self.now.budget c.args.self.now.node_number c.poll.new.refusal why (Poll k rest) mid w1 w2 o1 o2) same (c.in_err-poll.ensures.stops rest)))

pub polls-preserved : goal.polls-preserved
polls-preserved g c =
    let q = c.args.self.now.query.now in
    let all = replies_left c.args.replies.now (g.R.Intake.seen c.args.reader.now) in
    let mid = replies_left c.polls.replies (g.R.Intake.seen c.polls.reader) in
    let left = replies_left c.poll.new.replies (g.R.Intake.seen c.poll.new.reader) in
    let w = g.W.Outlet.contents c.args.writer.now in
    let w1 = g.W.Outlet.contents c.polls.writer in
    let w2 = g.W.Outlet.contents c.poll.new.writer in
    let o = g.O.Outlet.contents c.args.out.now in
    let o1 = g.O.Outlet.contents c.polls.out in
    let o2 = g.O.Outlet.contents c.poll.new.out in
    let key = packet_key q c.args.packet.now in
    let same : c.in_ok-key.key ≡ key = search rules in
    record {
      goes = λ rest. goes_both q c.args.self.now.budget c.args.self.now.node_number (Packets (c.args.packet.now ∷ rest)) (Poll key rest) all mid w w1 o o1 (c.polls.invariant.goes rest) (Poll key rest) left w2 o2
          (subst (λ k. GoesOn q c.args.self.now.budget c.args.self.now.node_number (Poll k rest) (Poll k rest) mid left w1 w2 o1 o2) same (c.in_ok-poll.ensures.again (search rules) rest));
      write = c.in_ok-poll.ensures.write.0 ∙ c.polls.invariant.write;
      told = c.in_ok-poll.ensures.write.1 ∙ c.polls.invariant.told;
      reads = hears_both _ _ _ _ _ _ c.args.replies.now.over None c.polls.replies.over c.poll.new.replies.over c.polls.invariant.reads c.in_ok-poll.ensures.reads;
    }

pub returns-clause-goes : goal.returns-clause-goes
returns-clause-goes g c = λ rest.
    let q = c.args.self.now.query.now in
    let all = replies_left c.args.replies.now (g.R.Intake.seen c.args.reader.now) in
    let mid = replies_left c.polls.replies (g.R.Intake.seen c.polls.reader) in
    let left = replies_left c.poll.new.replies (g.R.Intake.seen c.poll.new.reader) in
    let w = g.W.Outlet.contents c.args.writer.now in
    let w1 = g.W.Outlet.contents c.polls.writer in
    let w2 = g.W.Outlet.contents c.poll.new.writer in
    let o = g.O.Outlet.contents c.args.out.now in
    let o1 = g.O.Outlet.contents c.polls.out in
    let o2 = g.O.Outlet.contents c.poll.new.out in
    let key = packet_key q c.args.packet.now in
    let same : c.in_ok-key.key ≡ key = search rules in
    goes_both q c.args.self.now.budget c.args.self.now.node_number (Packets (c.args.packet.now ∷ rest)) (Poll key rest) all mid w w1 o o1 (c.polls.invariant.goes rest) (Packets rest) left w2 o2
    (subst (λ k. GoesOn q c.args.self.now.budget c.args.self.now.node_number (Poll k rest) (Packets rest) mid left w1 w2 o1 o2) same (c.in_ok-poll.ensures.idle (search rules) rest))

-- ---- what was read

pub returns-in_err-key-clause-reads : goal.returns-in_err-key-clause-reads
returns-in_err-key-clause-reads g c =
    let is : c.from_residual.result ≡ Err OutOfMemory = search rules in
    rw is (hears_cut c.args.replies.now.over _ _ _ _ c.args.replies.now.over (hears_none c.args.replies.now.over _ _))

pub returns-in_err-line-clause-reads : goal.returns-in_err-line-clause-reads
returns-in_err-line-clause-reads g c =
    let is : c.from_residual-in_err-line.result ≡ Err OutOfMemory = search rules in
    rw is (hears_cut c.args.replies.now.over _ _ _ _ c.args.replies.now.over (hears_none c.args.replies.now.over _ _))

pub returns-in_err-sent-clause-reads : goal.returns-in_err-sent-clause-reads
returns-in_err-sent-clause-reads g c =
    let is : c.from_residual-in_err-sent.result ≡ Err OutOfMemory = search rules in
    rw is (hears_cut c.args.replies.now.over _ _ _ _ c.args.replies.now.over (hears_none c.args.replies.now.over _ _))

pub returns-in_err-poll-clause-reads : goal.returns-in_err-poll-clause-reads
returns-in_err-poll-clause-reads g c =
    let is : c.from_residual-in_err-poll.result ≡ Err c.in_err-poll.field-0.0 = search rules in
    rw is (hears_both _ _ _ _ _ _ c.args.replies.now.over _ c.polls.replies.over c.poll.new.replies.over c.polls.invariant.reads c.in_err-poll.ensures.reads)

pub returns-clause-reads : goal.returns-clause-reads
returns-clause-reads g c =
    hears_both _ _ _ _ _ _ c.args.replies.now.over None c.polls.replies.over c.poll.new.replies.over c.polls.invariant.reads c.in_ok-poll.ensures.reads
