use Rattle.std.proofs.Common.{◌≡◌, ◌∷◌, List, None}
use Rattle.rp_feed.specs.declared.packet.Packet.{Packet}
use Rattle.rp_drive.specs.Exchanged.{GoesOn}
use Rattle.rp_drive.specs.Listening.{HearsBy, lines_left, replies_left}
use Rattle.rp_drive.specs.Exchange.{Packets, Poll}
use Rattle.rp_drive.specs.Keys.{packet_key}
use Rattle.rp_drive.proofs.conversation.Conversation.hand_over.Given as goal

abbrev pub invariant-polls : goal.invariant-polls
invariant-polls g l = record {
  goes : (rest : List Packet) → GoesOn l.self.query.now l.self.budget l.self.node_number (Packets (l.packet ∷ rest)) (Poll (packet_key l.self.query.now l.packet) rest)
      (replies_left l.fn.replies (g.R.Intake.seen l.fn.reader)) (replies_left l.replies (g.R.Intake.seen l.reader))
      (g.W.Outlet.contents l.fn.writer) (g.W.Outlet.contents l.writer) (g.O.Outlet.contents l.fn.out) (g.O.Outlet.contents l.out);
  write : g.W.Outlet.failures l.writer ≡ g.W.Outlet.failures l.fn.writer;
  told : g.O.Outlet.failures l.out ≡ g.O.Outlet.failures l.fn.out;
  reads : HearsBy None l.fn.replies.over l.replies.over l.fn.replies.lines.reads l.replies.lines.reads (g.R.Intake.seen l.fn.reader) (g.R.Intake.seen l.reader);
}

abbrev pub decreases-polls : goal.decreases-polls
decreases-polls g l = lines_left l.replies
