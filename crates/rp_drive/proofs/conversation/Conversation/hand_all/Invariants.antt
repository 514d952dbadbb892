use Rattle.std.proofs.Common.{◌≡◌, drop, false, None}
use Rattle.rp_drive.specs.Exchanged.{GoesOn}
use Rattle.rp_drive.specs.Lines.{replies_within}
use Rattle.rp_drive.specs.Listening.{HearsBy, replies_left}
use Rattle.rp_drive.specs.Exchange.{Packets}
use Rattle.rp_drive.proofs.conversation.Conversation.hand_all.Given as goal

abbrev pub invariant-loop-packet : goal.invariant-loop-packet
invariant-loop-packet g l = record {
  goes : GoesOn l.self.query.now l.self.budget l.self.node_number (Packets l.self.packets.now) (Packets (drop l.packet-index l.self.packets.now))
      (replies_within l.limit (g.R.Intake.seen l.fn.reader).remaining) (replies_left l.replies (g.R.Intake.seen l.reader))
      (g.W.Outlet.contents l.fn.writer) (g.W.Outlet.contents l.writer) (g.O.Outlet.contents l.fn.out) (g.O.Outlet.contents l.out);
  at : l.place ≡ l.packet-index;
  write : g.W.Outlet.failures l.writer ≡ g.W.Outlet.failures l.fn.writer;
  told : g.O.Outlet.failures l.out ≡ g.O.Outlet.failures l.fn.out;
  reads : HearsBy None false l.replies.over l.self.reads l.replies.lines.reads (g.R.Intake.seen l.fn.reader) (g.R.Intake.seen l.reader);
}
