use Rattle.std.proofs.Common.{◌≡◌, ◌≤◌, vec_len}
use Rattle.rp_io.specs.Devices.{AsManyBytesAsReads, UsesCalls}
use Rattle.rp_io.specs.Pending.{HasLine, coming, most_lines_to_come}
use Rattle.rp_io.proofs.Cutting.{ReadFront}
use Rattle.rp_io.proofs.lines.Lines.next.Given as goal

abbrev pub invariant-loop-self : goal.invariant-loop-self
invariant-loop-self g l = record {
  read : ReadFront l.fn.self.kept (coming l.fn.self (g.R.Intake.seen l.fn.reader)) (coming l.self (g.R.Intake.seen l.reader)) l.line.items;
  fits : vec_len l.line ≤ l.self.kept;
  kept : l.self.kept ≡ l.fn.self.kept;
  goes : (g.R.Intake.seen l.reader).failures ≡ (g.R.Intake.seen l.fn.reader).failures;
  calls : UsesCalls l.fn.self.reads l.self.reads (g.R.Intake.seen l.fn.reader).calls (g.R.Intake.seen l.reader).calls;
  ended : (g.R.Intake.seen l.reader).ended ≡ (g.R.Intake.seen l.fn.reader).ended;
  gives : AsManyBytesAsReads l.fn.self.reads l.self.reads (g.R.Intake.seen l.fn.reader).remaining (g.R.Intake.seen l.reader).remaining;
  left : most_lines_to_come l.self ≤ most_lines_to_come l.fn.self;
  unread : HasLine l.fn.self → (l.self ≡ l.fn.self) × (l.reader ≡ l.fn.reader);
}

abbrev pub decreases-loop-self : goal.decreases-loop-self
decreases-loop-self g l = l.self.reads
