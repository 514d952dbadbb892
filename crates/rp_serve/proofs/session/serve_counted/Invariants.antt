use Rattle.std.proofs.Common.{◌≡◌, ◌+◌, ◌*◌, ◌≤◌}
use Rattle.rp_io.specs.Pending.{coming, most_lines_to_come}
use Rattle.rp_io.specs.Reading.{ReadsSoFar}
use Rattle.rp_serve.proofs.Serving.{Serving}
use Rattle.rp_serve.proofs.session.serve_counted.Given as goal

abbrev pub invariant-loop-text : goal.invariant-loop-text
invariant-loop-text g l = record {
  serving : Serving g.N.Answers.step (g.R.Intake.seen l.fn.reader).remaining (coming l.lines (g.R.Intake.seen l.reader)) l.fn.node l.node
      (g.W.Outlet.contents l.fn.writer) (g.W.Outlet.contents l.writer) l.text.items l.count;
  kept : l.lines.kept ≡ 65537;
  write : g.W.Outlet.failures l.writer ≡ g.W.Outlet.failures l.fn.writer;
  reads : ReadsSoFar l.reads l.lines.reads (g.R.Intake.seen l.fn.reader) (g.R.Intake.seen l.reader);
  bounded : l.count + most_lines_to_come l.lines ≤ l.reads * 65536;
}

abbrev pub decreases-loop-text : goal.decreases-loop-text
decreases-loop-text g l = most_lines_to_come l.lines
