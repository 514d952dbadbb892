use Rattle.std.proofs.Common.{◌≡◌}
use Rattle.rp_words.specs.PatternForm.{form_of}
use Rattle.rp_search.specs.Search.{IsSearchFor}
use Rattle.rp_io.specs.Pending.{coming, most_lines_to_come}
use Rattle.rp_io.specs.Reading.{ReadsSoFar}
use Rattle.rp_trace.proofs.RepliesSoFar.{Replied}
use Rattle.rp_trace.proofs.trace.run_trace.Given as goal

abbrev pub invariant-loop-text : goal.invariant-loop-text
invariant-loop-text g l = record {
  replied : Replied (form_of l.pattern) (g.R.Intake.seen l.fn.reader).remaining (coming l.lines (g.R.Intake.seen l.reader)) (g.W.Outlet.contents l.fn.writer) (g.W.Outlet.contents l.writer) l.text.items;
  is_for : IsSearchFor (form_of l.pattern) l.search.value;
  kept : l.lines.kept ≡ 4097;
  write : g.W.Outlet.failures l.writer ≡ g.W.Outlet.failures l.fn.writer;
  reads : ReadsSoFar l.reads l.lines.reads (g.R.Intake.seen l.fn.reader) (g.R.Intake.seen l.reader);
}

abbrev pub decreases-loop-text : goal.decreases-loop-text
decreases-loop-text g l = most_lines_to_come l.lines
