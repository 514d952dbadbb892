use Rattle.std.proofs.Common.{rules, ◌≡◌, ◌∙◌, refl, arith, inr, Err}
use Rattle.rp_io.proofs.SoFar.{end_stops, no_reads, part_stops, reads_all, reads_both, reads_then}
use Rattle.rp_io.specs.Pending.{coming, pending_of}
use Rattle.rp_serve.specs.declared.fault.ServeFault.TheVariants.{Write, OutOfMemory}
use Rattle.rp_serve.proofs.ReadParts.{came_last, came_more}
use Rattle.rp_serve.proofs.NextLine.{last_answered, last_cut, line_answered, line_cut}
use Rattle.rp_serve.proofs.Serving.{none_pending, serving_all, serving_moved, serving_part, serving_start, serving_stops}
use Rattle.rp_serve.proofs.session.serve_counted.Goals as goal

pub loop-text-init : goal.loop-text-init
loop-text-init g c =
    let lines = none_pending c.new-lines.result c.new-lines.ensures.pending in
    record {
      serving = rw c.requires
          (serving_start g.N.Answers.step (g.R.Intake.seen c.args.reader.now).remaining c.args.node.now (g.W.Outlet.contents c.args.writer.now) (pending_of c.new-lines.result) c.new-text.result.items
          c.new-lines.ensures.pending c.new-text.ensures.items);
      kept = c.new-lines.ensures.kept;
      write = refl;
      reads = no_reads c.args.reads c.new-lines.result.reads _ c.new-lines.ensures.reads;
      bounded = omega (arith, lines, c.new-lines.ensures.reads);
    }

pub returns-in_err-next_line-clause-stops : goal.returns-in_err-next_line-clause-stops
returns-in_err-next_line-clause-stops g c =
    let is : c.from_residual.result ≡ Err c.in_err-next_line.field-0.0 = search rules in
    rw is (serving_stops _ _ _ _ _ _ _ _ _ c.loop-text.invariant.serving g.N.Answers.cut_short c.in_err-next_line.field-0.0 _ c.in_err-next_line.ensures.stops)

pub returns-in_err-answer_line-clause-stops : goal.returns-in_err-answer_line-clause-stops
returns-in_err-answer_line-clause-stops g c =
    let is : c.from_residual-in_err-answer_line.result ≡ Err OutOfMemory = search rules in
    rw is (inr (line_cut c.loop-text.invariant.serving (coming c.next_line.new.lines (g.R.Intake.seen c.next_line.new.reader)) c.next_line.new.text.items c.in_ok-next_line.ensures.moves c.as_slice.ensures.value (c.in_ok-next_line.ensures.line (search rules)) c.in_err-answer_line.ensures.left))

pub returns-in_err-write_block-clause-stops : goal.returns-in_err-write_block-clause-stops
returns-in_err-write_block-clause-stops g c =
    let answered = line_answered c.loop-text.invariant.serving (coming c.next_line.new.lines (g.R.Intake.seen c.next_line.new.reader)) c.next_line.new.text.items c.in_ok-next_line.ensures.moves c.as_slice.ensures.value (c.in_ok-next_line.ensures.line (search rules)) c.in_ok-answer_line.ensures.done in
    let is : c.from_residual-in_err-write_block.result ≡ Err Write = search rules in
    rw is (serving_part _ _ _ _ _ _ _ _ _ answered _ c.in_err-write_block.ensures.err)

pub loop-text-preserved : goal.loop-text-preserved
loop-text-preserved g c =
    let answered = line_answered c.loop-text.invariant.serving (coming c.next_line.new.lines (g.R.Intake.seen c.next_line.new.reader)) c.next_line.new.text.items c.in_ok-next_line.ensures.moves c.as_slice.ensures.value (c.in_ok-next_line.ensures.line (search rules)) c.in_ok-answer_line.ensures.done in
    let falls = c.in_ok-next_line.ensures.falls (search rules) in
    record {
      serving = serving_moved _ _ _ _ _ _ _ _ _ answered _ _ c.in_ok-write_block.ensures.ok;
      kept = c.in_ok-next_line.ensures.kept;
      write = c.in_ok-write_block.ensures.no_failure ∙ c.in_ok-next_line.ensures.write ∙ c.loop-text.invariant.write;
      reads = reads_both _ _ _ _ c.loop-text.invariant.reads _ _ (came_more _ _ _ _ _ (search rules) c.in_ok-next_line.ensures.reads);
      bounded = omega (arith, falls, c.loop-text.invariant.bounded);
    }

pub returns-in_err-is_line-clause-stops : goal.returns-in_err-is_line-clause-stops
returns-in_err-is_line-clause-stops g c =
    let is : c.from_residual-in_err-is_line.result ≡ Err OutOfMemory = search rules in
    rw is (inr (last_cut c.loop-text.invariant.serving (coming c.next_line.new.lines (g.R.Intake.seen c.next_line.new.reader)) c.next_line.new.text.items c.in_ok-next_line.ensures.moves c.as_slice-2.ensures.value (c.in_ok-next_line.ensures.last (search rules)) c.in_err-is_line.ensures.left))

pub returns-in_err-write_all-clause-stops : goal.returns-in_err-write_all-clause-stops
returns-in_err-write_all-clause-stops g c =
    let answered = last_answered c.loop-text.invariant.serving (coming c.next_line.new.lines (g.R.Intake.seen c.next_line.new.reader)) c.next_line.new.text.items c.in_ok-next_line.ensures.moves c.as_slice-2.ensures.value (c.in_ok-next_line.ensures.last (search rules)) c.in_ok-is_line.is_line c.from.result (search rules)
    (λ yes. c.in_ok-is_line.ensures.done (search rules)) (λ no_line. c.in_ok-is_line.ensures.none (search rules)) in
    let is : c.from_residual-in_err-write_all.result ≡ Err Write = search rules in
    rw is (serving_part _ _ _ _ _ _ _ _ _ answered _ (rw c.as_slice-3.ensures.value at c.in_err-write_all.ensures.err))

pub returns-clause-served : goal.returns-clause-served
returns-clause-served g c =
    let takes = c.in_ok-next_line.ensures.last (search rules) in
    let moved = c.in_ok-next_line.ensures.moves in
    let answered = last_answered c.loop-text.invariant.serving (coming c.next_line.new.lines (g.R.Intake.seen c.next_line.new.reader)) c.next_line.new.text.items moved c.as_slice-2.ensures.value takes c.in_ok-is_line.is_line c.from.result (search rules)
    (λ yes. c.in_ok-is_line.ensures.done (search rules)) (λ no_line. c.in_ok-is_line.ensures.none (search rules)) in
    serving_all _ _ _ _ _ _ _ _ _ c.loop-text.invariant.serving _ _ takes _ _ moved _ _ _ _ answered (rw c.as_slice-3.ensures.value at c.in_ok-write_all.ensures.ok)

-- ---- what was read

pub returns-in_err-next_line-clause-reads : goal.returns-in_err-next_line-clause-reads
returns-in_err-next_line-clause-reads g c =
    let why = c.in_err-next_line.field-0.0 in
    let is : c.from_residual.result ≡ Err why = search rules in
    rw is (reads_all _ _ _ _ _ (reads_then _ _ _ _ c.loop-text.invariant.reads _ _ _ c.in_err-next_line.ensures.reads))

pub returns-in_err-answer_line-clause-reads : goal.returns-in_err-answer_line-clause-reads
returns-in_err-answer_line-clause-reads g c =
    let is : c.from_residual-in_err-answer_line.result ≡ Err OutOfMemory = search rules in
    rw is (reads_all _ _ _ _ _ (part_stops _ _ _ _
    (reads_both _ _ _ _ c.loop-text.invariant.reads _ _ (came_more _ _ _ _ _ (search rules) c.in_ok-next_line.ensures.reads))))

pub returns-in_err-write_block-clause-reads : goal.returns-in_err-write_block-clause-reads
returns-in_err-write_block-clause-reads g c =
    let is : c.from_residual-in_err-write_block.result ≡ Err Write = search rules in
    rw is (reads_all _ _ _ _ _ (part_stops _ _ _ _
    (reads_both _ _ _ _ c.loop-text.invariant.reads _ _ (came_more _ _ _ _ _ (search rules) c.in_ok-next_line.ensures.reads))))

pub returns-in_err-is_line-clause-reads : goal.returns-in_err-is_line-clause-reads
returns-in_err-is_line-clause-reads g c =
    let is : c.from_residual-in_err-is_line.result ≡ Err OutOfMemory = search rules in
    rw is (reads_all _ _ _ _ _ (end_stops _ _ _ _
    (reads_then _ _ _ _ c.loop-text.invariant.reads _ _ _ (came_last _ _ _ _ _ (search rules) c.in_ok-next_line.ensures.reads))))

pub returns-in_err-write_all-clause-reads : goal.returns-in_err-write_all-clause-reads
returns-in_err-write_all-clause-reads g c =
    let is : c.from_residual-in_err-write_all.result ≡ Err Write = search rules in
    rw is (reads_all _ _ _ _ _ (end_stops _ _ _ _
    (reads_then _ _ _ _ c.loop-text.invariant.reads _ _ _ (came_last _ _ _ _ _ (search rules) c.in_ok-next_line.ensures.reads))))

pub returns-clause-reads : goal.returns-clause-reads
returns-clause-reads g c =
    reads_all _ _ _ _ _
    (reads_then _ _ _ _ c.loop-text.invariant.reads _ _ _ (came_last _ _ _ _ _ (search rules) c.in_ok-next_line.ensures.reads))
