use Rattle.std.proofs.Common.{rules, ◌≡◌, [], ◌++◌, Err, refl, ap, sym, inr, ◌∙◌}
use Rattle.rp_words.specs.PatternForm.{form_of}
use Rattle.rp_io.specs.Pending.{coming}
use Rattle.rp_trace.specs.Replies.{last_reply, reply_to}
use Rattle.rp_io.proofs.Cutting.{on_err_from}
use Rattle.rp_trace.proofs.RepliesSoFar.{Replied-start, Replied-more, Replied-moved, Replied-last, Replied-end, Replied-fault}
use Rattle.rp_io.proofs.SoFar.{no_reads, reads_end, reads_ended, reads_fail, reads_more, reads_stop}
use Rattle.rp_io.proofs.Told.{told_last, told_more}
use Rattle.rp_io.proofs.Writes.{front_none}
use Rattle.rp_io.specs.Reading.{line_told}
use Rattle.rp_io.specs.Reading.Told.{Other}
use Rattle.rp_trace.specs.Faults.{run_told, trace_fault}
use Rattle.rp_trace.specs.declared.trace.TraceFault.TheVariants.{OutOfMemory, Write}
use Rattle.rp_trace.proofs.LineFaults.{next_told}
use Rattle.rp_trace.proofs.trace.run_trace.Goals as goal

pub loop-text-init : goal.loop-text-init
loop-text-init g c = record {
  replied = Replied-start (form_of c.args.pattern.now) (g.R.Intake.seen c.args.reader.now).remaining (g.W.Outlet.contents c.args.writer.now) _ c.new-text.result.items c.new-lines.ensures.pending c.new-text.ensures.items;
  is_for = c.in_ok-search.ensures;
  kept = c.new-lines.ensures.kept;
  write = refl;
  reads = no_reads c.args.reads c.new-lines.result.reads _ c.new-lines.ensures.reads;
}

pub returns-in_err-search-clause-front : goal.returns-in_err-search-clause-front
returns-in_err-search-clause-front g c =
    let contents = g.W.Outlet.contents c.args.writer.now in
    on_err_from _ (Replied-fault (form_of c.args.pattern.now) (g.R.Intake.seen c.args.reader.now).remaining (coming c.new-lines.result (g.R.Intake.seen c.args.reader.now)) contents contents contents []
    (Replied-start (form_of c.args.pattern.now) (g.R.Intake.seen c.args.reader.now).remaining contents _ [] c.new-lines.ensures.pending refl) (front_none contents []))

pub returns-in_err-search-clause-reads : goal.returns-in_err-search-clause-reads
returns-in_err-search-clause-reads g c =
    let told : run_told c.from_residual.result ≡ Other = let is : c.from_residual.result ≡ Err OutOfMemory = search rules in ap run_told is in
    rw told (reads_stop _ _ _ _ (no_reads c.args.reads c.new-lines.result.reads _ c.new-lines.ensures.reads))

pub returns-in_err-next-clause-front : goal.returns-in_err-next-clause-front
returns-in_err-next-clause-front g c =
    on_err_from _ (Replied-fault (form_of c.args.pattern.now) (g.R.Intake.seen c.args.reader.now).remaining (coming c.loop-text.lines (g.R.Intake.seen c.loop-text.reader)) (g.W.Outlet.contents c.args.writer.now)
    (g.W.Outlet.contents c.loop-text.writer) (g.W.Outlet.contents c.loop-text.writer) c.loop-text.text.items c.loop-text.invariant.replied (front_none (g.W.Outlet.contents c.loop-text.writer) c.loop-text.text.items))

pub returns-in_err-push_reply-clause-front : goal.returns-in_err-push_reply-clause-front
returns-in_err-push_reply-clause-front g c =
    on_err_from _ (Replied-fault (form_of c.args.pattern.now) (g.R.Intake.seen c.args.reader.now).remaining (coming c.loop-text.lines (g.R.Intake.seen c.loop-text.reader)) (g.W.Outlet.contents c.args.writer.now)
    (g.W.Outlet.contents c.loop-text.writer) (g.W.Outlet.contents c.loop-text.writer) c.loop-text.text.items c.loop-text.invariant.replied (front_none (g.W.Outlet.contents c.loop-text.writer) c.loop-text.text.items))

pub loop-text-preserved : goal.loop-text-preserved
loop-text-preserved g c =
    let form = form_of c.args.pattern.now in
    let input = (g.R.Intake.seen c.args.reader.now).remaining in
    let contents = g.W.Outlet.contents c.args.writer.now in
    let next = coming c.next.new.self (g.R.Intake.seen c.next.new.reader) in
    let now = g.W.Outlet.contents c.loop-text.writer in
    let takes = rw c.loop-text.invariant.kept at c.in_ok-next.ensures.line (search rules) in
    let text : c.push_reply.new.text.items ≡ c.loop-text.text.items ++ reply_to form c.next.new.line.items = c.in_ok-push_reply.ensures.added ∙ ap (λ t. c.loop-text.text.items ++ reply_to form t) c.as_slice.ensures.value in
    let more = Replied-more form input (coming c.loop-text.lines (g.R.Intake.seen c.loop-text.reader)) next contents now c.loop-text.text.items c.push_reply.new.text.items c.next.new.line.items c.loop-text.invariant.replied takes text in
    record {
      replied = Replied-moved form input next contents now (g.W.Outlet.contents c.write_block.new.writer) c.push_reply.new.text.items c.write_block.new.text.items more c.in_ok-write_block.ensures.ok;
      is_for = c.push_reply.ensures.is_for;
      kept = c.in_ok-next.ensures.kept ∙ c.loop-text.invariant.kept;
      write = c.in_ok-write_block.ensures.no_failure ∙ c.loop-text.invariant.write;
      reads = reads_more _ _ _ _ c.loop-text.invariant.reads _ _ c.in_ok-next.ensures.calls
          c.in_ok-next.ensures.failures (told_more _ _ _ (search rules) c.in_ok-next.ensures.told) (c.in_ok-next.ensures.gives (search rules));
    }

pub returns-in_err-write_block-clause-front : goal.returns-in_err-write_block-clause-front
returns-in_err-write_block-clause-front g c =
    let form = form_of c.args.pattern.now in
    let input = (g.R.Intake.seen c.args.reader.now).remaining in
    let contents = g.W.Outlet.contents c.args.writer.now in
    let next = coming c.next.new.self (g.R.Intake.seen c.next.new.reader) in
    let now = g.W.Outlet.contents c.loop-text.writer in
    let takes = rw c.loop-text.invariant.kept at c.in_ok-next.ensures.line (search rules) in
    let text : c.push_reply.new.text.items ≡ c.loop-text.text.items ++ reply_to form c.next.new.line.items = c.in_ok-push_reply.ensures.added ∙ ap (λ t. c.loop-text.text.items ++ reply_to form t) c.as_slice.ensures.value in
    let more = Replied-more form input (coming c.loop-text.lines (g.R.Intake.seen c.loop-text.reader)) next contents now c.loop-text.text.items c.push_reply.new.text.items c.next.new.line.items c.loop-text.invariant.replied takes text in
    on_err_from _ (Replied-fault form input next contents now (g.W.Outlet.contents c.write_block.new.writer) c.push_reply.new.text.items more c.in_err-write_block.ensures.err)

pub returns-in_err-push_last-clause-front : goal.returns-in_err-push_last-clause-front
returns-in_err-push_last-clause-front g c =
    on_err_from _ (Replied-fault (form_of c.args.pattern.now) (g.R.Intake.seen c.args.reader.now).remaining (coming c.loop-text.lines (g.R.Intake.seen c.loop-text.reader)) (g.W.Outlet.contents c.args.writer.now)
    (g.W.Outlet.contents c.loop-text.writer) (g.W.Outlet.contents c.loop-text.writer) c.loop-text.text.items c.loop-text.invariant.replied (front_none (g.W.Outlet.contents c.loop-text.writer) c.loop-text.text.items))

pub returns-in_err-write_all-clause-front : goal.returns-in_err-write_all-clause-front
returns-in_err-write_all-clause-front g c =
    let form = form_of c.args.pattern.now in
    let input = (g.R.Intake.seen c.args.reader.now).remaining in
    let contents = g.W.Outlet.contents c.args.writer.now in
    let next = coming c.next.new.self (g.R.Intake.seen c.next.new.reader) in
    let now = g.W.Outlet.contents c.loop-text.writer in
    let takes = rw c.loop-text.invariant.kept at c.in_ok-next.ensures.last (search rules) in
    let text : c.push_last.new.text.items ≡ c.loop-text.text.items ++ last_reply form c.next.new.line.items = c.in_ok-push_last.ensures ∙ ap (λ t. c.loop-text.text.items ++ last_reply form t) c.as_slice-2.ensures.value in
    let last = Replied-last form input (coming c.loop-text.lines (g.R.Intake.seen c.loop-text.reader)) next contents now c.loop-text.text.items c.push_last.new.text.items c.next.new.line.items c.loop-text.invariant.replied takes text in
    on_err_from _ (Replied-fault form input next contents now (g.W.Outlet.contents c.write_all.new.writer) c.push_last.new.text.items last (rw c.as_slice-3.ensures.value at c.in_err-write_all.ensures.err))

pub returns-clause-written : goal.returns-clause-written
returns-clause-written g c =
    let form = form_of c.args.pattern.now in
    let takes = rw c.loop-text.invariant.kept at c.in_ok-next.ensures.last (search rules) in
    let text : c.push_last.new.text.items ≡ c.loop-text.text.items ++ last_reply form c.next.new.line.items = c.in_ok-push_last.ensures ∙ ap (λ t. c.loop-text.text.items ++ last_reply form t) c.as_slice-2.ensures.value in
    Replied-end form (g.R.Intake.seen c.args.reader.now).remaining (coming c.loop-text.lines (g.R.Intake.seen c.loop-text.reader)) (coming c.next.new.self (g.R.Intake.seen c.next.new.reader))
    (g.W.Outlet.contents c.args.writer.now) (g.W.Outlet.contents c.loop-text.writer) (g.W.Outlet.contents c.write_all.new.writer) c.loop-text.text.items c.push_last.new.text.items c.next.new.line.items
    c.loop-text.invariant.replied takes text (rw c.as_slice-3.ensures.value at c.in_ok-write_all.ensures.ok)

pub returns-in_err-next-clause-reads : goal.returns-in_err-next-clause-reads
returns-in_err-next-clause-reads g c =
    let fault = c.in_err-next.field-0.0 in
    let is : c.from_residual-in_err-next.result ≡ Err (trace_fault fault) = search rules in
    let told : run_told c.from_residual-in_err-next.result ≡ line_told fault = ap run_told is ∙ sym (next_told fault) in
    rw told (reads_fail _ _ _ _ c.loop-text.invariant.reads _ _ c.in_err-next.ensures.calls
    fault c.in_err-next.ensures.failures c.in_err-next.ensures.told
    (λ late. c.in_err-next.ensures.reads (rw late refl)) (λ late. c.in_err-next.ensures.gives (inr (rw late refl))))

pub returns-in_err-push_reply-clause-reads : goal.returns-in_err-push_reply-clause-reads
returns-in_err-push_reply-clause-reads g c =
    let told : run_told c.from_residual-in_err-push_reply.result ≡ Other = let is : c.from_residual-in_err-push_reply.result ≡ Err OutOfMemory = search rules in ap run_told is in
    rw told (reads_stop _ _ _ _ (reads_more _ _ _ _ c.loop-text.invariant.reads _ _ c.in_ok-next.ensures.calls
    c.in_ok-next.ensures.failures (told_more _ _ _ (search rules) c.in_ok-next.ensures.told) (c.in_ok-next.ensures.gives (search rules))))

pub returns-in_err-write_block-clause-reads : goal.returns-in_err-write_block-clause-reads
returns-in_err-write_block-clause-reads g c =
    let told : run_told c.from_residual-in_err-write_block.result ≡ Other = let is : c.from_residual-in_err-write_block.result ≡ Err Write = search rules in ap run_told is in
    rw told (reads_stop _ _ _ _ (reads_more _ _ _ _ c.loop-text.invariant.reads _ _ c.in_ok-next.ensures.calls
    c.in_ok-next.ensures.failures (told_more _ _ _ (search rules) c.in_ok-next.ensures.told) (c.in_ok-next.ensures.gives (search rules))))

pub returns-in_err-push_last-clause-reads : goal.returns-in_err-push_last-clause-reads
returns-in_err-push_last-clause-reads g c =
    let told : run_told c.from_residual-in_err-push_last.result ≡ Other = let is : c.from_residual-in_err-push_last.result ≡ Err OutOfMemory = search rules in ap run_told is in
    rw told (reads_ended _ _ _ (reads_end _ _ _ _ c.loop-text.invariant.reads _ _ c.in_ok-next.ensures.calls
    c.in_ok-next.ensures.failures (told_last _ _ _ (search rules) c.in_ok-next.ensures.told) (c.in_ok-next.ensures.end (search rules))))

pub returns-in_err-write_all-clause-reads : goal.returns-in_err-write_all-clause-reads
returns-in_err-write_all-clause-reads g c =
    let told : run_told c.from_residual-in_err-write_all.result ≡ Other = let is : c.from_residual-in_err-write_all.result ≡ Err Write = search rules in ap run_told is in
    rw told (reads_ended _ _ _ (reads_end _ _ _ _ c.loop-text.invariant.reads _ _ c.in_ok-next.ensures.calls
    c.in_ok-next.ensures.failures (told_last _ _ _ (search rules) c.in_ok-next.ensures.told) (c.in_ok-next.ensures.end (search rules))))

pub returns-clause-reads : goal.returns-clause-reads
returns-clause-reads g c =
    reads_end _ _ _ _ c.loop-text.invariant.reads _ _ c.in_ok-next.ensures.calls
    c.in_ok-next.ensures.failures (told_last _ _ _ (search rules) c.in_ok-next.ensures.told) (c.in_ok-next.ensures.end (search rules))
