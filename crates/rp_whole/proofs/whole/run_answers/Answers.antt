use Rattle.std.proofs.Common.{◌≡◌, Err, IfSome, rules, subst}
use Rattle.rp_input.specs.CsvRows.{AreRowsOf}
use Rattle.rp_whole.specs.Answers.{WritesFrontOf}
use Rattle.rp_whole.specs.Faults.{told_csv}
use Rattle.rp_whole.proofs.Told.{fault_after, input_told, left_front}
use Rattle.rp_whole.proofs.Wrote.{front_of, front_over, wrote_of, wrote_over}
use Rattle.rp_whole.proofs.whole.run_answers.Goals as goal

pub returns-clause-written : goal.returns-clause-written
returns-clause-written g c =
    let form = g.G.Gathered.form in
    let q = c.args.query in
    let input = (g.R.Intake.seen c.args.reader.now).remaining in
    let old = g.W.Outlet.contents c.args.writer.now in
    let new = g.W.Outlet.contents c.write_answers.new.writer in
    let rows = c.in_ok-rows.rows.items in
    let stopped = c.in_ok-ended.ended.stopped.items in
    let read : IfSome input (λ text. AreRowsOf q.table text rows) = subst (λ table. IfSome input (λ text. AreRowsOf table text rows)) c.table.ensures c.in_ok-rows.ensures.ok in
    wrote_of form q rows input old new read stopped (wrote_over form q rows old new stopped c.in_ok-ended.ended.halted.items c.in_ok-ended.ensures.answers)

pub returns-in_err-ended-clause-front : goal.returns-in_err-ended-clause-front
returns-in_err-ended-clause-front g c =
    let form = g.G.Gathered.form in
    let q = c.args.query in
    let input = (g.R.Intake.seen c.args.reader.now).remaining in
    let old = g.W.Outlet.contents c.args.writer.now in
    let new = g.W.Outlet.contents c.write_answers.new.writer in
    let rows = c.in_ok-rows.rows.items in
    let read : IfSome input (λ text. AreRowsOf q.table text rows) = subst (λ table. IfSome input (λ text. AreRowsOf table text rows)) c.table.ensures c.in_ok-rows.ensures.ok in
    let why = c.in_err-ended.field-0.0 in
    let is : c.from_residual-in_err-ended.result ≡ Err why = search rules in
    rw is (left_front q input old (WritesFrontOf form q input old new) why new c.in_err-ended.ensures.answers.1
    (front_of form q rows input old new read (front_over form q rows old new c.in_err-ended.ensures.answers.0)))

pub returns-in_err-rows-clause-reads : goal.returns-in_err-rows-clause-reads
returns-in_err-rows-clause-reads g c =
    let why = c.in_err-rows.field-0.0 in
    let is : c.from_residual.result ≡ Err (told_csv why) = search rules in
    rw is (input_told _ _ _ why c.in_err-rows.ensures.reads)

pub returns-in_err-ended-clause-reads : goal.returns-in_err-ended-clause-reads
returns-in_err-ended-clause-reads g c =
    let why = c.in_err-ended.field-0.0 in
    let is : c.from_residual-in_err-ended.result ≡ Err why = search rules in
    rw is (fault_after _ _ _ why c.in_err-ended.ensures.answers.1 c.in_ok-rows.ensures.reads)
