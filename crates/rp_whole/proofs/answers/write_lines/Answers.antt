use Rattle.std.proofs.Common.{◌≡◌, Err, rules}
use Rattle.rp_io.proofs.Cutting.{on_err_from}
use Rattle.rp_whole.specs.Answers.{limit_of}
use Rattle.rp_whole.proofs.Wrote.{wrote_lines_within}
use Rattle.rp_whole.proofs.answers.write_lines.Goals as goal

pub returns-clause-written : goal.returns-clause-written
returns-clause-written g c =
    wrote_lines_within c.args.query.now (g.W.Outlet.contents c.args.writer.now) (g.W.Outlet.contents c.write_answers.new.writer)
    c.in_ok-ended.ended.stopped.items (limit_of c.args.limit) c.args.rows.items c.in_ok-ended.ended.halted.items c.in_ok-ended.ensures.answers

pub returns-in_err-ended-clause-front : goal.returns-in_err-ended-clause-front
returns-in_err-ended-clause-front g c = on_err_from _ c.in_err-ended.ensures.answers.0

pub returns-in_err-ended-clause-fault : goal.returns-in_err-ended-clause-fault
returns-in_err-ended-clause-fault g c =
    let is : c.from_residual.result ≡ Err c.in_err-ended.field-0.0 = search rules in
    rw is c.in_err-ended.ensures.answers.1
