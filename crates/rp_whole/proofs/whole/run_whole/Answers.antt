use Rattle.rp_whole.proofs.Wrote.{wrote_lines_of}
use Rattle.rp_whole.proofs.whole.run_whole.Goals as goal

pub returns-clause-written : goal.returns-clause-written
returns-clause-written g c =
    wrote_lines_of c.args.query (g.W.Outlet.contents c.args.writer.now) (g.W.Outlet.contents c.run_answers.new.writer)
    c.in_ok-_stopped._stopped.items (g.R.Intake.seen c.args.reader.now).remaining c.in_ok-_stopped.ensures.written
