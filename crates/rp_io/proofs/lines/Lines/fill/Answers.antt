use Rattle.std.proofs.Common.{◌-◌, arith}
use Rattle.rp_io.proofs.Calls.{UsesCalls-one}
use Rattle.rp_io.proofs.lines.Lines.fill.Goals as goal

pub returns-in_err-extend_from_slice-in-Ok-clause-calls : goal.returns-in_err-extend_from_slice-in-Ok-clause-calls
returns-in_err-extend_from_slice-in-Ok-clause-calls g c =
    UsesCalls-one c.args.self.now.reads (c.make_room.new.self.reads - 1) (g.R.Intake.seen c.args.reader.now).calls (g.R.Intake.seen c.read.new.self).calls
    (omega (arith, c.if-self-eq0.false, c.in_ok-make_room.ensures.reads)) c.in-Ok.ensures.calls

pub returns-in_ok-extend_from_slice-in-Ok-clause-calls : goal.returns-in_ok-extend_from_slice-in-Ok-clause-calls
returns-in_ok-extend_from_slice-in-Ok-clause-calls g c =
    UsesCalls-one c.args.self.now.reads (c.make_room.new.self.reads - 1) (g.R.Intake.seen c.args.reader.now).calls (g.R.Intake.seen c.read.new.self).calls
    (omega (arith, c.if-self-eq0.false, c.in_ok-make_room.ensures.reads)) c.in-Ok.ensures.calls
