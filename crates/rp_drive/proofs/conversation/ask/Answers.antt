use Rattle.std.proofs.Common.{rules, ◌≡◌, Err}
use Rattle.std.proofs.lemmas.Result.{IfErr-weaker}
use Rattle.rp_drive.specs.Exchanged.{SendsLine}
use Rattle.rp_drive.specs.Faults.{IsOfReading}
use Rattle.rp_drive.specs.declared.fault.DriveFault.TheVariants.{Write}
use Rattle.rp_drive.proofs.Steps.{reading_sends}
use Rattle.rp_drive.proofs.Whole.{if_err_is}
use Rattle.rp_drive.proofs.conversation.ask.Goals as goal

pub returns-in_err-write_all-clause-stops : goal.returns-in_err-write_all-clause-stops
returns-in_err-write_all-clause-stops g c =
    let is : c.from_residual.result ≡ Err Write = search rules in
    if_err_is c.from_residual.result Write (λ why. SendsLine why (g.W.Outlet.contents c.args.writer.now) (g.W.Outlet.contents c.write_all.new.writer) c.args.line.now) is c.in_err-write_all.ensures.err

pub returns-clause-stops : goal.returns-clause-stops
returns-clause-stops g c =
    IfErr-weaker c.next.result IsOfReading _
    (λ why reading. reading_sends (g.W.Outlet.contents c.args.writer.now) (g.W.Outlet.contents c.write_all.new.writer) c.args.line.now why reading c.in_ok-write_all.ensures.ok) c.next.ensures.fault
