use Rattle.std.proofs.Common.{rules, ◌≡◌, sym, subst, Err}
use Rattle.std.specs.Io.KnownBytes.{Appends}
use Rattle.rp_io.proofs.Writes.{front_none}
use Rattle.rp_io.proofs.Written.{Moves-all}
use Rattle.rp_io.specs.declared.lines.LineFault.TheVariants.{OutOfMemory as LineMemory}
use Rattle.rp_serve.specs.Faults.{line_fault}
use Rattle.rp_serve.specs.Sessions.{IsWrittenBefore}
use Rattle.rp_serve.proofs.Serving.{if_err_is, only_memory, written_before}
use Rattle.rp_serve.proofs.session.next_line.Goals as goal

pub returns-in_err-next-clause-stops : goal.returns-in_err-next-clause-stops
returns-in_err-next-clause-stops g c =
    let w = g.W.Outlet.contents c.args.writer.now in
    let text = c.args.text.now.items in
    let fault = c.in_err-next.field-0.0 in
    let memory : fault ≡ LineMemory = only_memory fault (c.in_err-next.ensures.unread (c.has_line.ensures.yes (search rules))).0 in
    let is : c.from_residual.result ≡ Err (line_fault fault) = search rules in
    if_err_is c.from_residual.result (line_fault fault) (λ why. IsWrittenBefore why w w text) is
    (subst (λ e. IsWrittenBefore (line_fault e) w w text) (sym memory) (front_none w text))

pub returns-in_err-next-2-clause-stops : goal.returns-in_err-next-2-clause-stops
returns-in_err-next-2-clause-stops g c =
    let w = g.W.Outlet.contents c.args.writer.now in
    let w' = g.W.Outlet.contents c.write_all.new.writer in
    let text = c.args.text.now.items in
    let fault = c.in_err-next-2.field-0.0 in
    let is : c.from_residual-in_err-next-2.result ≡ Err (line_fault fault) = search rules in
    let wrote : Appends w w' text = rw c.as_slice.ensures.value at c.in_ok-write_all.ensures.ok in
    if_err_is c.from_residual-in_err-next-2.result (line_fault fault) (λ why. IsWrittenBefore why w w' text) is (written_before (line_fault fault) w w' text wrote)

pub returns-clause-moves : goal.returns-clause-moves
returns-clause-moves g c =
    Moves-all (g.W.Outlet.contents c.args.writer.now) (g.W.Outlet.contents c.write_all.new.writer) c.args.text.now.items c.clear.new.self.items c.clear.ensures.items
    (rw c.as_slice.ensures.value at c.in_ok-write_all.ensures.ok)
