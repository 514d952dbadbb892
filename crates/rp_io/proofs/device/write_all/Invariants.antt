use Rattle.std.proofs.Common.{◌≡◌, length}
use Rattle.rp_io.proofs.Written.{Called, WroteFront}
use Rattle.rp_io.proofs.device.write_all.Given as goal

abbrev pub invariant-loop-rest : goal.invariant-loop-rest
invariant-loop-rest g l = record {
  wrote : WroteFront (g.W.Outlet.contents l.fn.writer) (g.W.Outlet.contents l.writer) l.fn.bytes l.rest;
  called : Called l.fn.bytes l.rest (g.W.Outlet.calls l.fn.writer) (g.W.Outlet.calls l.writer);
  failed : g.W.Outlet.failures l.writer ≡ g.W.Outlet.failures l.fn.writer;
}

abbrev pub decreases-loop-rest : goal.decreases-loop-rest
decreases-loop-rest g l = length l.rest
