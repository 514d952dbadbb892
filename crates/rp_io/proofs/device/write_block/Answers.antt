use Rattle.rp_io.proofs.Written.{Moves-all}
use Rattle.rp_io.proofs.device.write_block.Goals as goal

pub returns-clause-ok : goal.returns-clause-ok
returns-clause-ok g c = Moves-all (g.W.Outlet.contents c.args.writer.now) (g.W.Outlet.contents c.write_all.new.writer) c.args.text.now.items _ (cc) (rw c.as_slice.ensures.value at c.in_ok-write_all.ensures.ok)
