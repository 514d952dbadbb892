use Rattle.std.proofs.Common.{rules}
use Rattle.rp_io.proofs.Cutting.{on_err_from}
use Rattle.rp_io.proofs.Written.{Called-end, Called-fault, Called-more, WroteFront-rest}
use Rattle.rp_io.proofs.device.write_all.Goals as goal

pub returns-in_err-count-clause-calls_failed : goal.returns-in_err-count-clause-calls_failed
returns-in_err-count-clause-calls_failed g c =
    on_err_from _ (Called-fault c.args.bytes.now c.loop-rest.rest.now (g.W.Outlet.calls c.args.writer.now) (g.W.Outlet.calls c.loop-rest.writer) (g.W.Outlet.calls c.write.new.self)
    c.loop-rest.invariant.called (search rules) c.in_err-count.ensures.calls)

pub returns-clause-calls : goal.returns-clause-calls
returns-clause-calls g c = Called-end c.args.bytes.now c.loop-rest.rest.now _ _ c.loop-rest.invariant.called

pub loop-rest-preserved : goal.loop-rest-preserved
loop-rest-preserved g c = record {
  wrote = WroteFront-rest (g.W.Outlet.contents c.args.writer.now) (g.W.Outlet.contents c.loop-rest.writer) (g.W.Outlet.contents c.write.new.self) c.args.bytes.now c.loop-rest.rest.now c.in_ok-count.count c.loop-rest.invariant.wrote c.in_ok-count.ensures.bytes;
  called = Called-more c.args.bytes.now c.loop-rest.rest.now c.in_ok-count.count (g.W.Outlet.calls c.args.writer.now) (g.W.Outlet.calls c.loop-rest.writer) (g.W.Outlet.calls c.write.new.self)
      c.loop-rest.invariant.called (search rules) (search rules) c.in_ok-count.ensures.calls;
  failed = search rules;
}
