use Rattle.std.proofs.Common.{◌≡◌}
use Rattle.std.specs.Vec.Iter.{into_iter_items}
use Rattle.rp_numbering.specs.Gathering.{parts_of}
use Rattle.rp_whole.specs.Answers.{limit_of}
use Rattle.rp_whole.proofs.InOrder.{HasWritten}
use Rattle.rp_whole.proofs.parts.write_parts.Given as goal

abbrev pub invariant-loop-key : goal.invariant-loop-key
invariant-loop-key g l = record {
  written : HasWritten (limit_of l.fn.counting.limit) g.G.Gathered.form l.query (parts_of l.fn.parts.items) (parts_of (into_iter_items l.key-iterator))
      (g.W.Outlet.contents l.fn.writer) (g.G.Gathered.bytes l.fn.gathered) (g.G.Gathered.stopped l.fn.gathered)
      (g.W.Outlet.contents l.writer) (g.G.Gathered.bytes l.gathered) (g.G.Gathered.stopped l.gathered) l.halted.items;
  limit : l.turns.limit ≡ l.fn.counting.limit;
  failures : g.W.Outlet.failures l.writer ≡ g.W.Outlet.failures l.fn.writer;
}
