use Rattle.std.proofs.Common.{◌≡◌}
use Rattle.rp_walker.specs.Polls.{left_in}
use Rattle.rp_walker.specs.Records.{first_state}
use Rattle.rp_walker.specs.Walking.{record_of}
use Rattle.rp_whole.specs.Answers.{closed}
use Rattle.rp_whole.specs.Pauses.{CanBePolled}
use Rattle.rp_whole.specs.Writing.{WritesOn, part_of}
use Rattle.rp_whole.proofs.part.write_part.Given as goal

abbrev pub invariant-items : goal.invariant-items
invariant-items g l = record {
  can_be_polled : CanBePolled l.query (part_of l.part) l.turns.row l.turns.taken l.walker;
  writes : WritesOn g.G.Gathered.form l.query (part_of l.part) first_state (record_of l.walker)
      (g.W.Outlet.contents l.fn.writer) (g.G.Gathered.bytes l.fn.gathered) (g.W.Outlet.contents l.writer) (g.G.Gathered.bytes l.gathered)
      (g.G.Gathered.stopped l.fn.gathered) (g.G.Gathered.stopped l.gathered);
  limit : l.turns.limit ≡ l.fn.turns.limit;
  failures : g.W.Outlet.failures l.writer ≡ g.W.Outlet.failures l.fn.writer;
}

abbrev pub decreases-items : goal.decreases-items
decreases-items g l = left_in l.query (closed l.part.rows.items) l.walker
