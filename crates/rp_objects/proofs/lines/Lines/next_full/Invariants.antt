use Rattle.std.proofs.Common.{◌+◌, ◌^◌, ◌<◌, length}
use Rattle.rp_objects.proofs.LinesTaken.{Skipped}
use Rattle.rp_objects.proofs.lines.Lines.next_full.Given as goal

abbrev pub invariant-lines : goal.invariant-lines
invariant-lines l = record {
  skipped : Skipped l.fn.self.rest.now l.fn.self.taken l.self.rest.now l.self.taken;
  room : l.self.taken + length l.self.rest.now < 2 ^ 64;
}

abbrev pub decreases-lines : goal.decreases-lines
decreases-lines l = length l.self.rest.now
