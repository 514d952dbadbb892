use Rattle.std.proofs.Common.{◌≡◌, ◌-◌, length}
use Rattle.std.specs.Io.KnownBytes.{Consumes}
use Rattle.rp_io.specs.Reading.{ReadsSoFar}
use Rattle.rp_input.proofs.device.read_all.Given as goal

abbrev pub invariant-loop-read : goal.invariant-loop-read
invariant-loop-read g l = record {
  consumes : Consumes (g.R.Intake.seen l.fn.reader).remaining (g.R.Intake.seen l.reader).remaining l.bytes.items;
  reads : ReadsSoFar l.reads (l.reads - l._read) (g.R.Intake.seen l.fn.reader) (g.R.Intake.seen l.reader);
  room : length l.chunk.items ≡ 65536;
}
