use Rattle.std.proofs.Common.{◌≡◌, ◌+◌, ◌≤◌, drop}
use Rattle.rp_drive.specs.Counted.{ends_in_line, lines_begun}
use Rattle.rp_drive.proofs.counted.tally.Given as goal

abbrev pub invariant-loop-byte : goal.invariant-loop-byte
invariant-loop-byte l = record {
  lines : lines_begun l.in_line l.bytes ≡ l.lines + lines_begun l.inside (drop l.byte-index l.bytes);
  in_line : ends_in_line l.in_line l.bytes ≡ ends_in_line l.inside (drop l.byte-index l.bytes);
  few : l.lines ≤ l.byte-index;
}
