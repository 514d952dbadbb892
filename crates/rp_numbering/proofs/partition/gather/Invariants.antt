use Rattle.std.proofs.Common.{◌≡◌, ◌++◌}
use Rattle.std.specs.Vec.Iter.{into_iter_items}
use Rattle.rp_numbering.specs.Gathering.{parts_added}
use Rattle.rp_numbering.specs.Partitions.{partitions}
use Rattle.rp_numbering.proofs.partition.gather.Given as goal

abbrev pub invariant-loop-row : goal.invariant-loop-row
invariant-loop-row l = record {
  gathered : parts_added l.parts.entries ≡ partitions l.columns l.yielded;
  left : l.yielded ++ into_iter_items l.row-iterator ≡ l.fn.rows.items;
}
