use Rattle.std.proofs.Common.{◌≡◌, ◌++◌}
use Rattle.std.specs.Vec.Iter.{into_iter_items}
use Rattle.rp_numbering.specs.Gathering.{parts_added, parts_of}
use Rattle.rp_numbering.proofs.partition.rows_of_lists.Given as goal

abbrev pub invariant-loop-key : goal.invariant-loop-key
invariant-loop-key l = record {
  made : parts_of l.parts.items ≡ parts_added l.yielded;
  left : l.yielded ++ into_iter_items l.key-iterator ≡ l.fn.lists.items;
}
