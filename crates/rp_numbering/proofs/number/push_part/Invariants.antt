use Rattle.std.proofs.Common.{◌≡◌, ◌++◌, length}
use Rattle.std.specs.Vec.Iter.{into_iter_items}
use Rattle.rp_numbering.specs.Numbered.{numbered_from}
use Rattle.rp_numbering.proofs.number.push_part.Given as goal

abbrev pub invariant-loop-cells : goal.invariant-loop-cells
invariant-loop-cells l = record {
  written : l.packets.items ≡ l.fn.packets.items ++ numbered_from 1 l.yielded;
  count : l.number ≡ length l.yielded;
  left : l.yielded ++ into_iter_items l.cells-iterator ≡ l.fn.rows.items;
}
