use Rattle.std.proofs.Common.{◌≡◌, ◌++◌}
use Rattle.rp_value.specs.Blocks.{cut_apart}
use Rattle.rp_value.proofs.row.add_rows.Given as goal

abbrev pub invariant-loop-index : goal.invariant-loop-index
invariant-loop-index l =
    record {
      block : l.block.value ≡ record { width = l.width; cells = l.fn.cells };
      rows : l.rows.items ≡ l.fn.rows.items ++ cut_apart l.width l.index l.fn.cells.items;
    }
