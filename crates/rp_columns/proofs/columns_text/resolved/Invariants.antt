use Rattle.std.proofs.Common.{map, take}
use Rattle.rp_columns.specs.ColumnsGrammar.{written_tree}
use Rattle.rp_columns.specs.Resolved.{AreColumns}
use Rattle.rp_columns.proofs.columns_text.resolved.Given as goal

abbrev pub invariant-loop-column : goal.invariant-loop-column
invariant-loop-column l = AreColumns (map written_tree (take l.column-index l.written)) l.columns.items
