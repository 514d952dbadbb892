use Rattle.std.proofs.Common.{◌≡◌, take}
use Rattle.rp_value.specs.Tables.{columns_of}
use Rattle.rp_columns.specs.Headings.{headings}
use Rattle.rp_columns.proofs.columns.pairs_of.Given as goal

abbrev pub invariant-loop-column : goal.invariant-loop-column
invariant-loop-column l = columns_of l.pairs.items ≡ headings (take l.column-index l.columns)
