use Rattle.std.proofs.Common.{ℕ, List}
use Rattle.rp_columns.specs.declared.columns.InputColumn.{InputColumn}
use Rattle.rp_input.specs.Beginning.{Begins}
use Rattle.rp_input.specs.declared.layout.CsvLayout.{CsvLayout}
use Rattle.rp_value.specs.RowLists.{rows_added}
use Rattle.rp_input.proofs.TakenByColumns.{Taken}
use Rattle.rp_input.proofs.by_columns.take_rows.Given as goal

abbrev pub invariant-loop-number : goal.invariant-loop-number
invariant-loop-number l = (layout : CsvLayout) (columns : List InputColumn) (text : List ℕ) → Begins layout columns text l.fn.places.columns.items l.fn.places.width l.fn.reader → Taken l.fn.nulls layout columns text l.fn.places.columns.items l.fn.places.width (rows_added l.taking.rows) l.number l.reader
