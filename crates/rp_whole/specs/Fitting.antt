-- The rows of a text's partitions are rows of its table.
use Rattle.std.specs.Prelude.{ℕ, List, All}
use Rattle.rp_value.specs.declared.table.Column.{Column}
use Rattle.rp_value.specs.declared.value.Value.{Value}
use Rattle.rp_query.specs.declared.query.OrderColumn.{OrderColumn}
use Rattle.rp_query.specs.Keys.{AreRowsOver}
use Rattle.rp_columns.specs.Headings.{headings}
use Rattle.rp_columns.specs.declared.columns.InputColumn.{InputColumn}
use Rattle.rp_numbering.specs.Numbered.{AreOrderedParts}
use Rattle.rp_numbering.specs.Partitions.{Part}
use Rattle.rp_input.specs.ByColumns.{AreRowsByColumns}
use Rattle.rp_input.specs.CsvRows.{AreRowsOf}
use Rattle.rp_input.specs.declared.layout.CsvLayout.{CsvLayout}

-- The rows of a text that is a header of these columns are rows over them, and so are those of its partitions, each in order.
abbrev pub PartsFit : Type 0
PartsFit = (columns : List Column) (partition : List ℕ) (order : List OrderColumn)
    (text : List ℕ) (rows : List (List Value)) (parts : List Part) →
    AreRowsOf columns text rows → AreOrderedParts partition order rows parts →
    All (λ part. AreRowsOver columns part.1) parts

-- The rows of a text by columns are rows over the table that these make, and so are those of its partitions, each in order.
abbrev pub PartsFitColumns : Type 0
PartsFitColumns = (words : List (List ℕ)) (layout : CsvLayout) (columns : List InputColumn) (partition : List ℕ) (order : List OrderColumn)
    (text : List ℕ) (rows : List (List Value)) (parts : List Part) →
    AreRowsByColumns words layout columns text rows → AreOrderedParts partition order rows parts →
    All (λ part. AreRowsOver (headings columns) part.1) parts
