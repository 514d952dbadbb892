-- The values of expressions and the cells of columns are null or of the kinds that a query gives them.
use Rattle.std.specs.Prelude.{◌≡◌, ⊤, ℕ, true, List, map}
use Rattle.rp_value.specs.declared.table.Column.{Column}
use Rattle.rp_value.specs.declared.value.Kind.{Kind}
use Rattle.rp_value.specs.Rows.{admits}
use Rattle.rp_query.specs.declared.plan.Expr.{Expr}
use Rattle.rp_query.specs.Formulas.{plain_total, value_formula}
use Rattle.rp_query.specs.Keys.{AreRowsOver}
use Rattle.rp_query.specs.Kinds.{column_kind, has_kind, is_kind}
use Rattle.rp_eval.specs.declared.cell.Cell.{Cell}
use Rattle.rp_eval.specs.declared.cell.Cell.TheVariants.{Ready, Open}
use Rattle.rp_eval.specs.Partition.{Rows, cell}
use Rattle.rp_eval.specs.ValueOf.{Setting, value_of}

-- a cell that is ready is null or of the kind
abbrev pub IsOfKind : Kind → Cell → Type 0
IsOfKind k (Ready v) = admits k v ≡ true
IsOfKind k Open = ⊤

-- Over rows of a table the value of an expression of a kind is null or of that kind.
abbrev pub ValuesHaveKinds : Type 0
ValuesHaveKinds = (columns : List Column) (s : Setting) (k : Kind) (x : Expr) → AreRowsOver columns s.rows
    → has_kind columns (map plain_total s.totals) k (value_formula x) ≡ true → IsOfKind k (value_of s x)

-- So is the cell of a row in a column of a kind.
abbrev pub CellsHaveKinds : Type 0
CellsHaveKinds = (columns : List Column) (rows : Rows) (k : Kind) (column row : ℕ) → AreRowsOver columns rows
    → is_kind k (column_kind columns column) ≡ true → admits k (cell rows column row) ≡ true
