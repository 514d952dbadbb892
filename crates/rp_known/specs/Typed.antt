-- The cells of an output row are null or of the kinds of the output columns.
use Rattle.std.specs.Prelude.{◌≡◌, ⊤, true, List, All}
use Rattle.std.specs.List.{AllZip}
use Rattle.rp_value.specs.declared.value.Value.{Value}
use Rattle.rp_value.specs.Rows.{admits}
use Rattle.rp_query.specs.declared.item.Item.{Item}
use Rattle.rp_query.specs.declared.item.Item.TheVariants.{Row, Fault, End}
use Rattle.rp_query.specs.declared.query.OutputColumn.{OutputColumn}
use Rattle.rp_query.specs.declared.query.QueryData.{QueryData}
use Rattle.rp_query.specs.Sound.{IsSound}
use Rattle.rp_query.specs.Keys.{AreRowsOver}
use Rattle.rp_known.specs.Known.{Known}
use Rattle.rp_known.specs.Walk.{known}

-- there are as many cells as columns, and each is null or of the kind of the column at its place
abbrev pub AreTyped : List OutputColumn → List Value → Type 0
AreTyped columns cells = AllZip (λ o v. admits o.kind v ≡ true) columns cells

abbrev pub IsTyped : QueryData → Item → Type 0
IsTyped q (Row number cells) = AreTyped q.output.items cells
IsTyped q (Fault fault) = ⊤
IsTyped q End = ⊤

-- Over rows of the query's table each cell of an output row that is known is null or of its column's kind.
abbrev pub KnownIsTyped : Type 0
KnownIsTyped = (q : QueryData) (p : Known) → IsSound q → AreRowsOver q.table p.rows → All (IsTyped q) (known q p)
