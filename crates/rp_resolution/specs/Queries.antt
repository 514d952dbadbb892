-- What the query of a clause is made of.
use Rattle.std.specs.Prelude.{◌≡◌, ℕ, max, List, [], ◌∷◌, ◌++◌, map, Option}
use Rattle.std.specs.List.{position}
use Rattle.rp_value.specs.declared.table.Column.{Column}
use Rattle.rp_value.specs.declared.value.Kind.{Kind}
use Rattle.rp_tree.specs.declared.tree.Order.{Order}
use Rattle.rp_tree.specs.declared.tree.RowsPerMatch.{RowsPerMatch}
use Rattle.rp_tree.specs.declared.tree.RowsPerMatch.TheVariants.{One, AllShowEmpty, AllOmitEmpty, AllWithUnmatched}
use Rattle.rp_tree.specs.declared.tree.Skip.{Skip}
use Rattle.rp_tree.specs.declared.tree.Skip.TheVariants as written
use Rattle.rp_tree.specs.Terms.{Term}
use Rattle.rp_tree.specs.Clauses.{MeasureTree, DefinitionTree}
use Rattle.rp_query.specs.declared.query.RowsPerMatch.{RowsPerMatch as RowsShown}
use Rattle.rp_query.specs.declared.query.RowsPerMatch.TheVariants as plan
use Rattle.rp_query.specs.SkipRules.{SkipRule, PastLastRow, ToNextRow, ToFirst, ToLast}
use Rattle.rp_query.specs.declared.query.OrderColumn.{OrderColumn}
use Rattle.rp_query.specs.declared.query.OutputColumn.{OutputColumn}
use Rattle.rp_query.specs.Formulas.{Formula, PlainTotal, members_of, plain_total}
use Rattle.rp_query.specs.declared.plan.Total.{Total}
use Rattle.rp_resolution.specs.Context.{Context, members_named, column_named, is_name}
use Rattle.rp_resolution.specs.Resolved.{resolved, totals, number_at}
use Rattle.rp_resolution.specs.Output.{measure_columns, value_kind}
use Rattle.rp_resolution.specs.Sorts.{sort_of}

-- expressions after these totals, from the left, and their totals
abbrev pub formulas : Context → List PlainTotal → List Term → List Formula
formulas x before [] = []
formulas x before (t ∷ ts) = resolved x before t ∷ formulas x (before ++ totals x t) ts

abbrev pub totals_of : Context → List Term → List PlainTotal
totals_of x [] = []
totals_of x (t ∷ ts) = totals x t ++ totals_of x ts

-- an expression behind these totals has this formula, and its totals stand behind them
abbrev pub IsResolved : Context → List PlainTotal → Term → Formula → List PlainTotal → Type 0
IsResolved x before t f now = (f ≡ resolved x before t) × (now ≡ before ++ totals x t)

-- the same of expressions one after another
abbrev pub AreResolved : Context → List PlainTotal → List Term → List Formula → List PlainTotal → Type 0
AreResolved x before ts fs now = (fs ≡ formulas x before ts) × (now ≡ before ++ totals_of x ts)

-- the same of totals as a plan keeps them
abbrev pub IsFound : Context → (before now : List Total) → Term → Formula → Type 0
IsFound x before now t f = IsResolved x (map plain_total before) t f (map plain_total now)

abbrev pub AreFound : Context → (before now : List Total) → List Term → List Formula → Type 0
AreFound x before now ts fs = AreResolved x (map plain_total before) ts fs (map plain_total now)

abbrev pub terms_of_measures : List MeasureTree → List Term
terms_of_measures ms = map (λ m. m.term) ms

-- a measure's value is found, and its kind
abbrev pub IsMeasured : Context → (before now : List Total) → Term → Formula → Kind → Type 0
IsMeasured x before now t f kind = IsFound x before now t f × (kind ≡ value_kind (sort_of x t))

-- measures are found, and are shown behind these columns
abbrev pub AreMeasured : Context → (before now : List Total) → List MeasureTree → List Formula
    → (shown shown' : List OutputColumn) → Type 0
AreMeasured x before now ms fs shown shown' =
    AreFound x before now (terms_of_measures ms) fs × (shown' ≡ shown ++ measure_columns x 0 ms)

abbrev pub terms_of_definitions : List DefinitionTree → List Term
terms_of_definitions ds = map (λ d. d.term) ds

-- which rows a match gives
abbrev pub rows_shown : RowsPerMatch → RowsShown
rows_shown One = plan.One
rows_shown AllShowEmpty = plan.AllShowEmpty
rows_shown AllOmitEmpty = plan.AllOmitEmpty
rows_shown AllWithUnmatched = plan.AllWithUnmatched

abbrev pub rule_meant : Context → Skip → SkipRule
rule_meant x written.PastLastRow = PastLastRow
rule_meant x written.ToNextRow = ToNextRow
rule_meant x (written.ToFirst name) = ToFirst (members_named name.text x.sets)
rule_meant x (written.ToLast name) = ToLast (members_named name.text x.sets)

-- the place of a variable's definition
abbrev pub definition_place : List DefinitionTree → List ℕ → Option ℕ
definition_place ds name = position (λ d. is_name name d.name.text) ds

abbrev pub greatest : List ℕ → ℕ
greatest [] = 0
greatest (n ∷ ns) = max n (greatest ns)

abbrev pub order_column : List Column → Order → OrderColumn
order_column columns o = record { column = number_at (column_named o.name.text columns); descending = o.descending }
