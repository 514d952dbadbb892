-- What a query's plan says of the rows of a partition: its conditions, its measures, and the cells of an item.
use Rattle.std.specs.Prelude.{ℕ, ◌-◌, max, List, [], ◌∷◌, map, Option, None, Some, option_map, slice_get}
use Rattle.rp_value.specs.declared.value.Value.{Value}
use Rattle.rp_value.specs.declared.value.Value.TheVariants.{Null}
use Rattle.rp_query.specs.declared.query.OutputColumn.{OutputColumn}
use Rattle.rp_query.specs.declared.query.Source.{Source}
use Rattle.rp_query.specs.declared.query.Source.TheVariants as source
use Rattle.rp_words.specs.declared.word.Label.{Label}
use Rattle.rp_query.specs.declared.plan.Expr.{Expr}
use Rattle.rp_query.specs.declared.query.QueryData.{QueryData}
use Rattle.rp_eval.specs.declared.cell.Cell.{Cell}
use Rattle.rp_eval.specs.declared.cell.Cell.TheVariants.{Ready, Open}
use Rattle.rp_query.specs.QueryView.{totals_in}
use Rattle.rp_eval.specs.Partition.{Rows, cell}
use Rattle.rp_eval.specs.ValueOf.{Setting, value_of}
use Rattle.rp_conditions.specs.Tested.{Tested}
use Rattle.rp_known.specs.Known.{Known}

-- ---- conditions

-- the query's conditions over a known partition
abbrev pub tested_by : QueryData → Known → Tested
tested_by q p = record { rows = p.rows; ending = p.end; query = q }

-- the first row that is read for a match from this row on
abbrev pub first_read : QueryData → ℕ → ℕ
first_read q start = max 1 (start - q.reach)

-- ---- measures

-- a match of this number from a start row on, looked at from one of its rows
abbrev pub setting_of : QueryData → Known → ℕ → List Label → ℕ → ℕ → Setting
setting_of q p start labels number row =
    record { rows = p.rows; ending = p.end; start = start; labels = labels; current = row; number = number; totals = totals_in q }

-- the value of a measure
abbrev pub measured : Setting → Option Expr → Cell
measured s None = Ready Null
measured s (Some x) = value_of s x

-- ---- the cells of an item

-- what an output column has at the row that is looked at: a column of the table its cell there, a measure its value, which may be open
abbrev pub shown_in : QueryData → Setting → Source → Cell
shown_in q s (source.Column n) = Ready (cell s.rows n s.current)
shown_in q s (source.Measure i) = measured s (slice_get q.plan.measures.items i)

-- what it has at a row that is in no match
abbrev pub shown_alone : Rows → ℕ → Source → Value
shown_alone p row (source.Column n) = cell p n row
shown_alone p row (source.Measure i) = Null

abbrev pub before_ready : Cell → Option (List Value) → Option (List Value)
before_ready Open later = None
before_ready (Ready v) later = option_map (λ vs. v ∷ vs) later

-- the values of cells, or none where one is open
abbrev pub values_of : List Cell → Option (List Value)
values_of [] = Some []
values_of (c ∷ cs) = before_ready c (values_of cs)

-- the cells of these output columns at a row of a match
abbrev pub cells_in : QueryData → Setting → List OutputColumn → Option (List Value)
cells_in q s columns = values_of (map (λ o. shown_in q s o.from) columns)

-- and at a row that is in none
abbrev pub cells_alone : Rows → ℕ → List OutputColumn → List Value
cells_alone p row columns = map (λ o. shown_alone p row o.from) columns
