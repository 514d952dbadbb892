-- The columns of the output.
use Rattle.std.specs.Prelude.{ℕ, ◌+◌, ◌||◌, false, List, [], ◌∷◌, ◌++◌, map, Option, None, Some, cond}
use Rattle.rp_value.specs.declared.table.Column.{Column}
use Rattle.rp_value.specs.declared.value.Kind.{Kind}
use Rattle.rp_value.specs.declared.value.Kind.TheVariants.{Text}
use Rattle.rp_grammar.specs.declared.written.Name.{Name}
use Rattle.rp_tree.specs.declared.tree.RowsPerMatch.{RowsPerMatch}
use Rattle.rp_tree.specs.declared.tree.RowsPerMatch.TheVariants.{One, AllShowEmpty, AllOmitEmpty, AllWithUnmatched}
use Rattle.rp_tree.specs.Clauses.{ClauseTree, MeasureTree}
use Rattle.rp_query.specs.declared.query.OutputColumn.{OutputColumn}
use Rattle.rp_query.specs.declared.query.Source.TheVariants as source
use Rattle.rp_resolution.specs.Context.{Context, column_named}
use Rattle.rp_resolution.specs.Resolved.{number_at}
use Rattle.rp_resolution.specs.Sorts.{Sort, Valued, Truth, kind_at, sort_of}
use Rattle.rp_resolution.specs.Variables.{is_among, variables_of, context}

abbrev pub kind_or_text : Option Kind → Kind
kind_or_text None = Text
kind_or_text (Some k) = k

-- the kind of a value of this sort; a clause without faults shows no other
abbrev pub value_kind : Option Sort → Kind
value_kind None = Text
value_kind (Some (Valued k)) = k
value_kind (Some Truth) = Text

abbrev pub texts : List Name → List (List ℕ)
texts names = map (λ n. n.text) names

-- a column of PARTITION BY or ORDER BY, by its name
abbrev pub key_column : List Column → List ℕ → OutputColumn
key_column columns name = record {
  name = name;
  kind = kind_or_text (kind_at columns (column_named name columns));
  from = source.Column (number_at (column_named name columns));
}

abbrev pub key_columns : List Column → List (List ℕ) → List OutputColumn
key_columns columns names = map (key_column columns) names

-- a measure, by its place
abbrev pub measure_column : Context → ℕ → MeasureTree → OutputColumn
measure_column x place m =
    record { name = m.name.text; kind = value_kind (sort_of x m.term); from = source.Measure place }

-- measures, from this place on
abbrev pub measure_columns : Context → ℕ → List MeasureTree → List OutputColumn
measure_columns x place [] = []
measure_columns x place (m ∷ ms) = measure_column x place m ∷ measure_columns x (place + 1) ms

-- the column of the table of this number, unless PARTITION BY or ORDER BY has it
abbrev pub other_column : List (List ℕ) → List (List ℕ) → ℕ → Column → List OutputColumn
other_column partition order number c =
    cond (is_among c.name partition || is_among c.name order) []
    (record { name = c.name; kind = c.kind; from = source.Column number } ∷ [])

-- those of these columns, from this number on
abbrev pub other_columns : List (List ℕ) → List (List ℕ) → ℕ → List Column → List OutputColumn
other_columns partition order number [] = []
other_columns partition order number (c ∷ cs) =
    other_column partition order number c ++ other_columns partition order (number + 1) cs

-- With ONE ROW PER MATCH the output has the columns of PARTITION BY and the measures; with ALL ROWS PER MATCH those of
-- PARTITION BY and of ORDER BY, the measures, and the other columns of the table in its order.
abbrev pub in_order : RowsPerMatch → (partition order measures others : List OutputColumn) → List OutputColumn
in_order One partition order measures others = partition ++ measures
in_order AllShowEmpty partition order measures others = ((partition ++ order) ++ measures) ++ others
in_order AllOmitEmpty partition order measures others = ((partition ++ order) ++ measures) ++ others
in_order AllWithUnmatched partition order measures others = ((partition ++ order) ++ measures) ++ others

-- the output columns of a clause whose measures are these
abbrev pub output_with : ClauseTree → List Column → List OutputColumn → List OutputColumn
output_with c columns measures =
    let partition = texts c.partition in
    let order = texts (map (λ o. o.name) c.order) in
    in_order c.rows (key_columns columns partition) (key_columns columns order) measures
    (other_columns partition order 1 columns)

-- the output columns of a clause
abbrev pub output_of : ClauseTree → List Column → List OutputColumn
output_of c columns =
    output_with c columns (measure_columns (context (variables_of c.pattern) c.subsets columns false) 0 c.measures)
