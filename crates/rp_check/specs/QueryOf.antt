-- Whether data is that of the query of a clause.
use Rattle.std.specs.Prelude.{◌≡◌, ℕ, max, List, [], ◌++◌, map, true, false}
use Rattle.rp_value.specs.declared.table.Column.{Column}
use Rattle.rp_words.specs.PatternForm.{form_of}
use Rattle.rp_tree.specs.Clauses.{ClauseTree}
use Rattle.rp_query.specs.declared.query.QueryData.{QueryData}
use Rattle.rp_resolution.specs.Context.{Context, column_named}
use Rattle.rp_query.specs.Formulas.{PlainTotal, value_formula, condition_formula, plain_total}
use Rattle.rp_resolution.specs.Queries.{formulas, totals_of, terms_of_measures, terms_of_definitions, rule_meant, rows_shown, definition_place, greatest, order_column}
use Rattle.rp_resolution.specs.Output.{output_of}
use Rattle.rp_query.specs.SkipRules.{rule_of}
use Rattle.rp_query.specs.Reach.{reach, condition_reach}
use Rattle.rp_resolution.specs.Resolved.{number_at}
use Rattle.rp_same_query.specs.Shapes.{shape_of}
use Rattle.rp_resolution.specs.Shapes.{shaped}
use Rattle.rp_resolution.specs.Variables.{variables_of, context}

abbrev pub measuring : ClauseTree → List Column → Context
measuring c columns = context (variables_of c.pattern) c.subsets columns false

abbrev pub defining : ClauseTree → List Column → Context
defining c columns = context (variables_of c.pattern) c.subsets columns true

-- the totals of the measures, behind which those of DEFINE stand
abbrev pub measured_totals : ClauseTree → List Column → List PlainTotal
measured_totals c columns = totals_of (measuring c columns) (terms_of_measures c.measures)

-- the query of a clause with this text over a table with these columns is made of this data
pub record IsQueryOf (c : ClauseTree) (written : List ℕ) (columns : List Column) (d : QueryData) : Type 0 where
  pub text : d.text ≡ written
  pub table : d.table ≡ columns
  pub pattern : shape_of (form_of d.pattern) ≡ shaped (variables_of c.pattern) c.pattern
  pub variables : d.variables.items ≡ variables_of c.pattern
  pub output : d.output.items ≡ output_of c columns
  -- the greatest offset of PREV in the plan
  pub reach : d.reach
      ≡ max (greatest (map reach d.plan.measures.items)) (greatest (map condition_reach d.plan.conditions.items))
  pub partition : d.partition.items ≡ map (λ n. number_at (column_named n.text columns)) c.partition
  pub order : d.order.items ≡ map (order_column columns) c.order
  pub measures : map value_formula d.plan.measures.items
      ≡ formulas (measuring c columns) [] (terms_of_measures c.measures)
  pub rows : d.plan.rows ≡ rows_shown c.rows
  pub skip : rule_of d.plan.skip ≡ rule_meant (measuring c columns) c.skip
  pub conditions : map condition_formula d.plan.conditions.items
      ≡ formulas (defining c columns) (measured_totals c columns) (terms_of_definitions c.definitions)
  pub definitions : d.plan.definitions.items ≡ map (definition_place c.definitions) (variables_of c.pattern)
  pub totals : map plain_total d.plan.totals.value.items
      ≡ measured_totals c columns ++ totals_of (defining c columns) (terms_of_definitions c.definitions)
