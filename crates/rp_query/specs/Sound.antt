-- What holds of each query, so that the layers above need not look again.
use Rattle.std.specs.Prelude.{◌≡◌, ℕ, ◌<◌, ◌≤◌, Bool, true, false, List, map, length, All, Option, None, Some, slice_get}
use Rattle.std.specs.List.{AllPass}
use Rattle.rp_value.specs.declared.table.Column.{Column}
use Rattle.rp_words.specs.PatternForm.{form_of}
use Rattle.rp_words.specs.Bounds.{is_allowed}
use Rattle.rp_words.specs.Variables.{are_below}
use Rattle.rp_value.specs.declared.value.Kind.{Kind}
use Rattle.rp_query.specs.declared.plan.Condition.{Condition}
use Rattle.rp_query.specs.declared.plan.Expr.{Expr}
use Rattle.rp_query.specs.declared.query.OutputColumn.{OutputColumn}
use Rattle.rp_query.specs.declared.query.Plan.{Plan}
use Rattle.rp_query.specs.declared.query.QueryData.{QueryData}
use Rattle.rp_query.specs.declared.query.Source.{Source}
use Rattle.rp_query.specs.declared.query.Source.TheVariants as source
use Rattle.rp_query.specs.Allowed.{is_running, is_of_rows, is_near, is_of_variables, skips_to_variables}
use Rattle.rp_query.specs.Definitions.{definition_of}
use Rattle.rp_query.specs.Formulas.{PlainTotal, plain_total, value_formula, condition_formula}
use Rattle.rp_query.specs.Kinds.{column_kind, has_kind, is_kind, is_value, is_truth}
use Rattle.rp_query.specs.SkipRules.{rule_of}
use Rattle.rp_query.specs.Reach.{reach, condition_reach}

-- this is the number, from 1, of one of these columns
abbrev pub IsColumn : List Column → ℕ → Type 0
IsColumn columns number = (1 ≤ number) × (number ≤ length columns)

abbrev pub plain_totals : Plan → List PlainTotal
plain_totals plan = map plain_total plan.totals.value.items

-- a pattern variable has a place among the definitions, whether it is defined or not
abbrev pub variable_count : Plan → ℕ
variable_count plan = length plan.definitions.items

-- there is such an expression, and its values are of the kind
abbrev pub is_of_kind : QueryData → Kind → Option Expr → Bool
is_of_kind q k None = false
is_of_kind q k (Some e) = has_kind q.table (plain_totals q.plan) k (value_formula e)

-- there is such a column of the table or such a measure, and its values are of the kind
abbrev pub source_is_of : QueryData → Kind → Source → Bool
source_is_of q k (source.Column n) = is_kind k (column_kind q.table n)
source_is_of q k (source.Measure i) = is_of_kind q k (slice_get q.plan.measures.items i)

pub record IsSound (q : QueryData) : Type 0 where
  -- bounds of quantifiers are in order and at most 1,000, and a PERMUTE has 1 to 8 parts
  pub bounds : is_allowed (form_of q.pattern) ≡ true
  -- each variable of the pattern has a place among the definitions
  pub variables : are_below (variable_count q.plan) (form_of q.pattern) ≡ true
  -- members of unions are variables of the pattern, and so is what a skip names
  pub named : AllPass (is_of_variables (variable_count q.plan)) (plain_totals q.plan)
  pub skip : skips_to_variables (variable_count q.plan) (rule_of q.plan.skip) ≡ true
  -- each variable of the pattern has a name
  pub names : length q.variables.items ≡ variable_count q.plan
  -- where a variable is defined, its condition is there
  pub definitions : (variable place : ℕ) → slice_get q.plan.definitions.items variable ≡ Some (Some place)
      → place < length q.plan.conditions.items
  -- nothing looks further back than the reach
  pub measures : All (λ e. reach e ≤ q.reach) q.plan.measures.items
  pub conditions : All (λ c. condition_reach c ≤ q.reach) q.plan.conditions.items
  pub defined : (variable : ℕ) (c : Condition) → definition_of q.plan variable ≡ Some c → condition_reach c ≤ q.reach
  -- the table has the columns that are named
  pub partition : All (IsColumn q.table) q.partition.items
  pub order : All (λ o. IsColumn q.table o.column) q.order.items
  -- measures are values and definitions truth values, of columns and totals that are there and of kinds that agree
  pub values : All (λ e. is_value q.table (plain_totals q.plan) (value_formula e) ≡ true) q.plan.measures.items
  pub truths : All (λ c. is_truth q.table (plain_totals q.plan) (condition_formula c) ≡ true) q.plan.conditions.items
  -- each output column is a column of the table or a measure, and has its kind
  pub output : AllPass (λ o. source_is_of q o.kind o.from) q.output.items
  -- no definition sees the whole match
  pub running : All (λ c. is_running (condition_formula c) ≡ true) q.plan.conditions.items
  -- nor does it ask for the number of the match, or for the variable that a row is mapped to
  pub of_rows : AllPass (λ c. is_of_rows (condition_formula c)) q.plan.conditions.items
  -- FIRST, LAST, PREV and NEXT go at most 1,000 places or rows
  pub near_measures : AllPass (λ e. is_near (value_formula e)) q.plan.measures.items
  pub near_conditions : AllPass (λ c. is_near (condition_formula c)) q.plan.conditions.items
