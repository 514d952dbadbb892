-- When two queries are the same: what they are made of is, wherever the parts of each are kept. So are the queries that two
-- processes compile of one clause.
use Rattle.std.specs.Prelude.{◌≡◌, ℕ, true, map}
use Rattle.rp_words.specs.declared.form.Form.{Form}
use Rattle.rp_words.specs.declared.word.End.{End}
use Rattle.rp_words.specs.Bounds.{is_allowed}
use Rattle.rp_words.specs.PatternForm.{form_of}
use Rattle.rp_words.specs.Words.{words}
use Rattle.rp_query.specs.declared.query.QueryData.{QueryData}
use Rattle.rp_query.specs.Formulas.{value_formula, condition_formula, plain_total}
use Rattle.rp_query.specs.SkipRules.{rule_of}
use Rattle.rp_same_query.specs.Shapes.{shape_of}

-- the two are the same query
pub record IsSameQuery (q r : QueryData) : Type 0 where
  pub text : q.text ≡ r.text
  pub table : q.table ≡ r.table
  pub pattern : shape_of (form_of q.pattern) ≡ shape_of (form_of r.pattern)
  pub variables : q.variables.items ≡ r.variables.items
  pub output : q.output.items ≡ r.output.items
  pub reach : q.reach ≡ r.reach
  pub partition : q.partition.items ≡ r.partition.items
  pub order : q.order.items ≡ r.order.items
  pub measures : map value_formula q.plan.measures.items ≡ map value_formula r.plan.measures.items
  pub rows : q.plan.rows ≡ r.plan.rows
  pub skip : rule_of q.plan.skip ≡ rule_of r.plan.skip
  pub conditions : map condition_formula q.plan.conditions.items ≡ map condition_formula r.plan.conditions.items
  pub definitions : q.plan.definitions.items ≡ r.plan.definitions.items
  pub totals : map plain_total q.plan.totals.value.items ≡ map plain_total r.plan.totals.value.items

-- Patterns of one shape have the same words.
abbrev pub WordsFollow : Type 0
WordsFollow =
    (f g : Form) → shape_of f ≡ shape_of g → is_allowed f ≡ true → is_allowed g ≡ true
    → (n : ℕ) (end : End) → words n end f ≡ words n end g
