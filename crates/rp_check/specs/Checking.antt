-- Inside: what was found of a clause so far.
use Rattle.std.specs.Prelude.{◌≡◌, ℕ, List, [], ◌++◌, map, Bool, true, max}
use Rattle.std.specs.declared.rc.Rc.{Rc}
use Rattle.std.specs.declared.vec.Vec.{Vec}
use Rattle.std.specs.declared.alloc.Global.{Global}
use Rattle.rp_value.specs.declared.table.Column.{Column}
use Rattle.rp_value.specs.declared.value.Value.{Value}
use Rattle.rp_value.specs.declared.value.Value.TheVariants as value
use Rattle.rp_words.specs.Bounds.{is_allowed}
use Rattle.rp_words.specs.PatternForm.{form_of}
use Rattle.rp_tree.specs.Clauses.{ClauseTree, UnionTree}
use Rattle.rp_check.specs.declared.checking.Named.{Named}
use Rattle.rp_check.specs.declared.checking.Places.{Places}
use Rattle.rp_check.specs.declared.checking.Planned.{Planned}
use Rattle.rp_query.specs.declared.query.QueryData.{QueryData}
use Rattle.rp_resolution.specs.declared.names.NamedSet.{NamedSet}
use Rattle.rp_resolution.specs.Context.{Context, naming_of, column_named}
use Rattle.rp_query.specs.Formulas.{value_formula, condition_formula, plain_total}
use Rattle.rp_resolution.specs.Queries.{formulas, totals_of, terms_of_measures, terms_of_definitions, rule_meant, rows_shown, definition_place, order_column, greatest}
use Rattle.rp_resolution.specs.Output.{measure_columns, output_with}
use Rattle.rp_query.specs.SkipRules.{rule_of}
use Rattle.rp_query.specs.Reach.{reach, condition_reach}
use Rattle.rp_resolution.specs.Resolved.{number_at}
use Rattle.rp_same_query.specs.Shapes.{shape_of}
use Rattle.rp_resolution.specs.Shapes.{shaped}
use Rattle.rp_resolution.specs.Variables.{variables_of, numbered, union_of}

-- what may be named, with these sets and classes
abbrev pub spoken : List NamedSet → List Column → Rc (Vec Value Global) Global → Bool → Context
spoken sets columns classes in_define =
    record { sets = map naming_of sets; columns = columns; in_define = in_define; classes = classes.value.items }

pub record IsNamed (c : ClauseTree) (n : Named) : Type 0 where
  pub pattern : shape_of (form_of n.pattern) ≡ shaped (variables_of c.pattern) c.pattern
  pub allowed : is_allowed (form_of n.pattern) ≡ true
  pub variables : n.variables.items ≡ variables_of c.pattern
  pub sets : map naming_of n.sets.items
      ≡ numbered 0 (variables_of c.pattern) ++ map (union_of (variables_of c.pattern)) c.subsets
  pub classes : n.classes.value.items ≡ map value.Text (variables_of c.pattern)

-- the sets of these variables and of the unions of SUBSET, and what CLASSIFIER gives
abbrev pub AreSetsAndClasses : List (List ℕ) → List UnionTree → List NamedSet → List Value → Type 0
AreSetsAndClasses variables subsets sets classes =
    (map naming_of sets ≡ numbered 0 variables ++ map (union_of variables) subsets) × (classes ≡ map value.Text variables)

pub record ArePlaces (variables : List (List ℕ)) (columns : List Column) (c : ClauseTree) (l : Places) : Type 0 where
  pub partition : l.partition.items ≡ map (λ n. number_at (column_named n.text columns)) c.partition
  pub order : l.order.items ≡ map (order_column columns) c.order
  pub definitions : l.definitions.items ≡ map (definition_place c.definitions) variables

pub record IsPlanned (measuring defining : Context) (c : ClauseTree) (p : Planned) : Type 0 where
  pub measures : map value_formula p.measures.items ≡ formulas measuring [] (terms_of_measures c.measures)
  pub shown : p.shown.items ≡ measure_columns measuring 0 c.measures
  pub skip : rule_of p.skip ≡ rule_meant measuring c.skip
  pub conditions : map condition_formula p.conditions.items
      ≡ formulas defining (totals_of measuring (terms_of_measures c.measures)) (terms_of_definitions c.definitions)
  pub totals : map plain_total p.totals.value.items
      ≡ totals_of measuring (terms_of_measures c.measures) ++ totals_of defining (terms_of_definitions c.definitions)

-- the data is put together of what was found
pub record IsMadeOf (c : ClauseTree) (written : List ℕ) (columns : List Column) (n : Named) (l : Places) (p : Planned)
    (d : QueryData) : Type 0 where
  pub text : d.text ≡ written
  pub table : d.table ≡ columns
  pub pattern : d.pattern ≡ n.pattern
  pub variables : d.variables ≡ n.variables
  pub output : d.output.items ≡ output_with c columns p.shown.items
  pub reach : d.reach ≡ max (greatest (map reach p.measures.items)) (greatest (map condition_reach p.conditions.items))
  pub partition : d.partition ≡ l.partition
  pub order : d.order ≡ l.order
  pub measures : d.plan.measures ≡ p.measures
  pub rows : d.plan.rows ≡ rows_shown c.rows
  pub skip : d.plan.skip ≡ p.skip
  pub conditions : d.plan.conditions ≡ p.conditions
  pub definitions : d.plan.definitions ≡ l.definitions
  pub totals : d.plan.totals ≡ p.totals
