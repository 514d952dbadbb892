-- What was found of a clause is its query.
use Rattle.std.proofs.Common.{◌≡◌, ◌∙◌, ℕ, Bool, true, false, List, [], ◌++◌, map, refl, ap, Result, Ok, Err}
use Rattle.std.specs.Prelude.{IfOk, IfErr}
use Rattle.std.proofs.lemmas.List.{append-nil}
use Rattle.rp_words.specs.declared.form.Form.{Form}
use Rattle.rp_value.specs.declared.value.Value.TheVariants as value
use Rattle.rp_value.specs.declared.table.Column.{Column}
use Rattle.rp_words.specs.Bounds.{is_allowed}
use Rattle.rp_words.specs.PatternForm.{form_of}
use Rattle.rp_tree.specs.Clauses.{ClauseTree}
use Rattle.rp_check.specs.declared.checking.Named.{Named}
use Rattle.rp_check.specs.declared.checking.Places.{Places}
use Rattle.rp_check.specs.declared.checking.Planned.{Planned}
use Rattle.rp_resolution.specs.declared.fault.CheckFault.{CheckFault}
use Rattle.rp_query.specs.declared.query.QueryData.{QueryData}
use Rattle.rp_check.specs.QueryOf.{IsQueryOf, measuring, defining}
use Rattle.rp_resolution.specs.declared.fault.Fault.{Fault}
use Rattle.rp_resolution.specs.Checked.{Tells, FirstFaultOr}
use Rattle.rp_check.specs.Checking.{IsNamed, ArePlaces, IsPlanned, IsMadeOf, spoken}
use Rattle.rp_check.specs.ClauseFaults.{faults, name_faults, listing_faults, expression_faults, shown_faults}
use Rattle.rp_resolution.specs.Context.{naming_of}
use Rattle.rp_resolution.specs.Output.{output_with}
use Rattle.rp_query.specs.Formulas.{value_formula, condition_formula, plain_total}
use Rattle.rp_query.specs.SkipRules.{rule_of}
use Rattle.rp_resolution.specs.Reading.{Reads}
use Rattle.rp_same_query.specs.Shapes.{shape_of}
use Rattle.rp_resolution.specs.Shapes.{shaped}
use Rattle.rp_resolution.specs.Variables.{variables_of, context, numbered, union_of}
use Rattle.rp_resolution.proofs.Telling.{tells_front, tells_behind, none_in_both}

pub is_named : (c : ClauseTree) (n : Named) (f : Form) → Reads [] c.pattern n.variables.items f → form_of n.pattern ≡ f
    → map naming_of n.sets.items ≡ numbered 0 n.variables.items ++ map (union_of n.variables.items) c.subsets → n.classes.value.items ≡ map value.Text n.variables.items → IsNamed c n
is_named c n f r is sets classes = record {
  pattern = ap shape_of is ∙ (r.shape [] ∙ ap (λ ns. shaped ns c.pattern) (append-nil n.variables.items ∙ r.names));
  allowed = ap is_allowed is ∙ r.allowed;
  variables = r.names;
  sets = rw (← r.names) sets;
  classes = rw (← r.names) classes;
}

pub same_context : (c : ClauseTree) (columns : List Column) (n : Named) (b : Bool) → IsNamed c n → spoken n.sets.items columns n.classes b ≡ context (variables_of c.pattern) c.subsets columns b
same_context c columns n b is = rw (is.sets, is.classes) refl

pub planned_in : (c : ClauseTree) (columns : List Column) (n : Named) (p : Planned) → IsNamed c n
    → IsPlanned (spoken n.sets.items columns n.classes false) (spoken n.sets.items columns n.classes true) c p → IsPlanned (measuring c columns) (defining c columns) c p
planned_in c columns n p is plan = rw (← same_context c columns n false is, ← same_context c columns n true is) plan

pub is_query : (c : ClauseTree) (written : List ℕ) (columns : List Column) (n : Named) (l : Places) (p : Planned) (d : QueryData)
    → IsNamed c n → ArePlaces n.variables.items columns c l → IsPlanned (measuring c columns) (defining c columns) c p → IsMadeOf c written columns n l p d → IsQueryOf c written columns d
is_query c written columns n l p d named listed planned made = record {
  text = made.text;
  table = made.table;
  pattern = ap (λ q. shape_of (form_of q)) made.pattern ∙ named.pattern;
  variables = ap (λ v. v.items) made.variables ∙ named.variables;
  output = made.output ∙ ap (output_with c columns) planned.shown;
  reach = rw (made.measures, made.conditions) made.reach;
  partition = ap (λ v. v.items) made.partition ∙ listed.partition;
  order = ap (λ v. v.items) made.order ∙ listed.order;
  measures = ap (λ v. map value_formula v.items) made.measures ∙ planned.measures;
  rows = made.rows;
  skip = ap rule_of made.skip ∙ planned.skip;
  conditions = ap (λ v. map condition_formula v.items) made.conditions ∙ planned.conditions;
  definitions = ap (λ v. v.items) made.definitions ∙ rw (← named.variables) listed.definitions;
  totals = ap (λ v. map plain_total v.value.items) made.totals ∙ planned.totals;
}

pub allowed_pattern : (c : ClauseTree) (written : List ℕ) (columns : List Column) (n : Named) (l : Places) (p : Planned) (d : QueryData)
    → IsNamed c n → IsMadeOf c written columns n l p d → is_allowed (form_of d.pattern) ≡ true
allowed_pattern c written columns n l p d named made = ap (λ q. is_allowed (form_of q)) made.pattern ∙ named.allowed

module _ (c : ClauseTree) (columns : List Column) (n : Named) (e : CheckFault) where
  pub list_wrong : name_faults c ≡ [] → IsNamed c n → Tells e (listing_faults n.variables.items columns c) → Tells e (faults c columns)
  list_wrong none is told =
      tells_behind e (name_faults c) _ none (tells_front e (listing_faults (variables_of c.pattern) columns c) _ (rw (← is.variables) told))

  pub plan_wrong : name_faults c ≡ [] → IsNamed c n → listing_faults n.variables.items columns c ≡ []
      → Tells e (expression_faults (spoken n.sets.items columns n.classes false) (spoken n.sets.items columns n.classes true) c) → Tells e (faults c columns)
  plan_wrong none is listed told =
      tells_behind e (name_faults c) _ none
      (tells_behind e (listing_faults (variables_of c.pattern) columns c) _ (rw (← is.variables) listed)
      (tells_front e (expression_faults (measuring c columns) (defining c columns) c) _ (rw (← same_context c columns n false is, ← same_context c columns n true is) told)))

  pub output_wrong : name_faults c ≡ [] → IsNamed c n → listing_faults n.variables.items columns c ≡ []
      → expression_faults (spoken n.sets.items columns n.classes false) (spoken n.sets.items columns n.classes true) c ≡ [] → Tells e (shown_faults columns c) → Tells e (faults c columns)
  output_wrong none is listed planned told =
      tells_behind e (name_faults c) _ none
      (tells_behind e (listing_faults (variables_of c.pattern) columns c) _ (rw (← is.variables) listed)
      (tells_behind e (expression_faults (measuring c columns) (defining c columns) c) _ (rw (← same_context c columns n false is, ← same_context c columns n true is) planned) told))

module _ (c : ClauseTree) (columns : List Column) (n : Named) where
  pub none_wrong : name_faults c ≡ [] → IsNamed c n → listing_faults n.variables.items columns c ≡ []
      → expression_faults (spoken n.sets.items columns n.classes false) (spoken n.sets.items columns n.classes true) c ≡ [] → shown_faults columns c ≡ [] → faults c columns ≡ []
  none_wrong none is listed planned shown =
      none_in_both (name_faults c) _ none
      (none_in_both (listing_faults (variables_of c.pattern) columns c) _ (rw (← is.variables) listed)
      (none_in_both (expression_faults (measuring c columns) (defining c columns) c) _ (rw (← same_context c columns n false is, ← same_context c columns n true is) planned) shown))

-- what an answer or the first fault says, clause by clause
module _ {X : Type 0} (fs : List Fault) (P : X → Type 0) where
  pub none_told : (r : Result X CheckFault) → FirstFaultOr fs P r → IfOk r (λ (x : X). fs ≡ [])
  none_told (Ok x) told = told.0
  none_told (Err e) told = tt

  pub right_given : (r : Result X CheckFault) → FirstFaultOr fs P r → IfOk r P
  right_given (Ok x) told = told.1
  right_given (Err e) told = tt

  pub first_told : (r : Result X CheckFault) → FirstFaultOr fs P r → IfErr r (λ e. Tells e fs)
  first_told (Ok x) told = tt
  first_told (Err e) told = told
