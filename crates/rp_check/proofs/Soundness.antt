-- The query of a clause without faults is sound.
use Rattle.std.proofs.Common.{◌≡◌, ◌∙◌, ℕ, ◌<◌, ◌≤◌, Bool, true, false, Option, None, Some, List, [], ◌∷◌, ◌++◌, map, length, refl, sym, ap, subst, arith}
use Rattle.std.specs.Prelude.{is_some, option_map, slice_get, All}
use Rattle.std.specs.List.{AllByRecursion, AllPass}
use Rattle.std.proofs.lemmas.List.{length-map, append-nil}
use Rattle.std.proofs.lemmas.List.Elements.{All-from_recursion, All-get_or}
use Rattle.std.proofs.lemmas.Option.{slice_get-map, slice_get_within, get_or_from_slice_get, same_Some}
use Rattle.rp_value.specs.declared.table.Column.{Column}
use Rattle.rp_words.specs.Bounds.{is_allowed}
use Rattle.rp_words.specs.Variables.{are_below}
use Rattle.rp_words.specs.PatternForm.{form_of}
use Rattle.rp_tree.specs.Terms.{Term}
use Rattle.rp_tree.specs.Clauses.{ClauseTree, DefinitionTree}
use Rattle.rp_query.specs.declared.plan.Condition.{Condition}
use Rattle.rp_query.specs.declared.query.OutputColumn.{OutputColumn}
use Rattle.rp_query.specs.declared.query.QueryData.{QueryData}
use Rattle.rp_check.specs.QueryOf.{IsQueryOf, measured_totals, measuring, defining}
use Rattle.rp_check.specs.ClauseFaults.{faults, name_faults, listing_faults, expression_faults}
use Rattle.rp_resolution.specs.PartFaults.{each, pattern_faults, union_faults, partition_faults, order_faults, measure_faults, definition_faults, skip_faults}
use Rattle.rp_query.specs.Allowed.{each_leaf, goes_near, runs, asks_rows_alone, is_running, is_of_rows, is_near, is_of_variables, skips_to_variables}
use Rattle.rp_query.specs.Kinds.{are_texts, is_value, is_truth}
use Rattle.rp_value.specs.declared.value.Value.TheVariants as value
use Rattle.rp_resolution.specs.Context.{Context, column_named, is_name}
use Rattle.rp_query.specs.Definitions.{condition_at}
use Rattle.rp_query.specs.Formulas.{Formula, PlainTotal, plain_total, value_formula, condition_formula}
use Rattle.rp_resolution.specs.Queries.{formulas, totals_of, terms_of_measures, terms_of_definitions, definition_place, order_column, greatest}
use Rattle.rp_query.specs.SkipRules.{rule_of}
use Rattle.rp_query.specs.Reach.{reach, condition_reach}
use Rattle.rp_resolution.specs.Resolved.{number_at, totals}
use Rattle.rp_query.specs.Sound.{IsSound, IsColumn, source_is_of}
use Rattle.rp_resolution.specs.Output.{texts, key_columns, measure_columns, other_columns, output_of}
use Rattle.rp_resolution.proofs.ColumnsFit.{AllFit, columns_fit, others_fit, in_order_fits, measures_fit, source_by_formula}
use Rattle.rp_resolution.specs.Variables.{variables_of}
use Rattle.rp_resolution.proofs.Clean.{none_left, none_right, holds, each_clean, found_within}
use Rattle.rp_resolution.proofs.KindsAgree.{measures_well, definitions_well}
use Rattle.rp_resolution.proofs.Leaves.{measures_pass, definitions_pass, pass_near, pass_running, pass_of_rows}
use Rattle.rp_resolution.proofs.VariablesBelow.{variables_below}
use Rattle.rp_resolution.proofs.VariablesMeant.{all_both, sets_named, all_totals_named, skip_named}

each_made : {A B : Type 0} (P : B → Type 0) (f : A → B) (xs : List A) → AllByRecursion (λ x. P (f x)) xs → AllByRecursion P (map f xs)
each_made P f [] h = tt
each_made P f (x ∷ xs) h = (h.0, each_made P f xs h.1)

each_before : {A B : Type 0} (P : B → Type 0) (f : A → B) (xs : List A) → AllByRecursion P (map f xs) → AllByRecursion (λ x. P (f x)) xs
each_before P f [] h = tt
each_before P f (x ∷ xs) h = (h.0, each_before P f xs h.1)

pub column_there : (columns : List Column) (name : List ℕ) → is_some (column_named name columns) ≡ true → IsColumn columns (number_at (column_named name columns))
column_there columns name e = go (column_named name columns) refl e
  where
    go : (o : Option ℕ) → column_named name columns ≡ o → is_some o ≡ true → IsColumn columns (number_at o)
    go None is e = cc
    go (Some k) is e = let within : k < length columns = found_within (λ c. is_name name c.name) columns k is in (omega arith, omega arith)

covered : {A : Type 0} (f : A → ℕ) (xs : List A) (most : ℕ) → greatest (map f xs) ≤ most → AllByRecursion (λ x. f x ≤ most) xs
covered f [] most h = tt
covered f (x ∷ xs) most h = (omega arith, covered f xs most (omega arith))

formulas_length : (x : Context) (before : List PlainTotal) (ts : List Term) → length (formulas x before ts) ≡ length ts
formulas_length x before [] = refl
formulas_length x before (t ∷ ts) = rw (formulas_length x (before ++ totals x t) ts) refl

module _ (ds : List DefinitionTree) where
  place_within : (o : Option (List ℕ)) (place : ℕ) → option_map (definition_place ds) o ≡ Some (Some place) → place < length ds
  place_within None place e = cc
  place_within (Some name) place e = found_within (λ d. is_name name d.name.text) ds place (same_Some _ _ e)

  -- where a variable is defined, its definition is there
  pub definition_there : (names : List (List ℕ)) (variable place : ℕ) → slice_get (map (definition_place ds) names) variable ≡ Some (Some place) → place < length ds
  definition_there names variable place e = place_within (slice_get names variable) place (sym (slice_get-map (definition_place ds) names variable) ∙ e)

named_texts : (names : List (List ℕ)) → are_texts (map value.Text names) ≡ true
named_texts [] = refl
named_texts (name ∷ names) = named_texts names

-- what holds of all conditions holds of a variable's
pub of_definition : (P : Condition → Type 0) (conditions : List Condition) → All P conditions → (o : Option (Option ℕ)) (c : Condition) → condition_at conditions o ≡ Some c → P c
of_definition P conditions all None c e = cc
of_definition P conditions all (Some None) c e = cc
of_definition P conditions all (Some (Some place)) c e =
    rw (← get_or_from_slice_get conditions place c c e) (All-get_or P conditions place c (slice_get_within conditions place c e) all)

module _ (c : ClauseTree) (columns : List Column) (written : List ℕ) (d : QueryData) (clean : faults c columns ≡ []) (is : IsQueryOf c written columns d) (allowed : is_allowed (form_of d.pattern) ≡ true) where
  listing : listing_faults (variables_of c.pattern) columns c ≡ []
  listing = none_left (listing_faults (variables_of c.pattern) columns c) _ (none_right (name_faults c) _ clean)

  expressions : expression_faults (measuring c columns) (defining c columns) c ≡ []
  expressions =
      none_left (expression_faults (measuring c columns) (defining c columns) c) _
      (none_right (listing_faults (variables_of c.pattern) columns c) _ (none_right (name_faults c) _ clean))

  definitions_clean : each (definition_faults (defining c columns)) c.definitions ≡ []
  definitions_clean = none_left (each (definition_faults (defining c columns)) c.definitions) _ (none_right (each (measure_faults (measuring c columns)) c.measures) _ expressions)

  measures_clean : each (measure_faults (measuring c columns)) c.measures ≡ []
  measures_clean = none_left (each (measure_faults (measuring c columns)) c.measures) _ expressions

  values : AllByRecursion (λ f. is_value columns (map plain_total d.plan.totals.value.items) f ≡ true) (map value_formula d.plan.measures.items)
  values = rw is.measures (measures_well (measuring c columns) (named_texts (variables_of c.pattern)) (totals_of (defining c columns) (terms_of_definitions c.definitions)) (map plain_total d.plan.totals.value.items) c.measures [] []
      measures_clean is.totals)

  truths : AllByRecursion (λ f. is_truth columns (map plain_total d.plan.totals.value.items) f ≡ true) (map condition_formula d.plan.conditions.items)
  truths = rw is.conditions (definitions_well (defining c columns) (named_texts (variables_of c.pattern)) [] (map plain_total d.plan.totals.value.items) c.definitions [] (measured_totals c columns) definitions_clean
      (is.totals ∙ ap (λ ts. measured_totals c columns ++ ts) (sym (append-nil (totals_of (defining c columns) (terms_of_definitions c.definitions))))))

  -- what each formula of the definitions passes, each condition does
  of_conditions : (test : Formula → Bool) → AllByRecursion (λ f. test f ≡ true) (formulas (defining c columns) (measured_totals c columns) (terms_of_definitions c.definitions))
      → AllPass (λ p. test (condition_formula p)) d.plan.conditions.items
  of_conditions test h =
      All-from_recursion (λ p. test (condition_formula p) ≡ true) d.plan.conditions.items
      (each_before (λ f. test f ≡ true) condition_formula d.plan.conditions.items (rw is.conditions h))

  of_measures : (test : Formula → Bool) → AllByRecursion (λ f. test f ≡ true) (formulas (measuring c columns) [] (terms_of_measures c.measures))
      → AllPass (λ e. test (value_formula e)) d.plan.measures.items
  of_measures test h =
      All-from_recursion (λ e. test (value_formula e) ≡ true) d.plan.measures.items
      (each_before (λ f. test f ≡ true) value_formula d.plan.measures.items (rw is.measures h))

  unions_clean : each (union_faults (variables_of c.pattern)) c.subsets ≡ []
  unions_clean = none_right (pattern_faults c.pattern) _ (none_left (name_faults c) _ clean)

  count : length d.plan.definitions.items ≡ length (variables_of c.pattern)
  count = ap length is.definitions ∙ length-map (variables_of c.pattern) (definition_place c.definitions)

  named : AllByRecursion (λ t. is_of_variables (length (variables_of c.pattern)) t ≡ true) (map plain_total d.plan.totals.value.items)
  named =
      let names = variables_of c.pattern in
      rw is.totals (all_both (λ t. is_of_variables (length names) t ≡ true) (measured_totals c columns) (totals_of (defining c columns) (terms_of_definitions c.definitions))
      (all_totals_named (measuring c columns) (length names) (sets_named names c.subsets columns false unions_clean) (terms_of_measures c.measures))
      (all_totals_named (defining c columns) (length names) (sets_named names c.subsets columns true unions_clean) (terms_of_definitions c.definitions)))

  skip_clean : skip_faults (measuring c columns) c.skip ≡ []
  skip_clean = none_right (each (definition_faults (defining c columns)) c.definitions) _ (none_right (each (measure_faults (measuring c columns)) c.measures) _ expressions)

  partition_clean : AllByRecursion (λ n. IsColumn columns (number_at (column_named n.text columns))) c.partition
  partition_clean = each_clean (λ n. IsColumn columns (number_at (column_named n.text columns))) (partition_faults columns)
      (λ earlier n e. column_there columns n.text (holds _ _ _ (none_left _ _ e))) [] c.partition (none_left (each (partition_faults columns) c.partition) _ listing)

  order_clean : AllByRecursion (λ n. IsColumn columns (number_at (column_named n.text columns))) (map (λ o. o.name) c.order)
  order_clean = each_clean (λ n. IsColumn columns (number_at (column_named n.text columns))) (order_faults columns c.partition)
      (λ earlier n e. column_there columns n.text (holds _ _ _ (none_left _ _ e))) [] (map (λ o. o.name) c.order)
      (none_left (each (order_faults columns c.partition) (map (λ o. o.name) c.order)) _ (none_right (each (partition_faults columns) c.partition) _ listing))

  names_there : AllByRecursion (λ name. is_some (column_named name columns) ≡ true) (texts c.partition)
  names_there = each_made (λ name. is_some (column_named name columns) ≡ true) (λ n. n.text) c.partition
      (each_clean (λ n. is_some (column_named n.text columns) ≡ true) (partition_faults columns) (λ earlier n e. holds _ _ _ (none_left _ _ e)) [] c.partition
      (none_left (each (partition_faults columns) c.partition) _ listing))

  order_there : AllByRecursion (λ name. is_some (column_named name columns) ≡ true) (texts (map (λ o. o.name) c.order))
  order_there = each_made (λ name. is_some (column_named name columns) ≡ true) (λ n. n.text) (map (λ o. o.name) c.order)
      (each_clean (λ n. is_some (column_named n.text columns) ≡ true) (order_faults columns c.partition) (λ earlier n e. holds _ _ _ (none_left _ _ e)) [] (map (λ o. o.name) c.order)
      (none_left (each (order_faults columns c.partition) (map (λ o. o.name) c.order)) _ (none_right (each (partition_faults columns) c.partition) _ listing)))

  shown : AllFit columns (map plain_total d.plan.totals.value.items) (map value_formula d.plan.measures.items) (output_of c columns)
  shown =
      let all = map plain_total d.plan.totals.value.items in
      let fs = map value_formula d.plan.measures.items in
      let partition = texts c.partition in
      let order = texts (map (λ o. o.name) c.order) in
      in_order_fits columns all fs c.rows (key_columns columns partition) (key_columns columns order) (measure_columns (measuring c columns) 0 c.measures) (other_columns partition order 1 columns)
      (columns_fit columns all fs partition names_there) (columns_fit columns all fs order order_there)
      (measures_fit (measuring c columns) (named_texts (variables_of c.pattern)) (totals_of (defining c columns) (terms_of_definitions c.definitions)) all fs c.measures [] [] [] 0 refl is.measures measures_clean is.totals)
      (others_fit columns all fs partition order [] columns 1 refl refl)

  condition_count : length d.plan.conditions.items ≡ length c.definitions
  condition_count =
      sym (length-map d.plan.conditions.items condition_formula) ∙ (ap length is.conditions
      ∙ (formulas_length (defining c columns) (measured_totals c columns) (terms_of_definitions c.definitions) ∙ length-map c.definitions (λ e. e.term)))

  reaching : All (λ p. condition_reach p ≤ d.reach) d.plan.conditions.items
  reaching = All-from_recursion (λ p. condition_reach p ≤ d.reach) d.plan.conditions.items (covered condition_reach d.plan.conditions.items d.reach (let e = is.reach in omega arith))

  all_given : (output : List OutputColumn) → AllFit d.table (map plain_total d.plan.totals.value.items) (map value_formula d.plan.measures.items) output
      → AllByRecursion (λ o. source_is_of d o.kind o.from ≡ true) output
  all_given [] h = tt
  all_given (o ∷ os) h = (source_by_formula d o.kind o.from ∙ h.0, all_given os h.1)

  pub sound : IsSound d
  sound = record {
    bounds = allowed;
    variables = subst (λ n. are_below n (form_of d.pattern) ≡ true) (sym count) (variables_below c.pattern (form_of d.pattern) is.pattern);
    named = subst (λ n. AllPass (is_of_variables n) (map plain_total d.plan.totals.value.items)) (sym count)
        (All-from_recursion (λ t. is_of_variables (length (variables_of c.pattern)) t ≡ true) (map plain_total d.plan.totals.value.items) named);
    skip =
        let names = variables_of c.pattern in
        subst (λ n. skips_to_variables n (rule_of d.plan.skip) ≡ true) (sym count) (subst (λ r. skips_to_variables (length names) r ≡ true) (sym is.skip)
        (skip_named (measuring c columns) (length names) (sets_named names c.subsets columns false unions_clean) c.skip skip_clean));
    names = ap length is.variables ∙ sym count;
    output = subst (AllPass (λ o. source_is_of d o.kind o.from)) (sym is.output) (All-from_recursion (λ o. source_is_of d o.kind o.from ≡ true) (output_of c columns)
        (all_given (output_of c columns) (subst (λ table. AllFit table (map plain_total d.plan.totals.value.items) (map value_formula d.plan.measures.items) (output_of c columns)) (sym is.table) shown)));
    definitions = λ variable place e. rw condition_count (definition_there c.definitions (variables_of c.pattern) variable place (rw (← is.definitions) e));
    measures = All-from_recursion (λ e. reach e ≤ d.reach) d.plan.measures.items (covered reach d.plan.measures.items d.reach (let e = is.reach in omega arith));
    conditions = reaching;
    defined = λ variable p e. of_definition (λ q. condition_reach q ≤ d.reach) d.plan.conditions.items reaching (slice_get d.plan.definitions.items variable) p e;
    partition = rw (is.table, is.partition) (All-from_recursion (IsColumn columns) _ (each_made (IsColumn columns) (λ n. number_at (column_named n.text columns)) c.partition partition_clean));
    order = rw (is.table, is.order) (All-from_recursion (λ o. IsColumn columns o.column) _ (each_made (λ o. IsColumn columns o.column) (order_column columns) c.order
        (each_before (λ n. IsColumn columns (number_at (column_named n.text columns))) (λ o. o.name) c.order order_clean)));
    values = rw is.table (All-from_recursion (λ e. is_value columns (map plain_total d.plan.totals.value.items) (value_formula e) ≡ true) d.plan.measures.items
        (each_before (λ f. is_value columns (map plain_total d.plan.totals.value.items) f ≡ true) value_formula d.plan.measures.items values));
    truths = rw is.table (All-from_recursion (λ p. is_truth columns (map plain_total d.plan.totals.value.items) (condition_formula p) ≡ true) d.plan.conditions.items
        (each_before (λ f. is_truth columns (map plain_total d.plan.totals.value.items) f ≡ true) condition_formula d.plan.conditions.items truths));
    running = of_conditions is_running (definitions_pass (defining c columns) runs (pass_running (defining c columns) refl) c.definitions [] (measured_totals c columns) definitions_clean);
    of_rows = of_conditions is_of_rows (definitions_pass (defining c columns) asks_rows_alone (pass_of_rows (defining c columns) refl) c.definitions [] (measured_totals c columns) definitions_clean);
    near_measures = of_measures is_near (measures_pass (measuring c columns) goes_near (pass_near (measuring c columns)) c.measures [] [] measures_clean);
    near_conditions = of_conditions is_near (definitions_pass (defining c columns) goes_near (pass_near (defining c columns)) c.definitions [] (measured_totals c columns) definitions_clean);
  }
