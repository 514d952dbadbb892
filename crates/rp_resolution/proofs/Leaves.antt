-- What an expression without faults is made of.
use Rattle.std.proofs.Common.{◌≡◌, ◌∙◌, ℕ, Bool, true, false, ◌&&◌, Option, None, Some, List, [], ◌∷◌, ◌++◌, length, refl, sym, ap}
use Rattle.std.specs.Prelude.{not, nat_le}
use Rattle.std.specs.List.{AllByRecursion}
use Rattle.rp_value.specs.declared.value.Value.{Value}
use Rattle.rp_tree.specs.declared.tree.Scope.{Scope}
use Rattle.rp_tree.specs.declared.tree.Offset.{Offset}
use Rattle.rp_tree.specs.declared.tree.Aggregate.{Aggregate}
use Rattle.rp_tree.specs.declared.tree.Movement.{Movement}
use Rattle.rp_tree.specs.declared.tree.Movement.TheVariants.{Prev, Next, First, Last}
use Rattle.rp_tree.specs.declared.tree.Operator.{Operator}
use Rattle.rp_tree.specs.declared.tree.Operator.TheVariants as operator
use Rattle.rp_tree.specs.Paths.{Path, At, Move}
use Rattle.rp_tree.specs.Terms.{Term, Number, Literal, Navigation, Aggregated, MatchNumber, Classifier, Negative, Not, IsNull, Operate}
use Rattle.rp_tree.specs.Clauses.{MeasureTree, DefinitionTree}
use Rattle.rp_resolution.specs.declared.fault.Fault.{Fault}
use Rattle.rp_query.specs.Allowed.{each_leaf, runs, asks_rows_alone, goes_near}
use Rattle.rp_resolution.specs.PartFaults.{each_after, measure_faults, definition_faults}
use Rattle.rp_resolution.specs.Context.{Context}
use Rattle.rp_resolution.specs.ExprFaults.{expr_faults, path_faults, scope_faults, scope_in, nesting_faults, offset_faults, aggregate_faults}
use Rattle.rp_query.specs.Formulas as formula
use Rattle.rp_query.specs.Formulas.{Formula, PlainTotal}
use Rattle.rp_resolution.specs.Queries.{formulas, terms_of_measures, terms_of_definitions}
use Rattle.rp_resolution.specs.Resolved.{resolved, totals, operated, nullness, place_of, rows_or, is_final}
use Rattle.rp_resolution.proofs.Clean.{none_left, none_right, holds, both, both_true}

-- in a context, what a leaf without faults becomes passes the test
pub record LeavesPass (x : Context) (test : Formula → Bool) : Type 0 where
  pub literal : (v : Value) → test (formula.Literal v) ≡ true
  pub navigation : (count : ℕ) (p : Path) → path_faults x p ≡ [] → test (formula.Cell (place_of x count p)) ≡ true
  pub aggregate : (number : ℕ) (a : Aggregate) → aggregate_faults x a ≡ [] → test (formula.Aggregated number (is_final a.scope)) ≡ true
  pub match_number : (at : ℕ) → expr_faults x (MatchNumber at) ≡ [] → test formula.MatchNumber ≡ true
  pub classifier : (at : ℕ) → expr_faults x (Classifier at) ≡ [] → test (formula.Classifier x.classes) ≡ true

module _ (test : Formula → Bool) where
  each_null : (negated : Bool) (f : Formula) → each_leaf test (nullness negated f) ≡ each_leaf test f
  each_null true f = refl
  each_null false f = refl

  each_operated : (o : Operator) (f g : Formula) → each_leaf test (operated o f g) ≡ (each_leaf test f && each_leaf test g)
  each_operated operator.Plus f g = refl
  each_operated operator.Minus f g = refl
  each_operated operator.Times f g = refl
  each_operated operator.Or f g = refl
  each_operated operator.And f g = refl
  each_operated operator.Equals f g = refl
  each_operated operator.NotEquals f g = refl
  each_operated operator.Less f g = refl
  each_operated operator.LessOrEquals f g = refl
  each_operated operator.Greater f g = refl
  each_operated operator.GreaterOrEquals f g = refl

module _ (x : Context) (test : Formula → Bool) (pass : LeavesPass x test) where
  term_passes : (before : List PlainTotal) (t : Term) → expr_faults x t ≡ [] → each_leaf test (resolved x before t) ≡ true
  term_passes before (Number at value) e = pass.literal _
  term_passes before (Literal at text) e = pass.literal _
  term_passes before (Navigation path) e = pass.navigation (length before) path e
  term_passes before (Aggregated a) e = pass.aggregate (length before) a e
  term_passes before (MatchNumber at) e = pass.match_number at e
  term_passes before (Classifier at) e = pass.classifier at e
  term_passes before (Negative at body) e = both _ _ (pass.literal _) (term_passes before body (none_left (expr_faults x body) _ e))
  term_passes before (Not at body) e = term_passes before body (none_left (expr_faults x body) _ e)
  term_passes before (IsNull at negated body) e = each_null test negated (resolved x before body) ∙ term_passes before body (none_left (expr_faults x body) _ e)
  term_passes before (Operate a o b) e =
      each_operated test o.operator (resolved x before a) (resolved x (before ++ totals x a) b)
      ∙ both _ _ (term_passes before a (none_left (expr_faults x a) _ e)) (term_passes (before ++ totals x a) b (none_left (expr_faults x b) _ (none_right (expr_faults x a) _ e)))

  pub measures_pass : (ms earlier : List MeasureTree) (before : List PlainTotal) → each_after (measure_faults x) earlier ms ≡ []
      → AllByRecursion (λ f. each_leaf test f ≡ true) (formulas x before (terms_of_measures ms))
  measures_pass [] earlier before e = tt
  measures_pass (m ∷ ms) earlier before e = (
    term_passes before m.term (none_left (expr_faults x m.term) _ (none_left (measure_faults x earlier m) _ e)),
    measures_pass ms (earlier ++ m ∷ []) (before ++ totals x m.term) (none_right (measure_faults x earlier m) _ e),
  )

  pub definitions_pass : (ds earlier : List DefinitionTree) (before : List PlainTotal) → each_after (definition_faults x) earlier ds ≡ []
      → AllByRecursion (λ f. each_leaf test f ≡ true) (formulas x before (terms_of_definitions ds))
  definitions_pass [] earlier before e = tt
  definitions_pass (d ∷ ds) earlier before e = (
    term_passes before d.term (none_left (expr_faults x d.term) _ (none_left (definition_faults x earlier d) _ e)),
    definitions_pass ds (earlier ++ d ∷ []) (before ++ totals x d.term) (none_right (definition_faults x earlier d) _ e),
  )

module _ (x : Context) where
  -- what is in the brackets of a navigation without faults has none, nor has the offset
  inner_clean : (movement : Movement) (p : Path) (more : List Fault) → scope_faults x (scope_in movement) ++ (nesting_faults movement p ++ (path_faults x p ++ more)) ≡ [] → path_faults x p ≡ []
  inner_clean movement p more e = none_left (path_faults x p) _ (none_right (nesting_faults movement p) _ (none_right (scope_faults x (scope_in movement)) _ e))

  offset_clean : (movement : Movement) (p : Path) (more : List Fault) → scope_faults x (scope_in movement) ++ (nesting_faults movement p ++ (path_faults x p ++ more)) ≡ [] → more ≡ []
  offset_clean movement p more e = none_right (path_faults x p) _ (none_right (nesting_faults movement p) _ (none_right (scope_faults x (scope_in movement)) _ e))

  near : (n : ℕ) (offset : Option Offset) → nat_le n 1000 ≡ true → offset_faults offset ≡ [] → nat_le (rows_or n offset) 1000 ≡ true
  near n None h e = h
  near n (Some offset) h e = holds _ _ _ e

  path_near : (count : ℕ) (p : Path) → path_faults x p ≡ [] → goes_near (formula.Cell (place_of x count p)) ≡ true
  path_near count (At c) e = refl
  path_near count (Move Prev at p offset) e =
      both _ _ (both_true _ _ (path_near count p (inner_clean Prev p (offset_faults offset) e))).0 (near 1 offset refl (offset_clean Prev p (offset_faults offset) e))
  path_near count (Move Next at p offset) e =
      both _ _ (both_true _ _ (path_near count p (inner_clean Next p (offset_faults offset) e))).0 (near 1 offset refl (offset_clean Next p (offset_faults offset) e))
  path_near count (Move (First scope) at p offset) e =
      both _ _ (near 0 offset refl (offset_clean (First scope) p (offset_faults offset) e)) (both_true _ _ (path_near count p (inner_clean (First scope) p (offset_faults offset) e))).1
  path_near count (Move (Last scope) at p offset) e =
      both _ _ (near 0 offset refl (offset_clean (Last scope) p (offset_faults offset) e)) (both_true _ _ (path_near count p (inner_clean (Last scope) p (offset_faults offset) e))).1

  -- each offset is small
  pub pass_near : LeavesPass x goes_near
  pass_near = record { literal = λ v. refl; navigation = path_near; aggregate = λ number a e. refl; match_number = λ at e. refl; classifier = λ at e. refl }

module _ (x : Context) (define : x.in_define ≡ true) where
  scope_runs : (scope : Option Scope) → scope_faults x scope ≡ [] → not (is_final scope) ≡ true
  scope_runs None e = refl
  scope_runs (Some scope) e = go scope.is_final (sym (ap (λ b. not (scope.is_final && b)) define) ∙ holds _ _ _ e)
    where
      go : (b : Bool) → not (b && true) ≡ true → not b ≡ true
      go true h = h
      go false h = refl

  path_runs : (count : ℕ) (p : Path) → path_faults x p ≡ [] → not (place_of x count p).is_final ≡ true
  path_runs count (At c) e = refl
  path_runs count (Move Prev at p offset) e = path_runs count p (inner_clean x Prev p (offset_faults offset) e)
  path_runs count (Move Next at p offset) e = path_runs count p (inner_clean x Next p (offset_faults offset) e)
  path_runs count (Move (First scope) at p offset) e = scope_runs scope (none_left (scope_faults x scope) _ e)
  path_runs count (Move (Last scope) at p offset) e = scope_runs scope (none_left (scope_faults x scope) _ e)

  -- what stands in DEFINE doesn't see the whole match
  pub pass_running : LeavesPass x runs
  pass_running = record {
    literal = λ v. refl;
    navigation = path_runs;
    aggregate = λ number a e. scope_runs a.scope (none_left (scope_faults x a.scope) _ e);
    match_number = λ at e. refl;
    classifier = λ at e. refl;
  }

  not_in_define : not x.in_define ≡ true → ⊥
  not_in_define h = let e = sym (ap not define) ∙ h in cc

  -- nor does it ask for what is given in measures alone
  pub pass_of_rows : LeavesPass x asks_rows_alone
  pass_of_rows = record {
    literal = λ v. refl;
    navigation = λ count p e. refl;
    aggregate = λ number a e. refl;
    match_number = λ at e. absurd (not_in_define (holds _ _ _ e));
    classifier = λ at e. absurd (not_in_define (holds _ _ _ e));
  }
