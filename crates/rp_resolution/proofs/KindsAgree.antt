-- An expression without faults becomes one whose columns and totals are there and whose kinds agree.
use Rattle.std.proofs.Common.{◌≡◌, ◌∙◌, ℕ, zero, suc, ◌<◌, Bool, true, false, ◌&&◌, ◌||◌, Option, None, Some, List, [], ◌∷◌, ◌++◌, length, refl, sym, ap, pos, ℤ, arith, append_assoc, add-one, cond}
use Rattle.std.specs.Prelude.{not, is_some, option_map, slice_get, if◌then◌else◌}
use Rattle.std.specs.List.{AllByRecursion}
use Rattle.rp_value.specs.declared.table.Column.{Column as Heading}
use Rattle.rp_value.specs.declared.value.Value.TheVariants as value
use Rattle.rp_value.specs.declared.value.Kind.{Kind}
use Rattle.rp_value.specs.declared.value.Kind.TheVariants.{Int, Text}
use Rattle.rp_value.specs.Arithmetic.{fitted, fits_64_bits}
use Rattle.rp_tree.specs.declared.tree.Column.{Column}
use Rattle.rp_tree.specs.declared.tree.Scope.{Scope}
use Rattle.rp_tree.specs.declared.tree.Aggregate.{Aggregate}
use Rattle.rp_tree.specs.declared.tree.AggregateFunction.{AggregateFunction}
use Rattle.rp_tree.specs.declared.tree.AggregateFunction.TheVariants as computed
use Rattle.rp_tree.specs.declared.tree.Counted.{Counted}
use Rattle.rp_tree.specs.declared.tree.Counted.TheVariants as counted
use Rattle.rp_tree.specs.declared.tree.Movement.{Movement}
use Rattle.rp_tree.specs.declared.tree.Movement.TheVariants.{Prev, Next, First, Last}
use Rattle.rp_tree.specs.declared.tree.Operator.{Operator}
use Rattle.rp_tree.specs.declared.tree.Operator.TheVariants as operator
use Rattle.rp_tree.specs.Paths.{Path, At, Move}
use Rattle.rp_tree.specs.Terms.{Term, Number, Literal, Navigation, Aggregated, MatchNumber, Classifier, Negative, Not, IsNull, Operate}
use Rattle.rp_query.specs.declared.plan.Operation.{Operation}
use Rattle.rp_query.specs.declared.plan.Function.TheVariants as function
use Rattle.rp_value.specs.declared.comparison.Comparison.{Comparison}
use Rattle.rp_value.specs.declared.comparison.Comparison.TheVariants as comparison
use Rattle.rp_query.specs.declared.plan.Operation.TheVariants as calculation
use Rattle.rp_tree.specs.Clauses.{MeasureTree, DefinitionTree}
use Rattle.rp_resolution.specs.declared.fault.Fault.{Fault}
use Rattle.rp_resolution.specs.PartFaults.{each_after, measure_faults, definition_faults}
use Rattle.rp_resolution.specs.Queries.{formulas, totals_of, terms_of_measures, terms_of_definitions}
use Rattle.rp_resolution.specs.Context.{Context, column_named, is_name}
use Rattle.rp_resolution.specs.ExprFaults.{expr_faults, column_faults, qualifier_faults, path_faults, scope_faults, scope_in, nesting_faults, aggregate_faults, function_faults, counted_faults}
use Rattle.rp_query.specs.Formulas as formula
use Rattle.rp_query.specs.Formulas.{Formula, PlainTotal}
use Rattle.rp_query.specs.Kinds.{is_kind, may_be, are_texts, column_kind, function_kind, total_kind, is_listing, are_kept, has_kind, is_value, is_truth}
use Rattle.rp_resolution.specs.Resolved.{resolved, totals, operated, nullness, place_of, column_in, column_number, number_at, rows_meant, path_members, listing_total, total_over, total_counted, is_final}
use Rattle.rp_resolution.specs.Sorts.{Sort, Valued, Truth, sort_of, path_sort, column_sort, aggregate_sort, kind_at, operator_sort, takes, numbers, conditions, comparable, may_be_number, may_be_condition, may_be_value}
use Rattle.rp_resolution.proofs.Clean.{none_left, none_right, holds, both, found_within}

-- what an expression of this sort becomes
abbrev pub fits_sort : List Heading → List PlainTotal → Sort → Formula → Bool
fits_sort columns all (Valued k) f = has_kind columns all k f
fits_sort columns all Truth f = is_truth columns all f

pub same_kind : (k : Kind) → is_kind k (Some k) ≡ true
same_kind Int = refl
same_kind Text = refl

left_holds : (a b : Bool) → a ≡ true → (a || b) ≡ true
left_holds a b p = rw p refl

right_holds : (a b : Bool) → b ≡ true → (a || b) ≡ true
right_holds true b p = refl
right_holds false b p = p

pub there : {A : Type 0} (xs : List A) (k : ℕ) → k < length xs → (x : A) × (slice_get xs k ≡ Some x)
there [] k h = absurd (omega arith)
there (x ∷ xs) zero h = (x, refl)
there (x ∷ xs) (suc k) h = there xs k (omega arith)

pub behind : {A : Type 0} (xs ys : List A) (y : A) → slice_get (xs ++ y ∷ ys) (length xs) ≡ Some y
behind [] ys y = refl
behind (x ∷ xs) ys y = behind xs ys y

-- a number is a whole number or null
number_fits : (z : ℤ) → may_be Int (fitted z) ≡ true
number_fits z = go (fits_64_bits z)
  where
    go : (b : Bool) → may_be Int (if b then value.Int z else value.Null) ≡ true
    go true = refl
    go false = refl

module _ (x : Context) where
  -- what a column without faults has: a kind, and a number that is in the table
  abbrev HasColumn : Column → Type 0
  HasColumn c = (k : Kind) × (column_sort x c ≡ Some (Valued k)) × (column_kind x.columns (column_number x c) ≡ Some k)

  column_found : (name : List ℕ) → is_some (column_named name x.columns) ≡ true
      → (k : Kind) × (option_map Valued (kind_at x.columns (column_named name x.columns)) ≡ Some (Valued k)) × (column_kind x.columns (number_at (column_named name x.columns)) ≡ Some k)
  column_found name e = go (column_named name x.columns) refl e
    where
      go : (o : Option ℕ) → column_named name x.columns ≡ o → is_some o ≡ true
          → (k : Kind) × (option_map Valued (kind_at x.columns o) ≡ Some (Valued k)) × (column_kind x.columns (number_at o) ≡ Some k)
      go None is e = absurd cc
      go (Some k) is e =
          let h = there x.columns k (found_within (λ c. is_name name c.name) x.columns k is) in
          (h.0.kind, ap (λ o. option_map Valued (option_map (λ (c : Heading). c.kind) o)) h.1, rw add-one (ap (λ o. option_map (λ (c : Heading). c.kind) o) h.1))

  column_there : (c : Column) → column_faults x c ≡ [] → HasColumn c
  column_there c e = column_found c.name.text (holds _ _ _ (none_right (qualifier_faults x c.qualifier) _ e))

  path_clean : (p : Path) → path_faults x p ≡ [] → column_faults x (column_in p) ≡ []
  path_clean (At c) e = e
  path_clean (Move movement at p offset) e =
      path_clean p (none_left (path_faults x p) _ (none_right (nesting_faults movement p) _ (none_right (scope_faults x (scope_in movement)) _ e)))

  same_sort : (p : Path) → path_sort x p ≡ column_sort x (column_in p)
  same_sort (At c) = refl
  same_sort (Move movement at p offset) = same_sort p

  same_column : (count : ℕ) (p : Path) → (place_of x count p).column ≡ column_number x (column_in p)
  same_column count (At c) = refl
  same_column count (Move Prev at p offset) = same_column count p
  same_column count (Move Next at p offset) = same_column count p
  same_column count (Move (First scope) at p offset) = same_column count p
  same_column count (Move (Last scope) at p offset) = same_column count p

  same_rows : (count : ℕ) (p : Path) → (place_of x count p).rows_of ≡ rows_meant count (path_members x p)
  same_rows count (At c) = refl
  same_rows count (Move Prev at p offset) = same_rows count p
  same_rows count (Move Next at p offset) = same_rows count p
  same_rows count (Move (First scope) at p offset) = same_rows count p
  same_rows count (Move (Last scope) at p offset) = same_rows count p

  rows_kept : (members : Option (List ℕ)) (before after : List PlainTotal) → are_kept (before ++ (listing_total members ++ after)) (rows_meant (length before) members) ≡ true
  rows_kept None before after = refl
  rows_kept (Some members) before after =
      let total : PlainTotal = record { members = Some members; function = function.Listed } in
      ap is_listing (behind before after total)

  navigation_well : (before after : List PlainTotal) (p : Path) → path_faults x p ≡ []
      → (k : Kind) × (path_sort x p ≡ Some (Valued k))
      × (has_kind x.columns (before ++ (listing_total (path_members x p) ++ after)) k (formula.Cell (place_of x (length before) p)) ≡ true)
  navigation_well before after p e =
      let h = column_there (column_in p) (path_clean p e) in (
        h.0,
        same_sort p ∙ h.1,
        both _ _
            (ap (λ n. is_kind h.0 (column_kind x.columns n)) (same_column (length before) p) ∙ (ap (is_kind h.0) h.2 ∙ same_kind h.0))
            (ap (are_kept (before ++ (listing_total (path_members x p) ++ after))) (same_rows (length before) p) ∙ rows_kept (path_members x p) before after),
      )

  counted_kind : (c : Counted) → counted_faults x c ≡ [] → function_kind x.columns (total_counted x c).function ≡ Some Int
  counted_kind counted.Rows e = refl
  counted_kind (counted.RowsOf name) e = refl
  counted_kind (counted.Column c) e = ap (λ o. cond (is_some o) (Some Int) None) (column_there c e).2

  sum_kind : (c : Column) (h : HasColumn c) → may_be_number (column_sort x c) ≡ true → cond (is_kind Int (column_kind x.columns (column_number x c))) (Some Int) None ≡ Some Int
  sum_kind c h e = go h.0 h.1 h.2
    where
      go : (k : Kind) → column_sort x c ≡ Some (Valued k) → column_kind x.columns (column_number x c) ≡ Some k → cond (is_kind Int (column_kind x.columns (column_number x c))) (Some Int) None ≡ Some Int
      go Int is at = ap (λ o. cond (is_kind Int o) (Some Int) None) at
      go Text is at = let wrong : false ≡ true = sym (ap may_be_number is) ∙ e in absurd cc

  -- an aggregate's value has the kind of its total
  aggregated_kind : (at : ℕ) (f : AggregateFunction) → function_faults x at f ≡ [] → (k : Kind) × (aggregate_sort x f ≡ Some (Valued k)) × (function_kind x.columns (total_over x f).function ≡ Some k)
  aggregated_kind at (computed.Count c) e = (Int, refl, counted_kind c e)
  aggregated_kind at (computed.Sum c) e = (Int, refl, sum_kind c (column_there c (none_left (column_faults x c) _ e)) (holds _ _ _ (none_right (column_faults x c) _ e)))
  aggregated_kind at (computed.Min c) e = column_there c e
  aggregated_kind at (computed.Max c) e = column_there c e

  aggregate_well : (before after : List PlainTotal) (a : Aggregate) → aggregate_faults x a ≡ []
      → (k : Kind) × (aggregate_sort x a.function ≡ Some (Valued k))
      × (has_kind x.columns (before ++ (total_over x a.function ∷ after)) k (formula.Aggregated (length before) (is_final a.scope)) ≡ true)
  aggregate_well before after a e =
      let h = aggregated_kind a.at a.function (none_right (scope_faults x a.scope) _ e) in
      (h.0, h.1, ap (λ o. is_kind h.0 (total_kind x.columns o)) (behind before after (total_over x a.function)) ∙ (ap (is_kind h.0) h.2 ∙ same_kind h.0))

module _ (columns : List Heading) (all : List PlainTotal) where
  arithmetic_fits : (o : Operation) (s t : Sort) (f g : Formula) → numbers (Some s) (Some t) ≡ true → fits_sort columns all s f ≡ true → fits_sort columns all t g ≡ true
      → has_kind columns all Int (formula.Arithmetic o f g) ≡ true
  arithmetic_fits o (Valued Int) (Valued Int) f g e p q = both _ _ p q
  arithmetic_fits o (Valued Int) (Valued Text) f g e p q = absurd cc
  arithmetic_fits o (Valued Int) Truth f g e p q = absurd cc
  arithmetic_fits o (Valued Text) t f g e p q = absurd cc
  arithmetic_fits o Truth t f g e p q = absurd cc

  both_fit : (s t : Sort) (f g : Formula) → conditions (Some s) (Some t) ≡ true → fits_sort columns all s f ≡ true → fits_sort columns all t g ≡ true
      → (is_truth columns all f && is_truth columns all g) ≡ true
  both_fit Truth Truth f g e p q = both _ _ p q
  both_fit Truth (Valued k) f g e p q = absurd cc
  both_fit (Valued k) t f g e p q = absurd cc

  compare_fits : (c : Comparison) (s t : Sort) (f g : Formula) → comparable (Some s) (Some t) ≡ true → fits_sort columns all s f ≡ true → fits_sort columns all t g ≡ true
      → is_truth columns all (formula.Compare c f g) ≡ true
  compare_fits c (Valued Int) (Valued Int) f g e p q = left_holds _ _ (both _ _ p q)
  compare_fits c (Valued Text) (Valued Text) f g e p q = right_holds _ _ (both _ _ p q)
  compare_fits c (Valued Int) (Valued Text) f g e p q = absurd cc
  compare_fits c (Valued Text) (Valued Int) f g e p q = absurd cc
  compare_fits c (Valued Int) Truth f g e p q = absurd cc
  compare_fits c (Valued Text) Truth f g e p q = absurd cc
  compare_fits c Truth (Valued Int) f g e p q = absurd cc
  compare_fits c Truth (Valued Text) f g e p q = absurd cc
  compare_fits c Truth Truth f g e p q = absurd cc

  operated_fits : (o : Operator) (s t : Sort) (f g : Formula) → takes o (Some s) (Some t) ≡ true → fits_sort columns all s f ≡ true → fits_sort columns all t g ≡ true
      → fits_sort columns all (operator_sort o) (operated o f g) ≡ true
  operated_fits operator.Plus s t f g e p q = arithmetic_fits calculation.Plus s t f g e p q
  operated_fits operator.Minus s t f g e p q = arithmetic_fits calculation.Minus s t f g e p q
  operated_fits operator.Times s t f g e p q = arithmetic_fits calculation.Times s t f g e p q
  operated_fits operator.Or s t f g e p q = both_fit s t f g e p q
  operated_fits operator.And s t f g e p q = both_fit s t f g e p q
  operated_fits operator.Equals s t f g e p q = compare_fits comparison.Equal s t f g e p q
  operated_fits operator.NotEquals s t f g e p q = compare_fits comparison.NotEqual s t f g e p q
  operated_fits operator.Less s t f g e p q = compare_fits comparison.Less s t f g e p q
  operated_fits operator.LessOrEquals s t f g e p q = compare_fits comparison.LessOrEqual s t f g e p q
  operated_fits operator.Greater s t f g e p q = compare_fits comparison.Greater s t f g e p q
  operated_fits operator.GreaterOrEquals s t f g e p q = compare_fits comparison.GreaterOrEqual s t f g e p q

  number_only : (s : Sort) (f : Formula) → may_be_number (Some s) ≡ true → fits_sort columns all s f ≡ true → has_kind columns all Int f ≡ true
  number_only (Valued Int) f e p = p
  number_only (Valued Text) f e p = absurd cc
  number_only Truth f e p = absurd cc

  pub truth_only : (s : Sort) (f : Formula) → may_be_condition (Some s) ≡ true → fits_sort columns all s f ≡ true → is_truth columns all f ≡ true
  truth_only Truth f e p = p
  truth_only (Valued k) f e p = absurd cc

  pub value_only : (s : Sort) (f : Formula) → may_be_value (Some s) ≡ true → fits_sort columns all s f ≡ true → is_value columns all f ≡ true
  value_only (Valued Int) f e p = left_holds _ _ p
  value_only (Valued Text) f e p = right_holds _ _ p
  value_only Truth f e p = absurd cc

  null_fits : (negated : Bool) (f : Formula) → is_value columns all f ≡ true → is_truth columns all (nullness negated f) ≡ true
  null_fits true f e = e
  null_fits false f e = e

taken : (o : Operator) (s s' t t' : Option Sort) → s ≡ s' → t ≡ t' → takes o s t ≡ true → takes o s' t' ≡ true
taken o s s' t t' p q e = rw (← p, ← q) e

module _ (x : Context) (texts : are_texts x.classes ≡ true) where
  -- an expression that is resolved has a sort, and what it becomes is of that sort
  abbrev pub IsWell : List PlainTotal → List PlainTotal → Term → Type 0
  IsWell before after t = (s : Sort) × (sort_of x t ≡ Some s) × (fits_sort x.columns (before ++ (totals x t ++ after)) s (resolved x before t) ≡ true)

  operate_well : (a b : Term) (o : Operator) (before after : List PlainTotal) → takes o (sort_of x a) (sort_of x b) ≡ true
      → IsWell before (totals x b ++ after) a → IsWell (before ++ totals x a) after b
      → fits_sort x.columns (before ++ ((totals x a ++ totals x b) ++ after)) (operator_sort o) (operated o (resolved x before a) (resolved x (before ++ totals x a) b)) ≡ true
  operate_well a b o before after e left right =
      let all = before ++ ((totals x a ++ totals x b) ++ after) in
      let one : before ++ (totals x a ++ (totals x b ++ after)) ≡ all = ap (λ ts. before ++ ts) (sym (append_assoc (totals x a) (totals x b) after)) in
      let two : (before ++ totals x a) ++ (totals x b ++ after) ≡ all = append_assoc before (totals x a) (totals x b ++ after) ∙ one in
      operated_fits x.columns all o left.0 right.0 (resolved x before a) (resolved x (before ++ totals x a) b)
      (taken o (sort_of x a) (Some left.0) (sort_of x b) (Some right.0) left.1 right.1 e) (rw (← one) left.2) (rw (← two) right.2)

  pub well : (t : Term) (before after : List PlainTotal) → expr_faults x t ≡ [] → IsWell before after t
  well (Number at value) before after e = (Valued Int, refl, number_fits (pos value))
  well (Literal at text) before after e = (Valued Text, refl, refl)
  well (Navigation path) before after e = let h = navigation_well x before after path e in (Valued h.0, h.1, h.2)
  well (Aggregated a) before after e = let h = aggregate_well x before after a e in (Valued h.0, h.1, h.2)
  well (MatchNumber at) before after e = (Valued Int, refl, refl)
  well (Classifier at) before after e = (Valued Text, refl, texts)
  well (Negative at body) before after e =
      let h = well body before after (none_left (expr_faults x body) _ e) in
      let is = holds _ _ _ (none_right (expr_faults x body) _ e) in
      (Valued Int, refl, number_only x.columns (before ++ (totals x body ++ after)) h.0 (resolved x before body) (sym (ap may_be_number h.1) ∙ is) h.2)
  well (Not at body) before after e =
      let h = well body before after (none_left (expr_faults x body) _ e) in
      let is = holds _ _ _ (none_right (expr_faults x body) _ e) in
      (Truth, refl, truth_only x.columns (before ++ (totals x body ++ after)) h.0 (resolved x before body) (sym (ap may_be_condition h.1) ∙ is) h.2)
  well (IsNull at negated body) before after e =
      let h = well body before after (none_left (expr_faults x body) _ e) in
      let is = holds _ _ _ (none_right (expr_faults x body) _ e) in
      let all = before ++ (totals x body ++ after) in
      (Truth, refl, null_fits x.columns all negated (resolved x before body) (value_only x.columns all h.0 (resolved x before body) (sym (ap may_be_value h.1) ∙ is) h.2))
  well (Operate a o b) before after e =
      let right = none_right (expr_faults x a) _ e in
      let is = holds _ _ _ (none_right (expr_faults x b) _ right) in (
        operator_sort o.operator,
        refl,
        operate_well a b o.operator before after is
            (well a before (totals x b ++ after) (none_left (expr_faults x a) _ e)) (well b (before ++ totals x a) after (none_left (expr_faults x b) _ right)),
      )

module _ (x : Context) (texts : are_texts x.classes ≡ true) (after all : List PlainTotal) where
  -- the totals of the first expression, and then those of the others
  pub in_turn : (before these those : List PlainTotal) → all ≡ before ++ ((these ++ those) ++ after) → before ++ (these ++ (those ++ after)) ≡ all
  in_turn before these those is = ap (λ ts. before ++ ts) (sym (append_assoc these those after)) ∙ sym is

  pub next_turn : (before these those : List PlainTotal) → all ≡ before ++ ((these ++ those) ++ after) → all ≡ (before ++ these) ++ (those ++ after)
  next_turn before these those is = sym (append_assoc before these (those ++ after) ∙ in_turn before these those is)

  pub measures_well : (ms earlier : List MeasureTree) (before : List PlainTotal) → each_after (measure_faults x) earlier ms ≡ []
      → all ≡ before ++ (totals_of x (terms_of_measures ms) ++ after) → AllByRecursion (λ f. is_value x.columns all f ≡ true) (formulas x before (terms_of_measures ms))
  measures_well [] earlier before e is = tt
  measures_well (m ∷ ms) earlier before e is =
      let here = none_left (measure_faults x earlier m) _ e in
      let those = totals_of x (terms_of_measures ms) in
      let h = well x texts m.term before (those ++ after) (none_left (expr_faults x m.term) _ here) in
      let may = holds _ _ _ (none_right (expr_faults x m.term) _ here) in (
        value_only x.columns all h.0 (resolved x before m.term) (sym (ap may_be_value h.1) ∙ may) (rw (← in_turn before (totals x m.term) those is) h.2),
        measures_well ms (earlier ++ m ∷ []) (before ++ totals x m.term) (none_right (measure_faults x earlier m) _ e) (next_turn before (totals x m.term) those is),
      )

  pub definitions_well : (ds earlier : List DefinitionTree) (before : List PlainTotal) → each_after (definition_faults x) earlier ds ≡ []
      → all ≡ before ++ (totals_of x (terms_of_definitions ds) ++ after) → AllByRecursion (λ f. is_truth x.columns all f ≡ true) (formulas x before (terms_of_definitions ds))
  definitions_well [] earlier before e is = tt
  definitions_well (d ∷ ds) earlier before e is =
      let here = none_left (definition_faults x earlier d) _ e in
      let those = totals_of x (terms_of_definitions ds) in
      let h = well x texts d.term before (those ++ after) (none_left (expr_faults x d.term) _ here) in
      let may = holds _ _ _ (none_right (expr_faults x d.term) _ here) in (
        truth_only x.columns all h.0 (resolved x before d.term) (sym (ap may_be_condition h.1) ∙ may) (rw (← in_turn before (totals x d.term) those is) h.2),
        definitions_well ds (earlier ++ d ∷ []) (before ++ totals x d.term) (none_right (definition_faults x earlier d) _ e) (next_turn before (totals x d.term) those is),
      )
