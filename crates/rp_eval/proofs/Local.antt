-- What a local condition comes to.
use Rattle.std.proofs.Common.{◌≡◌, ◌≢◌, ℕ, pos, ◌+◌, ◌-◌, Bool, true, false, cond, ◌&&◌, ◌||◌, List, [], ◌∷◌, ◌++◌, length, reverse, Option, Some, None, ◌⊎◌, inl, inr, refl, sym, ap, ◌∙◌, subst, arith, length-append}
use Rattle.std.specs.Prelude.{nat_eq, slice_get}
use Rattle.std.specs.List.{AllByRecursion, list_any, list_all}
use Rattle.std.proofs.lemmas.Bool.{and_parts, or_cases, eqb-true}
use Rattle.std.proofs.lemmas.List.{reverse-append, take_all}
use Rattle.rp_value.specs.Arithmetic.{fitted}
use Rattle.rp_value.specs.Truth.{judged_conjunction, judged_disjunction, judged_negation}
use Rattle.rp_value.specs.declared.value.Value.{Value}
use Rattle.rp_value.specs.declared.truth.Judged.{Judged}
use Rattle.rp_words.specs.declared.word.Label.{Label}
use Rattle.rp_words.specs.Leading.{IsLedBy, IsFirstAlone, IsHeadedBy}
use Rattle.rp_query.specs.declared.locality.Locality.TheVariants.{Row, Span, Led}
use Rattle.rp_query.specs.declared.plan.Edge.{Edge}
use Rattle.rp_query.specs.declared.plan.Edge.TheVariants.{First, Last}
use Rattle.rp_query.specs.declared.plan.Function.{Function}
use Rattle.rp_query.specs.declared.plan.Function.TheVariants.{Listed, Rows as RowCount, Count, Sum, Least as Min, Greatest as Max}
use Rattle.rp_query.specs.declared.plan.Navigation.{Navigation as Route}
use Rattle.rp_query.specs.declared.plan.RowsOf.{RowsOf}
use Rattle.rp_query.specs.declared.plan.RowsOf.TheVariants.{Universal as EveryRow, Listed as ListedBy}
use Rattle.rp_query.specs.declared.plan.Total.{Total}
use Rattle.rp_query.specs.declared.plan.Variables.{Variables}
use Rattle.rp_query.specs.declared.plan.Variables.TheVariants.{Universal, Among}
use Rattle.rp_query.specs.declared.plan.Expr.{Expr}
use Rattle.rp_query.specs.declared.plan.Expr.TheOpen.{Expr-F, Literal, Navigation, Aggregate, MatchNumber, Classifier, Arithmetic}
use Rattle.rp_query.specs.declared.plan.Expr.TheViews.{roll-Expr}
use Rattle.rp_query.specs.declared.plan.Expr.TheFolds.{map-Expr, fold-roll-Expr, ind-Expr}
use Rattle.rp_query.specs.declared.plan.Condition.{Condition}
use Rattle.rp_query.specs.declared.plan.Condition.TheOpen.{Condition-F, Compare, IsNull, Not, And, Or}
use Rattle.rp_query.specs.declared.plan.Condition.TheViews.{roll-Condition}
use Rattle.rp_query.specs.declared.plan.Condition.TheFolds.{map-Condition, fold-roll-Condition, ind-Condition}
use Rattle.rp_query.specs.Allowed.{each_leaf}
use Rattle.rp_query.specs.Formulas as F
use Rattle.rp_query.specs.Formulas.{Formula, value_formula, condition_formula}
use Rattle.rp_query.specs.Kinds.{lists_rows}
use Rattle.rp_query.specs.Locality.{looks_in, navigates_in_span, goes_from_own_row, goes_from_leader, is_first, is_only, is_of_only, has_no_other, has_own_row, lists_rows_of, is_last, is_every_row, is_universal, is_of_every_row}
use Rattle.rp_query.specs.Scopes.{includes}
use Rattle.rp_eval.specs.declared.cell.Cell.{Cell}
use Rattle.rp_eval.specs.declared.cell.Cell.TheVariants.{Ready}
use Rattle.rp_eval.specs.Aggregated.{aggregate}
use Rattle.rp_eval.specs.Mapped.{rows_of, seen, place_in, listed}
use Rattle.rp_eval.specs.ValueOf.{Setting, seen_labels, rows_listed, rows_among, navigated, cell_from, aggregated, name_of, classified, calculated, value_step, value_of, compared_cells, is_null, judged_step, judged}
use Rattle.rp_eval.specs.Locality.{at_last, RowsDecide, SpansDecide, LeadersDecide}
use Rattle.rp_eval.proofs.MappedRows.{one_if, rows_of-last}

-- ---- what the leaves come to decides

-- leaves that pass a test come to the same in two settings
record SameLeaves (test : Formula → Bool) (a b : Setting) : Type 0 where
  cells : (n : Route) → test (F.Cell n) ≡ true → navigated a n ≡ navigated b n
  aggregates : (number : ℕ) (is_final : Bool) → test (F.Aggregated number is_final) ≡ true →
      aggregated a is_final (slice_get a.totals number) ≡ aggregated b is_final (slice_get b.totals number)
  numbers : a.number ≡ b.number
  names : (names : List Value) → classified a names ≡ classified b names

module _ (test : Formula → Bool) (a b : Setting) (same : SameLeaves test a b) where
  abbrev SameValue : Expr → Type 0
  SameValue x = each_leaf test (value_formula x) ≡ true → value_of a x ≡ value_of b x

  layer_same : (y : Expr-F ((x : Expr) × SameValue x)) →
      each_leaf test (F.value_step (map-Expr Expr Formula value_formula (map-Expr ((x : Expr) × SameValue x) Expr (λ t. t.0) y))) ≡ true →
      value_step a (map-Expr Expr Cell (value_of a) (map-Expr ((x : Expr) × SameValue x) Expr (λ t. t.0) y))
      ≡ value_step b (map-Expr Expr Cell (value_of b) (map-Expr ((x : Expr) × SameValue x) Expr (λ t. t.0) y))
  layer_same (Literal v) pass = refl
  layer_same (Navigation n) pass = same.cells n pass
  layer_same (Aggregate number is_final) pass = ap Ready (same.aggregates number is_final pass)
  layer_same MatchNumber pass = ap (λ n. Ready (fitted (pos n))) same.numbers
  layer_same (Classifier names) pass = ap Ready (same.names names.value.items)
  layer_same (Arithmetic o x y) pass =
      let both = and_parts (each_leaf test (value_formula x.value.0)) (each_leaf test (value_formula y.value.0)) pass in
      ap (λ z. calculated o z (value_of a y.value.0)) (x.value.1 both.0) ∙ ap (calculated o (value_of b x.value.0)) (y.value.1 both.1)

  value_same : (x : Expr) → SameValue x
  value_same = ind-Expr SameValue (λ x y is.
      subst (λ z. SameValue (roll-Expr z)) is
      (λ pass. rw (
        fold-roll-Expr Cell (value_step a) (map-Expr ((x : Expr) × SameValue x) Expr (λ t. t.0) y),
        fold-roll-Expr Cell (value_step b) (map-Expr ((x : Expr) × SameValue x) Expr (λ t. t.0) y),
      ) (layer_same y (rw (fold-roll-Expr Formula F.value_step (map-Expr ((x : Expr) × SameValue x) Expr (λ t. t.0) y)) at pass))))

  abbrev SameJudgement : Condition → Type 0
  SameJudgement c = each_leaf test (condition_formula c) ≡ true → judged a c ≡ judged b c

  layer_judged : (y : Condition-F ((c : Condition) × SameJudgement c)) →
      each_leaf test (F.condition_step (map-Condition Condition Formula condition_formula (map-Condition ((c : Condition) × SameJudgement c) Condition (λ t. t.0) y))) ≡ true →
      judged_step a (map-Condition Condition Judged (judged a) (map-Condition ((c : Condition) × SameJudgement c) Condition (λ t. t.0) y))
      ≡ judged_step b (map-Condition Condition Judged (judged b) (map-Condition ((c : Condition) × SameJudgement c) Condition (λ t. t.0) y))
  layer_judged (Compare o x y) pass =
      let both = and_parts (each_leaf test (value_formula x)) (each_leaf test (value_formula y)) pass in
      ap (λ z. compared_cells o z (value_of a y)) (value_same x both.0) ∙ ap (compared_cells o (value_of b x)) (value_same y both.1)
  layer_judged (IsNull x) pass = ap is_null (value_same x pass)
  layer_judged (Not c) pass = ap judged_negation (c.value.1 pass)
  layer_judged (And c d) pass =
      let both = and_parts (each_leaf test (condition_formula c.value.0)) (each_leaf test (condition_formula d.value.0)) pass in
      ap (λ z. judged_conjunction z (judged a d.value.0)) (c.value.1 both.0) ∙ ap (judged_conjunction (judged b c.value.0)) (d.value.1 both.1)
  layer_judged (Or c d) pass =
      let both = and_parts (each_leaf test (condition_formula c.value.0)) (each_leaf test (condition_formula d.value.0)) pass in
      ap (λ z. judged_disjunction z (judged a d.value.0)) (c.value.1 both.0) ∙ ap (judged_disjunction (judged b c.value.0)) (d.value.1 both.1)

  judged_same : (c : Condition) → SameJudgement c
  judged_same = ind-Condition SameJudgement (λ x y is.
      subst (λ z. SameJudgement (roll-Condition z)) is
      (λ pass. rw (
        fold-roll-Condition Judged (judged_step a) (map-Condition ((c : Condition) × SameJudgement c) Condition (λ t. t.0) y),
        fold-roll-Condition Judged (judged_step b) (map-Condition ((c : Condition) × SameJudgement c) Condition (λ t. t.0) y),
      ) (layer_judged y (rw (fold-roll-Condition Formula F.condition_step (map-Condition ((c : Condition) × SameJudgement c) Condition (λ t. t.0) y)) at pass))))

-- ---- the last label's row

-- every label is seen
all_seen : (is_final : Bool) (start : ℕ) (before : List Label) (label : Label) → seen is_final start (start + length before) (before ++ label ∷ []) ≡ before ++ label ∷ []
all_seen true start before label = refl
all_seen false start before label = take_all (start + length before + 1 - start) (before ++ label ∷ []) (omega (arith, length-append before (label ∷ [])))

-- the last of some rows is this one
record EndIn (row : ℕ) (rows : List ℕ) : Type 0 where
  front : List ℕ
  is : rows ≡ front ++ row ∷ []

module _ (s : Setting) (start : ℕ) (before : List Label) (label : Label) where
  abbrev row : ℕ
  row = start + length before

  abbrev here : Setting
  here = at_last s start before label

  variable_ends : (is_final : Bool) (vs : Variables) → includes vs label.var ≡ true → EndIn row (rows_of vs start (seen_labels here is_final))
  variable_ends is_final vs own =
      record {
        front = rows_of vs start before;
        is = ap (rows_of vs start) (all_seen is_final start before label) ∙ rows_of-last vs start before label ∙ ap (λ b. rows_of vs start before ++ one_if b row) own;
      }

  listed_ends : (is_final : Bool) (f : Function) (vs : Variables) → lists_rows f ≡ true → includes vs label.var ≡ true → EndIn row (listed f (rows_of vs start (seen_labels here is_final)))
  listed_ends is_final Listed vs lists own = variable_ends is_final vs own
  listed_ends is_final RowCount vs lists own = absurd (cc)
  listed_ends is_final (Count c) vs lists own = absurd (cc)
  listed_ends is_final (Sum c) vs lists own = absurd (cc)
  listed_ends is_final (Min c) vs lists own = absurd (cc)
  listed_ends is_final (Max c) vs lists own = absurd (cc)

  total_ends : (is_final : Bool) (o : Option Total) → lists_rows_of label.var o ≡ true → EndIn row (rows_listed here is_final o)
  total_ends is_final None own = absurd (cc)
  total_ends is_final (Some t) own =
      let both = and_parts (lists_rows t.function) (includes t.variables label.var) own in
      listed_ends is_final t.function t.variables both.0 both.1

  among_ends : (is_final : Bool) (rows : RowsOf) → has_own_row s.totals label.var rows ≡ true → EndIn row (rows_among here is_final rows)
  among_ends is_final EveryRow own = variable_ends is_final Universal refl
  among_ends is_final (ListedBy number) own = total_ends is_final (slice_get s.totals number) own

  last_is : (edge : Edge) (places : ℕ) (rows : List ℕ) → is_last edge places ≡ true → EndIn row rows → place_in edge places rows ≡ Some row
  last_is First places rows last ends = absurd (cc)
  last_is Last places rows last ends =
      let none : places ≡ 0 = eqb-true places 0 last in
      ap (slice_get (reverse rows)) none ∙ ap (λ z. slice_get (reverse z) 0) ends.is ∙ ap (λ z. slice_get z 0) (reverse-append ends.front (row ∷ []))

  -- a navigation from the row that is judged goes from there
  pub own_cell : (n : Route) → goes_from_own_row s.totals label.var n ≡ true → navigated here n ≡ cell_from s.rows s.ending n.column n.step (Some row)
  own_cell n own =
      let both = and_parts (is_last n.edge n.places) (has_own_row s.totals label.var n.rows_of) own in
      ap (cell_from s.rows s.ending n.column n.step) (last_is n.edge n.places (rows_among here n.is_final n.rows_of) both.0 (among_ends n.is_final n.rows_of both.1))

  own_name : (names : List Value) → classified here names ≡ name_of names (Some label)
  own_name names =
      let place : start + length before - start ≡ length before = omega arith in
      ap (λ k. name_of names (slice_get (before ++ label ∷ []) k)) place ∙ ap (name_of names) (found before)
    where
      found : (ls : List Label) → slice_get (ls ++ label ∷ []) (length ls) ≡ Some label
      found [] = refl
      found (l ∷ ls) = found ls

pub rows_decide : RowsDecide
rows_decide s start start' before before' label c pass at =
    judged_same (looks_in Row s.totals label.var) (at_last s start before label) (at_last s start' before' label)
    (record {
      cells = λ n own. own_cell s start before label n own ∙ ap (λ row. cell_from s.rows s.ending n.column n.step (Some row)) at ∙ sym (own_cell s start' before' label n own);
      aggregates = λ number is_final none. absurd (cc);
      numbers = refl;
      names = λ names. own_name s start before label names ∙ sym (own_name s start' before' label names);
    }) c pass

-- ---- every row from the first on

-- the universal variable has as many rows as there are labels
every_same : (row : ℕ) (xs ys : List Label) → length xs ≡ length ys → rows_of Universal row xs ≡ rows_of Universal row ys
every_same row [] [] e = refl
every_same row [] (y ∷ ys) e = absurd (omega arith)
every_same row (x ∷ xs) [] e = absurd (omega arith)
every_same row (x ∷ xs) (y ∷ ys) e = ap (λ z. row ∷ z) (every_same (row + 1) xs ys (omega arith))

module _ (s : Setting) (start : ℕ) (before before' : List Label) (label : Label) (size : length before ≡ length before') where
  abbrev one : Setting
  one = at_last s start before label

  abbrev other : Setting
  other = at_last s start before' label

  span_same : (is_final : Bool) → rows_of Universal start (seen_labels one is_final) ≡ rows_of Universal start (seen_labels other is_final)
  span_same is_final =
      ap (rows_of Universal start) (all_seen is_final start before label)
      ∙ every_same start (before ++ label ∷ []) (before' ++ label ∷ []) (omega (arith, length-append before (label ∷ []), length-append before' (label ∷ [])))
      ∙ ap (rows_of Universal start) (sym (all_seen is_final start before' label))

  span_among : (is_final : Bool) (rows : RowsOf) → is_every_row rows ≡ true → rows_among one is_final rows ≡ rows_among other is_final rows
  span_among is_final EveryRow every = span_same is_final
  span_among is_final (ListedBy number) every = absurd (cc)

  span_cell : (n : Route) → looks_in Span s.totals label.var (F.Cell n) ≡ true → navigated one n ≡ navigated other n
  span_cell n pass = go (or_cases (goes_from_own_row s.totals label.var n) (is_every_row n.rows_of) pass)
    where
      go : (goes_from_own_row s.totals label.var n ≡ true) ⊎ (is_every_row n.rows_of ≡ true) → navigated one n ≡ navigated other n
      go (inl own) =
          let at : start + length before ≡ start + length before' = omega arith in
          own_cell s start before label n own ∙ ap (λ row. cell_from s.rows s.ending n.column n.step (Some row)) at ∙ sym (own_cell s start before' label n own)
      go (inr every) = ap (λ rows. cell_from s.rows s.ending n.column n.step (place_in n.edge n.places rows)) (span_among n.is_final n.rows_of every)

  span_rows : (is_final : Bool) (vs : Variables) → is_universal vs ≡ true → rows_of vs start (seen_labels one is_final) ≡ rows_of vs start (seen_labels other is_final)
  span_rows is_final Universal every = span_same is_final
  span_rows is_final (Among members) every = absurd (cc)

  span_aggregate : (is_final : Bool) (o : Option Total) → is_of_every_row o ≡ true → aggregated one is_final o ≡ aggregated other is_final o
  span_aggregate is_final None every = absurd (cc)
  span_aggregate is_final (Some t) every = ap (aggregate s.rows t.function) (span_rows is_final t.variables every)

pub spans_decide : SpansDecide
spans_decide s start before before' label c pass size =
    judged_same (looks_in Span s.totals label.var) (at_last s start before label) (at_last s start before' label)
    (record {
      cells = span_cell s start before before' label size;
      aggregates = λ number is_final every. span_aggregate s start before before' label size is_final (slice_get s.totals number) every;
      numbers = refl;
      names = λ names. own_name s start before label names ∙ sym (own_name s start before' label names);
    }) c pass

-- ---- the first row by name

-- the first of some rows is this one
record BeginIn (row : ℕ) (rows : List ℕ) : Type 0 where
  rest : List ℕ
  is : rows ≡ row ∷ rest

begins : (vs : Variables) (row : ℕ) (l : Label) (ls : List Label) → includes vs l.var ≡ true → BeginIn row (rows_of vs row (l ∷ ls))
begins vs row l ls own =
    record {
      rest = rows_of vs (row + 1) ls;
      is = ap (λ b. cond b (row ∷ rows_of vs (row + 1) ls) (rows_of vs (row + 1) ls)) own;
    }

-- no row is mapped to a variable that no label is of
none_is : (leader var : ℕ) (ms : List ℕ) → list_all (nat_eq leader) ms ≡ true → var ≢ leader → list_any (nat_eq var) ms ≡ false
none_is leader var [] all differs = refl
none_is leader var (m ∷ ms) all differs =
    let both = and_parts (nat_eq leader m) (list_all (nat_eq leader) ms) all in
    go (nat_eq var m) refl (eqb-true leader m both.0) (none_is leader var ms both.1 differs)
  where
    go : (b : Bool) → nat_eq var m ≡ b → leader ≡ m → list_any (nat_eq var) ms ≡ false → (b || list_any (nat_eq var) ms) ≡ false
    go true at same rest = absurd (differs (eqb-true var m at ∙ sym same))
    go false at same rest = rest

none_of : (leader : ℕ) (vs : Variables) → is_only leader vs ≡ true → (row : ℕ) (ls : List Label) → AllByRecursion (λ l. l.var ≢ leader) ls → rows_of vs row ls ≡ []
none_of leader Universal only row ls others = absurd (cc)
none_of leader (Among members) only row [] others = refl
none_of leader (Among members) only row (l ∷ ls) others =
    ap (λ b. cond b (row ∷ rows_of (Among members) (row + 1) ls) (rows_of (Among members) (row + 1) ls)) (none_is leader l.var members.items only others.0)
    ∙ none_of leader (Among members) only (row + 1) ls others.1

module _ (leader : ℕ) (alone : Bool) (s : Setting) (start : ℕ) (before : List Label) (label : Label) (headed : IsHeadedBy leader alone (before ++ label ∷ [])) where
  abbrev there : Setting
  there = at_last s start before label

  leader_begins : (is_final : Bool) (vs : Variables) → includes vs leader ≡ true → BeginIn start (rows_of vs start (seen_labels there is_final))
  leader_begins is_final vs own = subst (λ ls. BeginIn start (rows_of vs start ls)) (sym (all_seen is_final start before label)) (go before headed.led)
    where
      go : (ls : List Label) → IsLedBy leader (ls ++ label ∷ []) → BeginIn start (rows_of vs start (ls ++ label ∷ []))
      go [] led = begins vs start label [] (subst (λ v. includes vs v ≡ true) (sym led) own)
      go (l ∷ ls) led = begins vs start l (ls ++ label ∷ []) (subst (λ v. includes vs v ≡ true) (sym led) own)

  -- where it stands alone its rows are the first one
  leader_alone : (is_final : Bool) (vs : Variables) → includes vs leader ≡ true → is_only leader vs ≡ true → alone ≡ true → rows_of vs start (seen_labels there is_final) ≡ start ∷ []
  leader_alone is_final vs own only once = ap (rows_of vs start) (all_seen is_final start before label) ∙ go before headed.led (headed.alone once)
    where
      one : (l : Label) (ls : List Label) → l.var ≡ leader → AllByRecursion (λ m. m.var ≢ leader) ls → rows_of vs start (l ∷ ls) ≡ start ∷ []
      one l ls led others =
          ap (λ b. cond b (start ∷ rows_of vs (start + 1) ls) (rows_of vs (start + 1) ls)) (subst (λ v. includes vs v ≡ true) (sym led) own)
          ∙ ap (λ rows. start ∷ rows) (none_of leader vs only (start + 1) ls others)

      go : (ls : List Label) → IsLedBy leader (ls ++ label ∷ []) → IsFirstAlone leader (ls ++ label ∷ []) → rows_of vs start (ls ++ label ∷ []) ≡ start ∷ []
      go [] led others = one label [] led tt
      go (l ∷ ls) led others = one l (ls ++ label ∷ []) led others

  listed_begins : (is_final : Bool) (f : Function) (vs : Variables) → lists_rows f ≡ true → includes vs leader ≡ true → BeginIn start (listed f (rows_of vs start (seen_labels there is_final)))
  listed_begins is_final Listed vs lists own = leader_begins is_final vs own
  listed_begins is_final RowCount vs lists own = absurd (cc)
  listed_begins is_final (Count c) vs lists own = absurd (cc)
  listed_begins is_final (Sum c) vs lists own = absurd (cc)
  listed_begins is_final (Min c) vs lists own = absurd (cc)
  listed_begins is_final (Max c) vs lists own = absurd (cc)

  total_begins : (is_final : Bool) (o : Option Total) → lists_rows_of leader o ≡ true → BeginIn start (rows_listed there is_final o)
  total_begins is_final None own = absurd (cc)
  total_begins is_final (Some t) own =
      let both = and_parts (lists_rows t.function) (includes t.variables leader) own in
      listed_begins is_final t.function t.variables both.0 both.1

  among_begins : (is_final : Bool) (rows : RowsOf) → has_own_row s.totals leader rows ≡ true → BeginIn start (rows_among there is_final rows)
  among_begins is_final EveryRow own = leader_begins is_final Universal refl
  among_begins is_final (ListedBy number) own = total_begins is_final (slice_get s.totals number) own

  listed_alone : (is_final : Bool) (f : Function) (vs : Variables) → lists_rows f ≡ true → includes vs leader ≡ true → is_only leader vs ≡ true → alone ≡ true →
      listed f (rows_of vs start (seen_labels there is_final)) ≡ start ∷ []
  listed_alone is_final Listed vs lists own only once = leader_alone is_final vs own only once
  listed_alone is_final RowCount vs lists own only once = absurd (cc)
  listed_alone is_final (Count c) vs lists own only once = absurd (cc)
  listed_alone is_final (Sum c) vs lists own only once = absurd (cc)
  listed_alone is_final (Min c) vs lists own only once = absurd (cc)
  listed_alone is_final (Max c) vs lists own only once = absurd (cc)

  total_alone : (is_final : Bool) (o : Option Total) → lists_rows_of leader o ≡ true → is_of_only leader o ≡ true → alone ≡ true → rows_listed there is_final o ≡ start ∷ []
  total_alone is_final None own only once = absurd (cc)
  total_alone is_final (Some t) own only once =
      let both = and_parts (lists_rows t.function) (includes t.variables leader) own in
      listed_alone is_final t.function t.variables both.0 both.1 only once

  among_alone : (is_final : Bool) (rows : RowsOf) → has_own_row s.totals leader rows ≡ true → has_no_other s.totals leader rows ≡ true → alone ≡ true → rows_among there is_final rows ≡ start ∷ []
  among_alone is_final EveryRow own only once = absurd (cc)
  among_alone is_final (ListedBy number) own only once = total_alone is_final (slice_get s.totals number) own only once

  first_is : (edge : Edge) (places : ℕ) (rows : List ℕ) → is_first edge places ≡ true → BeginIn start rows → place_in edge places rows ≡ Some start
  first_is First places rows first begin =
      let none : places ≡ 0 = eqb-true places 0 first in
      ap (slice_get rows) none ∙ ap (λ z. slice_get z 0) begin.is
  first_is Last places rows first begin = absurd (cc)

  only_is : (edge : Edge) (places : ℕ) (rows : List ℕ) → nat_eq places 0 ≡ true → rows ≡ start ∷ [] → place_in edge places rows ≡ Some start
  only_is First places rows none only = ap (slice_get rows) (eqb-true places 0 none) ∙ ap (λ z. slice_get z 0) only
  only_is Last places rows none only = ap (slice_get (reverse rows)) (eqb-true places 0 none) ∙ ap (λ z. slice_get (reverse z) 0) only

  -- a navigation that names the first row goes from there
  pub leader_cell : (n : Route) → goes_from_leader leader alone s.totals n ≡ true → navigated there n ≡ cell_from s.rows s.ending n.column n.step (Some start)
  leader_cell n pass =
      let both = and_parts (has_own_row s.totals leader n.rows_of) (is_first n.edge n.places || alone && nat_eq n.places 0 && has_no_other s.totals leader n.rows_of) pass in
      ap (cell_from s.rows s.ending n.column n.step)
      (go both.0 (or_cases (is_first n.edge n.places) (alone && nat_eq n.places 0 && has_no_other s.totals leader n.rows_of) both.1))
    where
      go : has_own_row s.totals leader n.rows_of ≡ true →
          (is_first n.edge n.places ≡ true) ⊎ ((alone && nat_eq n.places 0 && has_no_other s.totals leader n.rows_of) ≡ true) →
          place_in n.edge n.places (rows_among there n.is_final n.rows_of) ≡ Some start
      go own (inl first) = first_is n.edge n.places (rows_among there n.is_final n.rows_of) first (among_begins n.is_final n.rows_of own)
      go own (inr only) =
          let both = and_parts (alone && nat_eq n.places 0) (has_no_other s.totals leader n.rows_of) only in
          let none = and_parts alone (nat_eq n.places 0) both.0 in
          only_is n.edge n.places (rows_among there n.is_final n.rows_of) none.1 (among_alone n.is_final n.rows_of own both.1 none.0)

pub leaders_decide : LeadersDecide
leaders_decide leader alone s start before before' label c pass size headed headed' =
    judged_same (looks_in (Led leader alone) s.totals label.var) (at_last s start before label) (at_last s start before' label)
    (record {
      cells = λ n pass. cell n (or_cases (navigates_in_span s.totals label.var n) (goes_from_leader leader alone s.totals n) pass);
      aggregates = λ number is_final every. span_aggregate s start before before' label size is_final (slice_get s.totals number) every;
      numbers = refl;
      names = λ names. own_name s start before label names ∙ sym (own_name s start before' label names);
    }) c pass
  where
    cell : (n : Route) → (navigates_in_span s.totals label.var n ≡ true) ⊎ (goes_from_leader leader alone s.totals n ≡ true) →
        navigated (at_last s start before label) n ≡ navigated (at_last s start before' label) n
    cell n (inl span) = span_cell s start before before' label size n span
    cell n (inr named) = leader_cell leader alone s start before label headed n named ∙ sym (leader_cell leader alone s start before' label headed' n named)
