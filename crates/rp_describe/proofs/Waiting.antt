-- A condition is told where as many rows are known behind its own as it looks ahead.
use Rattle.std.proofs.Common.{◌≡◌, ◌≢◌, ℕ, ◌+◌, ◌-◌, ◌≤◌, max, Bool, true, false, cond, List, length, drop, Option, Some, None, IfSome, refl, subst, arith}
use Rattle.std.specs.Prelude.{nat_le, nat_lt, slice_get}
use Rattle.std.specs.List.{AllByRecursion}
use Rattle.std.proofs.lemmas.Bool.Decides.{nat_tests}
use Rattle.std.proofs.lemmas.List.{length-drop}
use Rattle.rp_value.specs.declared.value.Value.TheVariants.{Null}
use Rattle.rp_value.specs.declared.truth.Judged.{Judged}
use Rattle.rp_value.specs.declared.truth.Judged.TheVariants.{Open as OpenJudgement}
use Rattle.rp_words.specs.declared.word.End.{End}
use Rattle.rp_query.specs.declared.locality.Leader.{Leader}
use Rattle.rp_query.specs.declared.plan.Navigation.{Navigation as Route}
use Rattle.rp_query.specs.declared.plan.RowsOf.{RowsOf}
use Rattle.rp_query.specs.declared.plan.RowsOf.TheVariants.{Universal, Listed}
use Rattle.rp_query.specs.declared.plan.Step.{Step}
use Rattle.rp_query.specs.declared.plan.Step.TheVariants.{Back, Ahead}
use Rattle.rp_query.specs.declared.plan.Total.{Total}
use Rattle.rp_query.specs.declared.plan.Expr.{Expr}
use Rattle.rp_query.specs.declared.plan.Expr.TheOpen as E
use Rattle.rp_query.specs.declared.plan.Expr.TheViews.{roll-Expr}
use Rattle.rp_query.specs.declared.plan.Expr.TheFolds.{map-Expr, fold-roll-Expr, ind-Expr}
use Rattle.rp_query.specs.declared.plan.Condition.{Condition}
use Rattle.rp_query.specs.declared.plan.Condition.TheOpen as C
use Rattle.rp_query.specs.declared.plan.Condition.TheViews.{roll-Condition}
use Rattle.rp_query.specs.declared.plan.Condition.TheFolds.{map-Condition, fold-roll-Condition, ind-Condition}
use Rattle.rp_query.specs.Formulas as F
use Rattle.rp_query.specs.Formulas.{Formula, value_formula, condition_formula}
use Rattle.rp_query.specs.Locality.{goes_from_own_row}
use Rattle.rp_eval.specs.declared.cell.Cell.{Cell}
use Rattle.rp_eval.specs.declared.cell.Cell.TheVariants.{Ready, Open}
use Rattle.rp_eval.specs.Closing.{if_closes, null_ready, ready, calculated_closes, compared_closes, null_closes, negation_closes, conjunction_closes, disjunction_closes}
use Rattle.rp_eval.specs.Laws.{over}
use Rattle.rp_eval.specs.Mapped.{place_in}
use Rattle.rp_eval.specs.Partition.{Rows, cell}
use Rattle.rp_eval.specs.ValueOf.{Setting, rows_listed, rows_among, navigated, value_of, value_step, cell_there, cell_from, past_the_end, judged, judged_step}
use Rattle.rp_eval.proofs.Growing.{reaches_among}
use Rattle.rp_eval.proofs.MappedRows.{place_each}
use Rattle.rp_describe.specs.Looks.{rows_ahead, looks_from, leads_to, looks_of}
use Rattle.rp_describe.specs.Said.{WaitsFor}

-- a known row's cell is ready
there_ready : (p : Rows) (e : End) (c row : ℕ) → row ≤ length p → cell_there p e c row ≢ Open
there_ready p e c row known = go (nat_le row (length p)) refl
  where
    go : (b : Bool) → nat_le row (length p) ≡ b → cond b (Ready (cell p c row)) (past_the_end e) ≢ Open
    go true h = ready (cell p c row)
    go false h = absurd (grind (arith, nat_tests))

-- so is one so many rows from a row, where as many behind that one are known
from_ready : (p : Rows) (e : End) (c k : ℕ) (step : Step) (o : Option ℕ) → rows_ahead step ≤ k → IfSome o (λ row. row + k ≤ length p) → cell_from p e c step o ≢ Open
from_ready p e c k step None near known = null_ready
from_ready p e c k (Ahead j) (Some row) near known = there_ready p e c (row + j) (omega (arith, known, near))
from_ready p e c k (Back j) (Some row) near known = if_closes (nat_lt j row) (cell_there p e c (row - j)) (Ready Null) (there_ready p e c (row - j) (omega (arith, known))) null_ready

listed_same : (s : Setting) (p : Rows) (is_final : Bool) (o : Option Total) → rows_listed (over s p s.ending) is_final o ≡ rows_listed s is_final o
listed_same s p is_final None = refl
listed_same s p is_final (Some t) = refl

among_same : (s : Setting) (p : Rows) (is_final : Bool) (rows : RowsOf) → rows_among (over s p s.ending) is_final rows ≡ rows_among s is_final rows
among_same s p is_final Universal = refl
among_same s p is_final (Listed number) = listed_same s p is_final (slice_get s.totals number)

ahead_from : (own is_first : Bool) (step : Step) → (looks_from own is_first step).ahead ≡ rows_ahead step
ahead_from true is_first step = refl
ahead_from false true step = refl
ahead_from false false step = refl

least_left : (a b k : ℕ) → max a b ≤ k → a ≤ k
least_left a b k h = omega (arith, h)

least_right : (a b k : ℕ) → max a b ≤ k → b ≤ k
least_right a b k h = omega (arith, h)

module _ (lead : Option Leader) (totals : List Total) (variable : ℕ) where
  abbrev ahead : Formula → ℕ
  ahead x = (looks_of lead totals variable x).ahead

  module _ (k : ℕ) (s : Setting) (one : 1 ≤ s.start) (on : s.start + length s.labels + k ≤ length s.rows + 1) where
    -- so many rows are known behind each among which places are counted
    behind_each : (is_final : Bool) (rows : RowsOf) → AllByRecursion (λ row. row + k ≤ length s.rows) (rows_among s is_final rows)
    behind_each is_final rows =
        let left : length (drop k s.rows) ≡ length s.rows - k = length-drop k s.rows in
        subst (AllByRecursion (λ row. row + k ≤ length s.rows)) (among_same s (drop k s.rows) is_final rows)
        (reaches_among (over s (drop k s.rows) s.ending) is_final (λ row. row + k ≤ length s.rows) rows (omega (arith, left, on)) (λ row from to. omega (arith, left, on, one, from, to)))

    navigated_ready : (n : Route) → rows_ahead n.step ≤ k → navigated s n ≢ Open
    navigated_ready n near =
        from_ready s.rows s.ending n.column k n.step (place_in n.edge n.places (rows_among s n.is_final n.rows_of)) near
        (place_each (λ row. row + k ≤ length s.rows) n.edge n.places (rows_among s n.is_final n.rows_of) (behind_each n.is_final n.rows_of))

    abbrev ValueReady : Expr → Type 0
    ValueReady x = ahead (value_formula x) ≤ k → value_of s x ≢ Open

    layer_ready : (y : E.Expr-F ((x : Expr) × ValueReady x)) →
        ahead (F.value_step (map-Expr Expr Formula value_formula (map-Expr ((x : Expr) × ValueReady x) Expr (λ t. t.0) y))) ≤ k →
        value_step s (map-Expr Expr Cell (value_of s) (map-Expr ((x : Expr) × ValueReady x) Expr (λ t. t.0) y)) ≢ Open
    layer_ready (E.Literal v) near = ready _
    layer_ready (E.Navigation n) near =
        let same = ahead_from (goes_from_own_row totals variable n) (leads_to lead totals n) n.step in
        navigated_ready n (omega (arith, same, near))
    layer_ready (E.Aggregate number is_final) near = ready _
    layer_ready E.MatchNumber near = ready _
    layer_ready (E.Classifier names) near = ready _
    layer_ready (E.Arithmetic o x y) near =
        calculated_closes o (value_of s x.value.0) (value_of s y.value.0)
        (x.value.1 (least_left (ahead (value_formula x.value.0)) (ahead (value_formula y.value.0)) k near)) (y.value.1 (least_right (ahead (value_formula x.value.0)) (ahead (value_formula y.value.0)) k near))

    value_ready : (x : Expr) → ValueReady x
    value_ready = ind-Expr ValueReady (λ x y is.
        subst (λ z. ValueReady (roll-Expr z)) is
        (λ near. rw (fold-roll-Expr Cell (value_step s) (map-Expr ((x : Expr) × ValueReady x) Expr (λ t. t.0) y))
        (layer_ready y (rw (fold-roll-Expr Formula F.value_step (map-Expr ((x : Expr) × ValueReady x) Expr (λ t. t.0) y)) at near))))

    abbrev IsTold : Condition → Type 0
    IsTold c = ahead (condition_formula c) ≤ k → judged s c ≢ OpenJudgement

    layer_told : (y : C.Condition-F ((c : Condition) × IsTold c)) →
        ahead (F.condition_step (map-Condition Condition Formula condition_formula (map-Condition ((c : Condition) × IsTold c) Condition (λ t. t.0) y))) ≤ k →
        judged_step s (map-Condition Condition Judged (judged s) (map-Condition ((c : Condition) × IsTold c) Condition (λ t. t.0) y)) ≢ OpenJudgement
    layer_told (C.Compare o x y) near =
        compared_closes o (value_of s x) (value_of s y)
        (value_ready x (least_left (ahead (value_formula x)) (ahead (value_formula y)) k near)) (value_ready y (least_right (ahead (value_formula x)) (ahead (value_formula y)) k near))
    layer_told (C.IsNull x) near = null_closes (value_of s x) (value_ready x near)
    layer_told (C.Not c) near = negation_closes (judged s c.value.0) (c.value.1 near)
    layer_told (C.And c d) near =
        conjunction_closes (judged s c.value.0) (judged s d.value.0)
        (c.value.1 (least_left (ahead (condition_formula c.value.0)) (ahead (condition_formula d.value.0)) k near)) (d.value.1 (least_right (ahead (condition_formula c.value.0)) (ahead (condition_formula d.value.0)) k near))
    layer_told (C.Or c d) near =
        disjunction_closes (judged s c.value.0) (judged s d.value.0)
        (c.value.1 (least_left (ahead (condition_formula c.value.0)) (ahead (condition_formula d.value.0)) k near)) (d.value.1 (least_right (ahead (condition_formula c.value.0)) (ahead (condition_formula d.value.0)) k near))

    told : (c : Condition) → IsTold c
    told = ind-Condition IsTold (λ x y is.
        subst (λ z. IsTold (roll-Condition z)) is
        (λ near. rw (fold-roll-Condition Judged (judged_step s) (map-Condition ((c : Condition) × IsTold c) Condition (λ t. t.0) y))
        (layer_told y (rw (fold-roll-Condition Formula F.condition_step (map-Condition ((c : Condition) × IsTold c) Condition (λ t. t.0) y)) at near))))

  pub waits_for : (c : Condition) → WaitsFor (looks_of lead totals variable (condition_formula c)).ahead c
  waits_for c s one on = told (ahead (condition_formula c)) s one on c (omega arith)
