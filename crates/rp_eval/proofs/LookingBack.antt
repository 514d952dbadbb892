-- What looks at no row after the ones that it goes from is told on known rows.
use Rattle.std.proofs.Common.{◌≡◌, ◌≢◌, ℕ, ◌+◌, ◌-◌, ◌≤◌, Bool, true, false, cond, length, Option, Some, None, refl, subst, arith}
use Rattle.std.specs.Prelude.{nat_le, nat_lt, IfSome}
use Rattle.std.proofs.lemmas.Bool.{and_parts, eqb-true}
use Rattle.std.proofs.lemmas.Bool.Decides.{nat_tests}
use Rattle.rp_value.specs.declared.value.Value.TheVariants.{Null}
use Rattle.rp_value.specs.declared.truth.Judged.{Judged}
use Rattle.rp_value.specs.declared.truth.Judged.TheVariants.{Open as OpenJudgement}
use Rattle.rp_words.specs.declared.word.End.{End}
use Rattle.rp_query.specs.declared.plan.Navigation.{Navigation as Route}
use Rattle.rp_query.specs.declared.plan.Step.{Step}
use Rattle.rp_query.specs.declared.plan.Step.TheVariants.{Back, Ahead}
use Rattle.rp_query.specs.declared.plan.Expr.{Expr}
use Rattle.rp_query.specs.declared.plan.Expr.TheOpen.{Expr-F, Literal, Navigation, Aggregate, MatchNumber, Classifier, Arithmetic}
use Rattle.rp_query.specs.declared.plan.Expr.TheViews.{roll-Expr}
use Rattle.rp_query.specs.declared.plan.Expr.TheFolds.{map-Expr, fold-roll-Expr, ind-Expr}
use Rattle.rp_query.specs.declared.plan.Condition.{Condition}
use Rattle.rp_query.specs.declared.plan.Condition.TheOpen.{Condition-F, Compare, IsNull, Not, And, Or}
use Rattle.rp_query.specs.declared.plan.Condition.TheViews.{roll-Condition}
use Rattle.rp_query.specs.declared.plan.Condition.TheFolds.{map-Condition, fold-roll-Condition, ind-Condition}
use Rattle.rp_query.specs.Formulas as F
use Rattle.rp_query.specs.Formulas.{Formula, value_formula, condition_formula}
use Rattle.rp_query.specs.LooksBack.{goes_back, looks_back}
use Rattle.rp_eval.specs.declared.cell.Cell.{Cell}
use Rattle.rp_eval.specs.declared.cell.Cell.TheVariants.{Ready, Open}
use Rattle.rp_eval.specs.Closing.{if_closes, null_ready, ready, calculated_closes, compared_closes, null_closes, negation_closes, conjunction_closes, disjunction_closes}
use Rattle.rp_eval.specs.Laws.{LookingBackTells}
use Rattle.rp_eval.specs.Mapped.{place_in}
use Rattle.rp_eval.specs.Partition.{Rows, cell}
use Rattle.rp_eval.specs.ValueOf.{Setting, rows_among, navigated, value_of, value_step, cell_there, cell_from, past_the_end, judged, judged_step}
use Rattle.rp_eval.proofs.Growing.{reaches_among}
use Rattle.rp_eval.proofs.MappedRows.{place_each}

-- a known row's cell is ready
there_ready : (p : Rows) (e : End) (c row : ℕ) → row ≤ length p → cell_there p e c row ≢ Open
there_ready p e c row known = go (nat_le row (length p)) refl
  where
    go : (b : Bool) → nat_le row (length p) ≡ b → cond b (Ready (cell p c row)) (past_the_end e) ≢ Open
    go true h = ready (cell p c row)
    go false h = absurd (grind (arith, nat_tests))

-- so is that of a row before it
from_ready : (p : Rows) (e : End) (c : ℕ) (step : Step) (o : Option ℕ) → goes_back step ≡ true → IfSome o (λ row. row ≤ length p) → cell_from p e c step o ≢ Open
from_ready p e c step None back known = null_ready
from_ready p e c (Ahead k) (Some row) back known = let none : k ≡ 0 = eqb-true k 0 back in there_ready p e c (row + k) (omega (arith, known, none))
from_ready p e c (Back k) (Some row) back known = if_closes (nat_lt k row) (cell_there p e c (row - k)) (Ready Null) (there_ready p e c (row - k) (omega (arith, known))) null_ready

module _ (s : Setting) (on : s.start + length s.labels ≤ length s.rows + 1) where
  navigated_ready : (n : Route) → goes_back n.step ≡ true → navigated s n ≢ Open
  navigated_ready n back =
      from_ready s.rows s.ending n.column n.step (place_in n.edge n.places (rows_among s n.is_final n.rows_of)) back
      (place_each (λ row. row ≤ length s.rows) n.edge n.places (rows_among s n.is_final n.rows_of) (reaches_among s n.is_final (λ row. row ≤ length s.rows) n.rows_of on (λ r le known. known)))

  abbrev ValueReady : Expr → Type 0
  ValueReady x = looks_back (value_formula x) ≡ true → value_of s x ≢ Open

  layer_ready : (y : Expr-F ((x : Expr) × ValueReady x)) →
      looks_back (F.value_step (map-Expr Expr Formula value_formula (map-Expr ((x : Expr) × ValueReady x) Expr (λ t. t.0) y))) ≡ true →
      value_step s (map-Expr Expr Cell (value_of s) (map-Expr ((x : Expr) × ValueReady x) Expr (λ t. t.0) y)) ≢ Open
  layer_ready (Literal v) back = ready _
  layer_ready (Navigation n) back = navigated_ready n back
  layer_ready (Aggregate number is_final) back = ready _
  layer_ready MatchNumber back = ready _
  layer_ready (Classifier names) back = ready _
  layer_ready (Arithmetic o x y) back =
      let both = and_parts (looks_back (value_formula x.value.0)) (looks_back (value_formula y.value.0)) back in
      calculated_closes o (value_of s x.value.0) (value_of s y.value.0) (x.value.1 both.0) (y.value.1 both.1)

  value_ready : (x : Expr) → ValueReady x
  value_ready = ind-Expr ValueReady (λ x y is.
      subst (λ z. ValueReady (roll-Expr z)) is
      (λ back. rw (fold-roll-Expr Cell (value_step s) (map-Expr ((x : Expr) × ValueReady x) Expr (λ t. t.0) y))
      (layer_ready y (rw (fold-roll-Expr Formula F.value_step (map-Expr ((x : Expr) × ValueReady x) Expr (λ t. t.0) y)) at back))))

  abbrev IsToldBack : Condition → Type 0
  IsToldBack c = looks_back (condition_formula c) ≡ true → judged s c ≢ OpenJudgement

  layer_told : (y : Condition-F ((c : Condition) × IsToldBack c)) →
      looks_back (F.condition_step (map-Condition Condition Formula condition_formula (map-Condition ((c : Condition) × IsToldBack c) Condition (λ t. t.0) y))) ≡ true →
      judged_step s (map-Condition Condition Judged (judged s) (map-Condition ((c : Condition) × IsToldBack c) Condition (λ t. t.0) y)) ≢ OpenJudgement
  layer_told (Compare o x y) back =
      let both = and_parts (looks_back (value_formula x)) (looks_back (value_formula y)) back in
      compared_closes o (value_of s x) (value_of s y) (value_ready x both.0) (value_ready y both.1)
  layer_told (IsNull x) back = null_closes (value_of s x) (value_ready x back)
  layer_told (Not c) back = negation_closes (judged s c.value.0) (c.value.1 back)
  layer_told (And c d) back =
      let both = and_parts (looks_back (condition_formula c.value.0)) (looks_back (condition_formula d.value.0)) back in
      conjunction_closes (judged s c.value.0) (judged s d.value.0) (c.value.1 both.0) (d.value.1 both.1)
  layer_told (Or c d) back =
      let both = and_parts (looks_back (condition_formula c.value.0)) (looks_back (condition_formula d.value.0)) back in
      disjunction_closes (judged s c.value.0) (judged s d.value.0) (c.value.1 both.0) (d.value.1 both.1)

  told_back : (c : Condition) → IsToldBack c
  told_back = ind-Condition IsToldBack (λ x y is.
      subst (λ z. IsToldBack (roll-Condition z)) is
      (λ back. rw (fold-roll-Condition Judged (judged_step s) (map-Condition ((c : Condition) × IsToldBack c) Condition (λ t. t.0) y))
      (layer_told y (rw (fold-roll-Condition Formula F.condition_step (map-Condition ((c : Condition) × IsToldBack c) Condition (λ t. t.0) y)) at back))))

pub looking_back_tells : LookingBackTells
looking_back_tells s c on back = told_back s on c back
