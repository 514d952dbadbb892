-- Values and judgements by formulas.
use Rattle.std.proofs.Common.{◌≡◌, ℕ, pos, ◌+◌, Bool, true, cond, List, [], ◌∷◌, map, Option, Some, None, refl, sym, ap, ◌∙◌, subst}
use Rattle.std.specs.Prelude.{nat_eq, slice_get}
use Rattle.std.specs.List.{list_any}
use Rattle.std.specs.Option.{option_map}
use Rattle.std.proofs.lemmas.Option.{slice_get-map}
use Rattle.rp_value.specs.Arithmetic.{fitted}
use Rattle.rp_value.specs.Truth.{judged_conjunction, judged_disjunction, judged_negation}
use Rattle.rp_value.specs.declared.value.Value.{Value}
use Rattle.rp_value.specs.declared.value.Value.TheVariants.{Null}
use Rattle.rp_value.specs.declared.truth.Judged.{Judged}
use Rattle.rp_value.specs.declared.truth.Judged.TheVariants.{Open as OpenJudgement}
use Rattle.rp_words.specs.declared.word.Label.{Label}
use Rattle.rp_query.specs.declared.plan.Variables.{Variables}
use Rattle.rp_query.specs.declared.plan.Variables.TheVariants.{Universal, Among}
use Rattle.rp_query.specs.declared.plan.RowsOf.{RowsOf}
use Rattle.rp_query.specs.declared.plan.RowsOf.TheVariants.{Universal as EveryRow, Listed as ListedBy}
use Rattle.rp_query.specs.declared.plan.Total.{Total}
use Rattle.rp_query.specs.declared.plan.Expr.{Expr}
use Rattle.rp_query.specs.declared.plan.Expr.TheOpen.{Expr-F, Literal, Navigation, Aggregate, MatchNumber, Classifier, Arithmetic}
use Rattle.rp_query.specs.declared.plan.Expr.TheViews.{roll-Expr}
use Rattle.rp_query.specs.declared.plan.Expr.TheFolds.{map-Expr, fold-roll-Expr, ind-Expr}
use Rattle.rp_query.specs.declared.plan.Condition.{Condition}
use Rattle.rp_query.specs.declared.plan.Condition.TheOpen.{Condition-F, Compare, IsNull, Not, And, Or}
use Rattle.rp_query.specs.declared.plan.Condition.TheViews.{roll-Condition}
use Rattle.rp_query.specs.declared.plan.Condition.TheFolds.{map-Condition, fold-roll-Condition, ind-Condition}
use Rattle.rp_query.specs.Formulas as F
use Rattle.rp_query.specs.Formulas.{Formula, PlainTotal, plain_total, members_of, value_formula, condition_formula}
use Rattle.rp_eval.specs.declared.cell.Cell.{Cell}
use Rattle.rp_eval.specs.declared.cell.Cell.TheVariants.{Ready, Open}
use Rattle.rp_eval.specs.Mapped.{rows_of, place_in, listed}
use Rattle.rp_eval.specs.Aggregated.{aggregate}
use Rattle.rp_eval.specs.ValueOf.{Setting, seen_labels, rows_listed, rows_among, cell_from, aggregated, classified, calculated, value_step, value_of, compared_cells, is_null, judged_step, judged}
use Rattle.rp_eval.specs.ByFormula.{by, ValuesFollow, JudgementsFollow}

-- ---- what a formula comes to

abbrev pub is_of : Option (List ℕ) → ℕ → Bool
is_of None var = true
is_of (Some members) var = list_any (nat_eq var) members

abbrev pub rows_by : Option (List ℕ) → ℕ → List Label → List ℕ
rows_by members row [] = []
rows_by members row (l ∷ ls) = cond (is_of members l.var) (row ∷ rows_by members (row + 1) ls) (rows_by members (row + 1) ls)

abbrev pub listed_by : Setting → Bool → Option PlainTotal → List ℕ
listed_by s is_final None = []
listed_by s is_final (Some k) = listed k.function (rows_by k.members s.start (seen_labels s is_final))

abbrev pub aggregate_by : Setting → Bool → Option PlainTotal → Value
aggregate_by s is_final None = Null
aggregate_by s is_final (Some k) = aggregate s.rows k.function (rows_by k.members s.start (seen_labels s is_final))

abbrev pub among_by : Setting → List PlainTotal → Bool → RowsOf → List ℕ
among_by s ks is_final EveryRow = rows_of Universal s.start (seen_labels s is_final)
among_by s ks is_final (ListedBy number) = listed_by s is_final (slice_get ks number)

-- no condition has a value
abbrev pub formula_value : Setting → List PlainTotal → Formula → Cell
formula_value s ks (F.Literal v) = Ready v
formula_value s ks (F.Cell n) = cell_from s.rows s.ending n.column n.step (place_in n.edge n.places (among_by s ks n.is_final n.rows_of))
formula_value s ks (F.Aggregated number is_final) = Ready (aggregate_by s is_final (slice_get ks number))
formula_value s ks F.MatchNumber = Ready (fitted (pos s.number))
formula_value s ks (F.Classifier names) = Ready (classified s names)
formula_value s ks (F.Arithmetic o a b) = calculated o (formula_value s ks a) (formula_value s ks b)
formula_value s ks _ = Open

-- no value is judged
abbrev formula_judged : Setting → List PlainTotal → Formula → Judged
formula_judged s ks (F.Compare o a b) = compared_cells o (formula_value s ks a) (formula_value s ks b)
formula_judged s ks (F.IsNull a) = is_null (formula_value s ks a)
formula_judged s ks (F.Not a) = judged_negation (formula_judged s ks a)
formula_judged s ks (F.And a b) = judged_conjunction (formula_judged s ks a) (formula_judged s ks b)
formula_judged s ks (F.Or a b) = judged_disjunction (formula_judged s ks a) (formula_judged s ks b)
formula_judged s ks _ = OpenJudgement

-- ---- what a plan's total comes to

rows_are : (vs : Variables) (row : ℕ) (ls : List Label) → rows_of vs row ls ≡ rows_by (members_of vs) row ls
rows_are vs row [] = refl
rows_are Universal row (l ∷ ls) = ap (λ r. row ∷ r) (rows_are Universal (row + 1) ls)
rows_are (Among members) row (l ∷ ls) = ap (λ r. cond (list_any (nat_eq l.var) members.items) (row ∷ r) r) (rows_are (Among members) (row + 1) ls)

-- the setting without its plan
abbrev pub bare : Setting → Setting
bare s = by s []

listed_are : (s : Setting) (is_final : Bool) (o : Option Total) → rows_listed s is_final o ≡ listed_by (bare s) is_final (option_map plain_total o)
listed_are s is_final None = refl
listed_are s is_final (Some t) = ap (listed t.function) (rows_are t.variables s.start (seen_labels s is_final))

aggregated_are : (s : Setting) (is_final : Bool) (o : Option Total) → aggregated s is_final o ≡ aggregate_by (bare s) is_final (option_map plain_total o)
aggregated_are s is_final None = refl
aggregated_are s is_final (Some t) = ap (aggregate s.rows t.function) (rows_are t.variables s.start (seen_labels s is_final))

among_are : (s : Setting) (is_final : Bool) (r : RowsOf) → rows_among s is_final r ≡ among_by (bare s) (map plain_total s.totals) is_final r
among_are s is_final EveryRow = refl
among_are s is_final (ListedBy number) = listed_are s is_final (slice_get s.totals number) ∙ ap (listed_by (bare s) is_final) (sym (slice_get-map plain_total s.totals number))

module _ (s : Setting) where
  abbrev pub kept : List PlainTotal
  kept = map plain_total s.totals

  abbrev Follows : Expr → Type 0
  Follows x = value_of s x ≡ formula_value (bare s) kept (value_formula x)

  layer_follows : (y : Expr-F ((x : Expr) × Follows x)) →
      value_step s (map-Expr Expr Cell (value_of s) (map-Expr ((x : Expr) × Follows x) Expr (λ t. t.0) y))
      ≡ formula_value (bare s) kept (F.value_step (map-Expr Expr Formula value_formula (map-Expr ((x : Expr) × Follows x) Expr (λ t. t.0) y)))
  layer_follows (Literal v) = refl
  layer_follows (Navigation n) = ap (λ rows. cell_from s.rows s.ending n.column n.step (place_in n.edge n.places rows)) (among_are s n.is_final n.rows_of)
  layer_follows (Aggregate number is_final) = ap Ready (aggregated_are s is_final (slice_get s.totals number) ∙ ap (aggregate_by (bare s) is_final) (sym (slice_get-map plain_total s.totals number)))
  layer_follows MatchNumber = refl
  layer_follows (Classifier names) = refl
  layer_follows (Arithmetic o a b) = ap (λ z. calculated o z (value_of s b.value.0)) a.value.1 ∙ ap (λ z. calculated o (formula_value (bare s) kept (value_formula a.value.0)) z) b.value.1

  pub value_follows : (x : Expr) → Follows x
  value_follows = ind-Expr Follows (λ x y is.
      subst (λ z. Follows (roll-Expr z)) is
      (rw (
        fold-roll-Expr Cell (value_step s) (map-Expr ((x : Expr) × Follows x) Expr (λ t. t.0) y),
        fold-roll-Expr Formula F.value_step (map-Expr ((x : Expr) × Follows x) Expr (λ t. t.0) y),
      ) (layer_follows y)))

  abbrev FollowsToo : Condition → Type 0
  FollowsToo c = judged s c ≡ formula_judged (bare s) kept (condition_formula c)

  layer_follows_too : (y : Condition-F ((c : Condition) × FollowsToo c)) →
      judged_step s (map-Condition Condition Judged (judged s) (map-Condition ((c : Condition) × FollowsToo c) Condition (λ t. t.0) y))
      ≡ formula_judged (bare s) kept (F.condition_step (map-Condition Condition Formula condition_formula (map-Condition ((c : Condition) × FollowsToo c) Condition (λ t. t.0) y)))
  layer_follows_too (Compare o a b) = ap (λ z. compared_cells o z (value_of s b)) (value_follows a) ∙ ap (λ z. compared_cells o (formula_value (bare s) kept (value_formula a)) z) (value_follows b)
  layer_follows_too (IsNull a) = ap is_null (value_follows a)
  layer_follows_too (Not a) = ap judged_negation a.value.1
  layer_follows_too (And a b) = ap (λ z. judged_conjunction z (judged s b.value.0)) a.value.1 ∙ ap (λ z. judged_conjunction (formula_judged (bare s) kept (condition_formula a.value.0)) z) b.value.1
  layer_follows_too (Or a b) = ap (λ z. judged_disjunction z (judged s b.value.0)) a.value.1 ∙ ap (λ z. judged_disjunction (formula_judged (bare s) kept (condition_formula a.value.0)) z) b.value.1

  judgement_follows : (c : Condition) → FollowsToo c
  judgement_follows = ind-Condition FollowsToo (λ x y is.
      subst (λ z. FollowsToo (roll-Condition z)) is
      (rw (
        fold-roll-Condition Judged (judged_step s) (map-Condition ((c : Condition) × FollowsToo c) Condition (λ t. t.0) y),
        fold-roll-Condition Formula F.condition_step (map-Condition ((c : Condition) × FollowsToo c) Condition (λ t. t.0) y),
      ) (layer_follows_too y)))

pub values_follow : ValuesFollow
values_follow s ts x y plans formulas =
    value_follows (by s ts) y
    ∙ ap (λ ks. formula_value (bare s) ks (value_formula y)) plans
    ∙ ap (formula_value (bare s) (map plain_total s.totals)) formulas
    ∙ sym (value_follows s x)

pub judgements_follow : JudgementsFollow
judgements_follow s ts c d plans formulas =
    judgement_follows (by s ts) d
    ∙ ap (λ ks. formula_judged (bare s) ks (condition_formula d)) plans
    ∙ ap (formula_judged (bare s) (map plain_total s.totals)) formulas
    ∙ sym (judgement_follows s c)
