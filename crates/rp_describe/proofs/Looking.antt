-- What a condition looks at, and on what it is known to depend.
use Rattle.std.proofs.Common.{◌≡◌, ℕ, ◌≤◌, max, Bool, true, false, ◌&&◌, ◌||◌, List, Option, Some, None, ◌⊎◌, inl, inr, refl, subst, arith}
use Rattle.std.proofs.lemmas.Bool.{or_parts}
use Rattle.rp_query.specs.declared.locality.Leader.{Leader}
use Rattle.rp_query.specs.declared.locality.Locality.TheVariants.{Row, Led}
use Rattle.rp_query.specs.declared.plan.Condition.{Condition}
use Rattle.rp_query.specs.declared.plan.Condition.TheOpen as C
use Rattle.rp_query.specs.declared.plan.Condition.TheViews.{roll-Condition}
use Rattle.rp_query.specs.declared.plan.Condition.TheFolds.{map-Condition, fold-roll-Condition, ind-Condition}
use Rattle.rp_query.specs.declared.plan.Expr.{Expr}
use Rattle.rp_query.specs.declared.plan.Expr.TheOpen as E
use Rattle.rp_query.specs.declared.plan.Expr.TheViews.{roll-Expr}
use Rattle.rp_query.specs.declared.plan.Expr.TheFolds.{map-Expr, fold-roll-Expr, ind-Expr}
use Rattle.rp_query.specs.declared.plan.Step.{Step}
use Rattle.rp_query.specs.declared.plan.Total.{Total}
use Rattle.rp_query.specs.Formulas.{Formula, Literal, Cell, Aggregated, MatchNumber, Classifier, Arithmetic, Compare, IsNull, Not, And, Or, value_formula, condition_formula, value_step, condition_step}
use Rattle.rp_query.specs.Locality.{goes_from_own_row, goes_from_leader, is_every_row, is_local}
use Rattle.rp_query.specs.Reach.{reach, reach_step, condition_reach, condition_reach_step, rows_back}
use Rattle.rp_describe.specs.declared.looks.Looks.{Looks}
use Rattle.rp_describe.specs.Looks.{together, looks_from, leads_to, looks_of}

both_true : (a b : Bool) → a ≡ true → b ≡ true → (a && b) ≡ true
both_true true b h k = k
both_true false b h k = h

-- at no row of the match but its own
pub record LooksNear (l : Looks) : Type 0 where
  pub first : l.first ≡ false
  pub elsewhere : l.elsewhere ≡ false

near_left : (a b : Looks) → LooksNear (together a b) → LooksNear a
near_left a b h = record { first = (or_parts a.first b.first h.first).0; elsewhere = (or_parts a.elsewhere b.elsewhere h.elsewhere).0 }

near_right : (a b : Looks) → LooksNear (together a b) → LooksNear b
near_right a b h = record { first = (or_parts a.first b.first h.first).1; elsewhere = (or_parts a.elsewhere b.elsewhere h.elsewhere).1 }

from_own : (own is_first : Bool) (step : Step) → LooksNear (looks_from own is_first step) → own ≡ true
from_own true is_first step near = refl
from_own false true step near = absurd (let h = near.first in cc)
from_own false false step near = absurd (let h = near.elsewhere in cc)

back_from : (own is_first : Bool) (step : Step) → LooksNear (looks_from own is_first step) → rows_back step ≤ (looks_from own is_first step).back
back_from true is_first step near = omega arith
back_from false true step near = absurd (let h = near.first in cc)
back_from false false step near = absurd (let h = near.elsewhere in cc)

either_true : (a b c : Bool) → a ≡ true ⊎ c ≡ true → (a || b || c) ≡ true
either_true true b c h = refl
either_true false true c h = refl
either_true false false c (inl h) = absurd (cc)
either_true false false c (inr h) = h

from_ends : (own is_first : Bool) (step : Step) → (looks_from own is_first step).elsewhere ≡ false → own ≡ true ⊎ is_first ≡ true
from_ends true is_first step none = inl refl
from_ends false true step none = inr refl
from_ends false false step none = absurd (cc)

-- what looks at no row of the match but its own and the first is local to them
module _ (l : Leader) (totals : List Total) (variable : ℕ) where
  abbrev led : Formula → Looks
  led x = looks_of (Some l) totals variable x

  abbrev is_led : Formula → Bool
  is_led x = is_local (Led l.variable l.alone) totals variable x

  both_led : (a b : Formula) → ((led a).elsewhere ≡ false → is_led a ≡ true) → ((led b).elsewhere ≡ false → is_led b ≡ true) → ((led a).elsewhere || (led b).elsewhere) ≡ false → (is_led a && is_led b) ≡ true
  both_led a b h k none = both_true (is_led a) (is_led b) (h (or_parts (led a).elsewhere (led b).elsewhere none).0) (k (or_parts (led a).elsewhere (led b).elsewhere none).1)

  pub local_led : (x : Formula) → (looks_of (Some l) totals variable x).elsewhere ≡ false → is_local (Led l.variable l.alone) totals variable x ≡ true
  local_led (Literal v) none = refl
  local_led (Cell n) none =
      either_true (goes_from_own_row totals variable n) (is_every_row n.rows_of) (goes_from_leader l.variable l.alone totals n)
      (from_ends (goes_from_own_row totals variable n) (goes_from_leader l.variable l.alone totals n) n.step none)
  local_led (Aggregated number is_final) none = absurd (cc)
  local_led MatchNumber none = refl
  local_led (Classifier names) none = refl
  local_led (Arithmetic o a b) none = both_led a b (local_led a) (local_led b) none
  local_led (Compare o a b) none = both_led a b (local_led a) (local_led b) none
  local_led (IsNull a) none = local_led a none
  local_led (Not a) none = local_led a none
  local_led (And a b) none = both_led a b (local_led a) (local_led b) none
  local_led (Or a b) none = both_led a b (local_led a) (local_led b) none

-- without a variable that leads, nothing looks at the first row
none_first : (own : Bool) (step : Step) → (looks_from own false step).first ≡ false
none_first true step = refl
none_first false step = refl

both_none : (a b : Bool) → a ≡ false → b ≡ false → (a || b) ≡ false
both_none true b h k = absurd (cc)
both_none false b h k = k

pub unled : (totals : List Total) (variable : ℕ) (x : Formula) → (looks_of None totals variable x).first ≡ false
unled totals variable (Literal v) = refl
unled totals variable (Cell n) = none_first (goes_from_own_row totals variable n) n.step
unled totals variable (Aggregated number is_final) = refl
unled totals variable MatchNumber = refl
unled totals variable (Classifier names) = refl
unled totals variable (Arithmetic o a b) = both_none (looks_of None totals variable a).first (looks_of None totals variable b).first (unled totals variable a) (unled totals variable b)
unled totals variable (Compare o a b) = both_none (looks_of None totals variable a).first (looks_of None totals variable b).first (unled totals variable a) (unled totals variable b)
unled totals variable (IsNull a) = unled totals variable a
unled totals variable (Not a) = unled totals variable a
unled totals variable (And a b) = both_none (looks_of None totals variable a).first (looks_of None totals variable b).first (unled totals variable a) (unled totals variable b)
unled totals variable (Or a b) = both_none (looks_of None totals variable a).first (looks_of None totals variable b).first (unled totals variable a) (unled totals variable b)

module _ (lead : Option Leader) (totals : List Total) (variable : ℕ) where
  abbrev at : Formula → Looks
  at x = looks_of lead totals variable x

  -- what looks at no other row of the match is local to its row
  pub local_near : (x : Formula) → LooksNear (looks_of lead totals variable x) → is_local Row totals variable x ≡ true
  local_near (Literal v) near = refl
  local_near (Cell n) near = from_own (goes_from_own_row totals variable n) (leads_to lead totals n) n.step near
  local_near (Aggregated number is_final) near = absurd (let h = near.elsewhere in cc)
  local_near MatchNumber near = refl
  local_near (Classifier names) near = refl
  local_near (Arithmetic o a b) near = both_true (is_local Row totals variable a) (is_local Row totals variable b) (local_near a (near_left (at a) (at b) near)) (local_near b (near_right (at a) (at b) near))
  local_near (Compare o a b) near = both_true (is_local Row totals variable a) (is_local Row totals variable b) (local_near a (near_left (at a) (at b) near)) (local_near b (near_right (at a) (at b) near))
  local_near (IsNull a) near = local_near a near
  local_near (Not a) near = local_near a near
  local_near (And a b) near = both_true (is_local Row totals variable a) (is_local Row totals variable b) (local_near a (near_left (at a) (at b) near)) (local_near b (near_right (at a) (at b) near))
  local_near (Or a b) near = both_true (is_local Row totals variable a) (is_local Row totals variable b) (local_near a (near_left (at a) (at b) near)) (local_near b (near_right (at a) (at b) near))

  -- what looks at no other row of the match reaches no further back than is said
  max_within : (m n a b : ℕ) → m ≤ a → n ≤ b → max m n ≤ max a b
  max_within m n a b h k = omega (arith, h, k)

  abbrev Within : Expr → Type 0
  Within x = LooksNear (at (value_formula x)) → reach x ≤ (at (value_formula x)).back

  layer_within : (y : E.Expr-F ((x : Expr) × Within x)) →
      LooksNear (at (value_step (map-Expr Expr Formula value_formula (map-Expr ((x : Expr) × Within x) Expr (λ t. t.0) y)))) →
      reach_step (map-Expr Expr ℕ reach (map-Expr ((x : Expr) × Within x) Expr (λ t. t.0) y))
      ≤ (at (value_step (map-Expr Expr Formula value_formula (map-Expr ((x : Expr) × Within x) Expr (λ t. t.0) y)))).back
  layer_within (E.Literal v) near = omega arith
  layer_within (E.Navigation n) near = back_from (goes_from_own_row totals variable n) (leads_to lead totals n) n.step near
  layer_within (E.Aggregate number is_final) near = omega arith
  layer_within E.MatchNumber near = omega arith
  layer_within (E.Classifier names) near = omega arith
  layer_within (E.Arithmetic o x y) near =
      let a = at (value_formula x.value.0) in
      let b = at (value_formula y.value.0) in
      max_within (reach x.value.0) (reach y.value.0) a.back b.back (x.value.1 (near_left a b near)) (y.value.1 (near_right a b near))

  within : (x : Expr) → Within x
  within = ind-Expr Within (λ x y is.
      subst (λ z. Within (roll-Expr z)) is
      (λ near. rw (fold-roll-Expr ℕ reach_step (map-Expr ((x : Expr) × Within x) Expr (λ t. t.0) y), fold-roll-Expr Formula value_step (map-Expr ((x : Expr) × Within x) Expr (λ t. t.0) y))
      (layer_within y (rw (fold-roll-Expr Formula value_step (map-Expr ((x : Expr) × Within x) Expr (λ t. t.0) y)) at near))))

  abbrev IsWithin : Condition → Type 0
  IsWithin c = LooksNear (at (condition_formula c)) → condition_reach c ≤ (at (condition_formula c)).back

  layer_is : (y : C.Condition-F ((c : Condition) × IsWithin c)) →
      LooksNear (at (condition_step (map-Condition Condition Formula condition_formula (map-Condition ((c : Condition) × IsWithin c) Condition (λ t. t.0) y)))) →
      condition_reach_step (map-Condition Condition ℕ condition_reach (map-Condition ((c : Condition) × IsWithin c) Condition (λ t. t.0) y))
      ≤ (at (condition_step (map-Condition Condition Formula condition_formula (map-Condition ((c : Condition) × IsWithin c) Condition (λ t. t.0) y)))).back
  layer_is (C.Compare o x y) near =
      let a = at (value_formula x) in
      let b = at (value_formula y) in
      max_within (reach x) (reach y) a.back b.back (within x (near_left a b near)) (within y (near_right a b near))
  layer_is (C.IsNull x) near = within x near
  layer_is (C.Not c) near = c.value.1 near
  layer_is (C.And c d) near =
      let a = at (condition_formula c.value.0) in
      let b = at (condition_formula d.value.0) in
      max_within (condition_reach c.value.0) (condition_reach d.value.0) a.back b.back (c.value.1 (near_left a b near)) (d.value.1 (near_right a b near))
  layer_is (C.Or c d) near =
      let a = at (condition_formula c.value.0) in
      let b = at (condition_formula d.value.0) in
      max_within (condition_reach c.value.0) (condition_reach d.value.0) a.back b.back (c.value.1 (near_left a b near)) (d.value.1 (near_right a b near))

  pub condition_within : (c : Condition) → IsWithin c
  condition_within = ind-Condition IsWithin (λ x y is.
      subst (λ z. IsWithin (roll-Condition z)) is
      (λ near. rw (fold-roll-Condition ℕ condition_reach_step (map-Condition ((c : Condition) × IsWithin c) Condition (λ t. t.0) y), fold-roll-Condition Formula condition_step (map-Condition ((c : Condition) × IsWithin c) Condition (λ t. t.0) y))
      (layer_is y (rw (fold-roll-Condition Formula condition_step (map-Condition ((c : Condition) × IsWithin c) Condition (λ t. t.0) y)) at near))))
