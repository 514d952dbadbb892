-- For how long a condition refuses a row.
use Rattle.std.proofs.Common.{◌≡◌, ◌≢◌, ℕ, ◌+◌, ◌<◌, ◌≤◌, List, [], ◌∷◌, ◌++◌, length, Option, Some, true, refl, sym, ap, ◌∙◌, subst, arith, ◌⊎◌, inl, inr}
use Rattle.std.proofs.Common.{◌-◌, false, length-append}
use Rattle.std.specs.Prelude.{get_or}
use Rattle.std.proofs.Math.Nat.{eq-or-lt_of_le}
use Rattle.rp_value.specs.declared.truth.Tri.TheVariants.{True, False, Unknown}
use Rattle.rp_value.specs.declared.truth.Judged.{Judged}
use Rattle.rp_value.specs.declared.truth.Judged.TheVariants.{Told, Open}
use Rattle.rp_value.specs.Truth.{judged_conjunction}
use Rattle.rp_words.specs.declared.word.End.{End}
use Rattle.rp_words.specs.declared.word.Label.{Label}
use Rattle.rp_words.specs.Leading.{IsHeadedBy}
use Rattle.rp_query.specs.declared.locality.Leader.{Leader}
use Rattle.rp_query.specs.declared.locality.Locality.TheVariants.{Row, Led}
use Rattle.rp_query.specs.declared.plan.Condition.{Condition}
use Rattle.rp_query.specs.declared.plan.Navigation.{Navigation as Route}
use Rattle.rp_query.specs.Formulas.{condition_formula}
use Rattle.rp_query.specs.Locality.{is_local, goes_from_own_row, goes_from_leader}
use Rattle.rp_eval.specs.declared.cell.Cell.{Cell}
use Rattle.rp_eval.specs.declared.lasting.Ends.{Ends}
use Rattle.rp_eval.specs.Partition.{Rows}
use Rattle.rp_eval.specs.ValueOf.{Setting, cell_after, judged}
use Rattle.rp_eval.specs.Locality.{at_last, between, GoneBetween, LeadersDecide, RefusesAt, RefusesBelow, RefusesUntil, RowsDecide}
use Rattle.rp_eval.proofs.Local.{own_cell, leader_cell}

-- ---- AND

left_refuses : (a b : Judged) → a ≢ Told True → judged_conjunction a b ≢ Told True
left_refuses (Told True) b h e = h refl
left_refuses (Told False) b h e = cc
left_refuses (Told Unknown) (Told True) h e = cc
left_refuses (Told Unknown) (Told False) h e = cc
left_refuses (Told Unknown) (Told Unknown) h e = cc
left_refuses (Told Unknown) Open h e = cc
left_refuses Open (Told True) h e = cc
left_refuses Open (Told False) h e = cc
left_refuses Open (Told Unknown) h e = cc
left_refuses Open Open h e = cc

right_refuses : (a b : Judged) → b ≢ Told True → judged_conjunction a b ≢ Told True
right_refuses a (Told True) h e = h refl
right_refuses (Told True) (Told False) h e = cc
right_refuses (Told False) (Told False) h e = cc
right_refuses (Told Unknown) (Told False) h e = cc
right_refuses Open (Told False) h e = cc
right_refuses (Told True) (Told Unknown) h e = cc
right_refuses (Told False) (Told Unknown) h e = cc
right_refuses (Told Unknown) (Told Unknown) h e = cc
right_refuses Open (Told Unknown) h e = cc
right_refuses (Told True) Open h e = cc
right_refuses (Told False) Open h e = cc
right_refuses (Told Unknown) Open h e = cc
right_refuses Open Open h e = cc

module _ (lead : Option Leader) (s : Setting) (both left right : Condition) (is : (z : Setting) → judged z both ≡ judged_conjunction (judged z left) (judged z right)) where
  pub by_left : (until : ℕ) → RefusesUntil lead s left until → RefusesUntil lead s both until
  by_left until h before label labels headed start before' le lt at there =
      subst (λ j. j ≢ Told True) (sym (is (at_last s start before' label))) (left_refuses (judged (at_last s start before' label) left) (judged (at_last s start before' label) right) (h before label labels headed start before' le lt at there))

  pub by_right : (until : ℕ) → RefusesUntil lead s right until → RefusesUntil lead s both until
  by_right until h before label labels headed start before' le lt at there =
      subst (λ j. j ≢ Told True) (sym (is (at_last s start before' label))) (right_refuses (judged (at_last s start before' label) left) (judged (at_last s start before' label) right) (h before label labels headed start before' le lt at there))

-- ---- a term

pub refuses_not_yet : (lead : Option Leader) (s : Setting) (c : Condition) → RefusesUntil lead s c s.start
refuses_not_yet lead s c before label labels headed start before' le lt at there = absurd (omega (arith, le, lt))

-- what is looked at from the last label's row
here_is : (s : Setting) (before : List Label) (label : Label) (c : Condition) → s.labels ≡ before ++ label ∷ [] → s.current ≡ s.start + length before → judged (at_last s s.start before label) c ≡ judged s c
here_is s before label c labels at =
    ap (λ (ls : List Label). judged (record s { labels = ls; current = s.start + length before }) c) (sym labels) ∙ ap (λ (k : ℕ). judged (record s { current = k }) c) (sym at)

module _ (lead : Option Leader) (s : Setting) (c : Condition) (refused : judged s c ≢ Told True) (size : (before : List Label) (label : Label) → s.labels ≡ before ++ label ∷ [] → s.current ≡ s.start + length before) where
  -- a term that judges its row alone
  pub refuses_always : RowsDecide → (var until : ℕ) → ((before : List Label) (label : Label) → s.labels ≡ before ++ label ∷ [] → label.var ≡ var) → is_local Row s.totals var (condition_formula c) ≡ true → RefusesUntil lead s c until
  refuses_always decide var until own local before label labels headed start before' le lt at there =
      subst (λ j. j ≢ Told True)
      (sym (here_is s before label c labels (size before label labels))
      ∙ decide s s.start start before before' label c (subst (λ v. is_local Row s.totals v (condition_formula c) ≡ true) (sym (own before label labels)) local) (sym at))
      refused

-- a term that may also look at the first row
pub refuses_led : LeadersDecide → (leader : Leader) (s : Setting) (c : Condition) (var until : ℕ) → judged s c ≢ Told True → ((before : List Label) (label : Label) → s.labels ≡ before ++ label ∷ [] → s.current ≡ s.start + length before) →
    ((before : List Label) (label : Label) → s.labels ≡ before ++ label ∷ [] → label.var ≡ var) → is_local (Led leader.variable leader.alone) s.totals var (condition_formula c) ≡ true →
    ((start : ℕ) → s.start < start → start < until → (before : List Label) (label : Label) → label.var ≡ var → start + length before ≡ s.current → IsHeadedBy leader.variable leader.alone (before ++ label ∷ []) → judged (at_last s start before label) c ≢ Told True) →
    RefusesUntil (Some leader) s c until
refuses_led decide leader s c var until refused size own local later before label labels headed start before' le lt at there = go (eq-or-lt_of_le le)
  where
    go : (s.start ≡ start) ⊎ (s.start < start) → judged (at_last s start before' label) c ≢ Told True
    go (inl same) =
        subst (λ j. j ≢ Told True)
        (sym (here_is s before label c labels (size before label labels))
        ∙ decide leader.variable leader.alone s s.start before before' label c (subst (λ v. is_local (Led leader.variable leader.alone) s.totals v (condition_formula c) ≡ true) (sym (own before label labels)) local)
        (omega (arith, at, same)) (subst (λ ls. IsHeadedBy leader.variable leader.alone ls) labels headed) there
        ∙ ap (λ (k : ℕ). judged (at_last s k before' label) c) same)
        refused
    go (inr after) = later start after lt before' label (own before label labels) (at ∙ sym (size before label labels)) there

-- ---- between a first row and the one that is judged

pub own_between : {R : Type 0} (known : R → Rows) (ending : R → End) (e : Ends R) (cell : Cell) (n : Route) → goes_from_own_row e.totals.now e.variable n ≡ true →
    cell ≡ cell_after (known e.rows.now) (ending e.rows.now) n.column n.step e.own → GoneBetween known ending e cell n
own_between known ending e cell n own is before label var at headed =
    is ∙ ap (cell_after (known e.rows.now) (ending e.rows.now) n.column n.step) (sym at)
    ∙ sym (own_cell (between known ending e) e.first before label n (subst (λ v. goes_from_own_row e.totals.now v n ≡ true) (sym var) own))

pub first_between : {R : Type 0} (known : R → Rows) (ending : R → End) (e : Ends R) (cell : Cell) (n : Route) → goes_from_leader e.leader.variable e.leader.alone e.totals.now n ≡ true →
    cell ≡ cell_after (known e.rows.now) (ending e.rows.now) n.column n.step e.first → GoneBetween known ending e cell n
first_between known ending e cell n named is before label var at headed =
    is ∙ sym (leader_cell e.leader.variable e.leader.alone (between known ending e) e.first before label headed n named)

-- one more first row
pub below_more : {R : Type 0} (known : R → Rows) (ending : R → End) (e : Ends R) (c : Condition) (at : ℕ) → RefusesBelow known ending e c at → RefusesAt known ending e c at → RefusesBelow known ending e c (at + 1)
below_more known ending e c at below this first after lt = go (eq-or-lt_of_le (the_le first at lt))
  where
    the_le : (a b : ℕ) → a < b + 1 → a ≤ b
    the_le a b h = omega (arith, h)

    go : (first ≡ at) ⊎ (first < at) → RefusesAt known ending e c first
    go (inl same) = subst (λ k. RefusesAt known ending e c k) (sym same) this
    go (inr less) = below first after less

-- the last label
pub last_label_is : (ls before : List Label) (label : Label) → ls ≡ before ++ label ∷ [] → get_or ls (length ls - 1) (record { var = 0; excluded = false }) ≡ label
last_label_is ls before label is =
    let size : length ls - 1 ≡ length before = omega (arith, ap (λ (xs : List Label). length xs) is, length-append before (label ∷ [])) in
    ap (λ k. get_or ls k (record { var = 0; excluded = false })) size ∙ ap (λ xs. get_or xs (length before) (record { var = 0; excluded = false })) is ∙ found before
  where
    found : (xs : List Label) → get_or (xs ++ label ∷ []) (length xs) (record { var = 0; excluded = false }) ≡ label
    found [] = refl
    found (x ∷ xs) = found xs
