-- Local tests by local conditions.
use Rattle.std.proofs.Common.{◌≡◌, ℕ, Bool, ◌+◌, ◌-◌, true, List, [], ◌∷◌, ◌++◌, length, Option, Some, None, refl, sym, ap, ◌∙◌, arith, length-append}
use Rattle.std.specs.Prelude.{slice_get}
use Rattle.rp_words.specs.declared.word.Label.{Label}
use Rattle.rp_words.specs.Leading.{IsHeadedBy}
use Rattle.rp_query.specs.declared.locality.Locality.TheVariants.{Row, Span, Led}
use Rattle.rp_query.specs.declared.plan.Condition.{Condition}
use Rattle.rp_query.specs.Definitions.{definition_of}
use Rattle.rp_query.specs.Locality.{is_local_where_defined}
use Rattle.rp_query.specs.QueryView.{totals_in}
use Rattle.rp_eval.specs.Locality.{at_last, RowsDecide, SpansDecide, LeadersDecide}
use Rattle.rp_eval.specs.ValueOf.{Setting, seen_as}
use Rattle.rp_conditions.specs.Locality.{RowsAreTestedAlone, SpansAreTestedAlone, LedAreTestedAlone}
use Rattle.rp_conditions.specs.Tested.{Tested, last_row, seen_by, seen_at, outcome_of}

-- the rows and totals that are looked at, without a match
abbrev pub bare : Tested → Setting
bare t = record { rows = t.rows; ending = t.ending; start = 0; labels = []; current = 0; number = 0; totals = totals_in t.query }

last_label : (before : List Label) (label : Label) (place : ℕ) → place ≡ length before → slice_get (before ++ label ∷ []) place ≡ Some label
last_label before label place is = ap (slice_get (before ++ label ∷ [])) is ∙ found before
  where
    found : (ls : List Label) → slice_get (ls ++ label ∷ []) (length ls) ≡ Some label
    found [] = refl
    found (l ∷ ls) = found ls

-- what the test of a row by a label says is what the definition of the label's variable comes to there
pub outcome_is : (t : Tested) (start : ℕ) (before : List Label) (label : Label) →
    outcome_of t start (before ++ label ∷ []) ≡ seen_by (at_last (bare t) start before label) (definition_of t.query.plan label.var)
outcome_is t start before label =
    let place : length (before ++ label ∷ []) - 1 ≡ length before = omega (arith, length-append before (label ∷ [])) in
    ap (seen_at t (last_row t start (before ++ label ∷ []))) (last_label before label (length (before ++ label ∷ []) - 1) place)
    ∙ ap (λ k. seen_by (record (last_row t start (before ++ label ∷ [])) { current = start + k }) (definition_of t.query.plan label.var)) place

row_alone : RowsDecide → (s : Setting) (start start' : ℕ) (before before' : List Label) (label : Label) (o : Option Condition) →
    is_local_where_defined Row s.totals label.var o ≡ true → start + length before ≡ start' + length before' →
    seen_by (at_last s start before label) o ≡ seen_by (at_last s start' before' label) o
row_alone decide s start start' before before' label None local at = refl
row_alone decide s start start' before before' label (Some c) local at = ap seen_as (decide s start start' before before' label c local at)

span_alone : SpansDecide → (s : Setting) (start : ℕ) (before before' : List Label) (label : Label) (o : Option Condition) →
    is_local_where_defined Span s.totals label.var o ≡ true → length before ≡ length before' →
    seen_by (at_last s start before label) o ≡ seen_by (at_last s start before' label) o
span_alone decide s start before before' label None local size = refl
span_alone decide s start before before' label (Some c) local size = ap seen_as (decide s start before before' label c local size)

pub rows_alone : RowsDecide → RowsAreTestedAlone
rows_alone decide t local start start' before before' label at =
    outcome_is t start before label
    ∙ row_alone decide (bare t) start start' before before' label (definition_of t.query.plan label.var) (local label.var) at
    ∙ sym (outcome_is t start' before' label)

pub spans_alone : SpansDecide → SpansAreTestedAlone
spans_alone decide t local start before before' label size =
    outcome_is t start before label
    ∙ span_alone decide (bare t) start before before' label (definition_of t.query.plan label.var) (local label.var) size
    ∙ sym (outcome_is t start before' label)

led_seen : LeadersDecide → (leader : ℕ) (alone : Bool) (s : Setting) (start : ℕ) (before before' : List Label) (label : Label) (o : Option Condition) →
    is_local_where_defined (Led leader alone) s.totals label.var o ≡ true → length before ≡ length before' →
    IsHeadedBy leader alone (before ++ label ∷ []) → IsHeadedBy leader alone (before' ++ label ∷ []) →
    seen_by (at_last s start before label) o ≡ seen_by (at_last s start before' label) o
led_seen decide leader alone s start before before' label None local size headed headed' = refl
led_seen decide leader alone s start before before' label (Some c) local size headed headed' =
    ap seen_as (decide leader alone s start before before' label c local size headed headed')

pub led_alone : LeadersDecide → LedAreTestedAlone
led_alone decide leader alone t local start before before' label size headed headed' =
    outcome_is t start before label
    ∙ led_seen decide leader alone (bare t) start before before' label (definition_of t.query.plan label.var) (local label.var) size headed headed'
    ∙ sym (outcome_is t start before' label)
