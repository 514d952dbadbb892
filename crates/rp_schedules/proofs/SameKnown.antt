-- Queries that are the same have the same known answer: what it rests on is the same, wherever the parts of each are kept.
use Rattle.std.proofs.Common.{◌≡◌, ◌∙◌, ℕ, zero, suc, ◌-◌, Bool, true, cond, List, [], ◌∷◌, map, length, Option, Some, None, refl, sym, ap}
use Rattle.std.specs.Prelude.{nat_eq, nat_le, slice_get, option_map}
use Rattle.std.specs.List.{list_any}
use Rattle.std.proofs.lemmas.Option.{slice_get-map}
use mathlib.Core.Path.{fun_ext}
use Rattle.rp_words.specs.declared.word.Label.{Label}
use Rattle.rp_words.specs.PatternForm.{form_of}
use Rattle.rp_words.specs.Words.{words}
use Rattle.rp_search.specs.Found.{Found, Match, NoMatch, Waits, found}
use Rattle.rp_query.specs.declared.plan.Condition.{Condition}
use Rattle.rp_query.specs.declared.plan.Expr.{Expr}
use Rattle.rp_query.specs.declared.plan.Total.{Total}
use Rattle.rp_query.specs.declared.plan.Variables.{Variables}
use Rattle.rp_query.specs.declared.plan.Variables.TheVariants.{Universal, Among}
use Rattle.rp_query.specs.declared.query.OutputColumn.{OutputColumn}
use Rattle.rp_query.specs.declared.query.QueryData.{QueryData}
use Rattle.rp_query.specs.declared.query.SkipTo.{SkipTo}
use Rattle.rp_query.specs.declared.query.SkipTo.TheVariants as skip
use Rattle.rp_query.specs.declared.query.Source.{Source}
use Rattle.rp_query.specs.declared.query.Source.TheVariants as source
use Rattle.rp_query.specs.declared.item.Item.{Item}
use Rattle.rp_query.specs.declared.item.Item.TheVariants.{Row as RowItem}
use Rattle.rp_query.specs.Definitions.{condition_at, definition_of}
use Rattle.rp_query.specs.Formulas.{plain_total, members_of, value_formula, condition_formula}
use Rattle.rp_query.specs.QueryView.{totals_in}
use Rattle.rp_query.specs.Scopes.{includes}
use Rattle.rp_query.specs.SkipRules.{SkipRule, PastLastRow, ToNextRow, ToFirst, ToLast, rule_of}
use Rattle.rp_query.specs.Sound.{IsSound}
use Rattle.rp_same_query.specs.SameQuery.{IsSameQuery, WordsFollow}
use Rattle.rp_eval.specs.ByFormula.{by, ValuesFollow, JudgementsFollow}
use Rattle.rp_eval.specs.ValueOf.{Setting, seen_as}
use Rattle.rp_conditions.specs.Tested.{last_row, seen_by, seen_at, outcome_of}
use Rattle.rp_known.specs.declared.place.Place.{Place}
use Rattle.rp_known.specs.Known.{Known, count}
use Rattle.rp_known.specs.Plans.{tested_by, setting_of, before_ready, measured, shown_in, cells_in, cells_alone}
use Rattle.rp_known.specs.Skips.{first_passing, last_passing, skipped, start_after, next_start}
use Rattle.rp_known.specs.Items.{item_rows, item_at, items_of}
use Rattle.rp_known.specs.Walk.{after_items, after_match, after_found, found_at, at_last, searched, leg, and_then, walk, first_place, known, ComesTo, here, on}

same_head : {A : Type 0} (x y : A) (xs ys : List A) → x ∷ xs ≡ y ∷ ys → x ≡ y
same_head x y xs ys e = cc

same_tail : {A : Type 0} (x y : A) (xs ys : List A) → x ∷ xs ≡ y ∷ ys → xs ≡ ys
same_tail x y xs ys e = cc

same_some : {A : Type 0} (x y : A) → Some x ≡ Some y → x ≡ y
same_some x y e = cc

-- ---- conditions and measures

module _ (judgements : JudgementsFollow) (values : ValuesFollow) (s : Setting) (ts : List Total) (totals : map plain_total ts ≡ map plain_total s.totals) where
  seen_same : (o u : Option Condition) → option_map condition_formula o ≡ option_map condition_formula u → seen_by (by s ts) u ≡ seen_by s o
  seen_same None None e = refl
  seen_same None (Some d) e = absurd cc
  seen_same (Some c) None e = absurd cc
  seen_same (Some c) (Some d) e = ap seen_as (judgements s ts c d totals (sym (same_some (condition_formula c) (condition_formula d) e)))

  measured_same : (o u : Option Expr) → option_map value_formula o ≡ option_map value_formula u → measured (by s ts) u ≡ measured s o
  measured_same None None e = refl
  measured_same None (Some y) e = absurd cc
  measured_same (Some x) None e = absurd cc
  measured_same (Some x) (Some y) e = values s ts x y totals (sym (same_some (value_formula x) (value_formula y) e))

condition_same : (cs ds : List Condition) → map condition_formula cs ≡ map condition_formula ds → (o : Option (Option ℕ))
    → option_map condition_formula (condition_at cs o) ≡ option_map condition_formula (condition_at ds o)
condition_same cs ds e None = refl
condition_same cs ds e (Some None) = refl
condition_same cs ds e (Some (Some place)) =
    sym (slice_get-map condition_formula cs place) ∙ ap (λ fs. slice_get fs place) e ∙ slice_get-map condition_formula ds place

measure_same : (xs ys : List Expr) → map value_formula xs ≡ map value_formula ys → (place : ℕ) → option_map value_formula (slice_get xs place) ≡ option_map value_formula (slice_get ys place)
measure_same xs ys e place = sym (slice_get-map value_formula xs place) ∙ ap (λ fs. slice_get fs place) e ∙ slice_get-map value_formula ys place

-- ---- the skip rule

abbrev includes_by : Option (List ℕ) → ℕ → Bool
includes_by None var = true
includes_by (Some members) var = list_any (nat_eq var) members

includes_are : (variables : Variables) (var : ℕ) → includes variables var ≡ includes_by (members_of variables) var
includes_are Universal var = refl
includes_are (Among members) var = refl

abbrev skipped_by : SkipRule → List Label → Option ℕ
skipped_by ToNextRow labels = Some 1
skipped_by PastLastRow labels = Some (length labels)
skipped_by (ToFirst members) labels = first_passing (λ l. includes_by members l.var) labels
skipped_by (ToLast members) labels = last_passing (λ l. includes_by members l.var) labels

skipped_are : (rule : SkipTo) (labels : List Label) → skipped rule labels ≡ skipped_by (rule_of rule) labels
skipped_are skip.PastLastRow labels = refl
skipped_are skip.NextRow labels = refl
skipped_are (skip.First variables) labels = ap (λ test. first_passing test labels) (fun_ext (λ (l : Label). includes_are variables l.var))
skipped_are (skip.Last variables) labels = ap (λ test. last_passing test labels) (fun_ext (λ (l : Label). includes_are variables l.var))

-- ---- the walk

module _ (judgements : JudgementsFollow) (values : ValuesFollow) (same_words : WordsFollow) (q r : QueryData) (same : IsSameQuery q r) (sound : IsSound q) (sound_too : IsSound r) where
  definition_same : (v : ℕ) → option_map condition_formula (definition_of q.plan v) ≡ option_map condition_formula (definition_of r.plan v)
  definition_same v =
      condition_same q.plan.conditions.items r.plan.conditions.items same.conditions (slice_get q.plan.definitions.items v)
      ∙ ap (λ ds. option_map condition_formula (condition_at r.plan.conditions.items (slice_get ds v))) same.definitions

  next_same : (start : ℕ) (labels : List Label) → next_start r.plan.skip start labels ≡ next_start q.plan.skip start labels
  next_same start [] = refl
  next_same start (l ∷ ls) =
      ap (start_after start)
      (skipped_are r.plan.skip (l ∷ ls) ∙ ap (λ rule. skipped_by rule (l ∷ ls)) (sym same.skip) ∙ sym (skipped_are q.plan.skip (l ∷ ls)))

  after_same : (place : Place) (result : Found) → after_found r place result ≡ after_found q place result
  after_same place Waits = refl
  after_same place NoMatch = refl
  after_same place (Match labels) = ap (after_match place labels) (next_same place.start labels)

  module _ (p : Known) where
    seen_at_same : (start : ℕ) (labels : List Label) (o : Option Label)
        → seen_at (tested_by r p) (last_row (tested_by r p) start labels) o ≡ seen_at (tested_by q p) (last_row (tested_by q p) start labels) o
    seen_at_same start labels None = refl
    seen_at_same start labels (Some l) =
        seen_same judgements values (last_row (tested_by q p) start labels) (totals_in r) (sym same.totals) (definition_of q.plan l.var) (definition_of r.plan l.var) (definition_same l.var)

    outcome_same : (start : ℕ) → outcome_of (tested_by r p) start ≡ outcome_of (tested_by q p) start
    outcome_same start = fun_ext (λ (labels : List Label). seen_at_same start labels (slice_get labels (length labels - 1)))

    found_same : (start : ℕ) → found_at r p start ≡ found_at q p start
    found_same start =
        ap (λ test. found test (words (count p) p.end (form_of r.pattern) start)) (outcome_same start)
        ∙ ap (λ ws. found (outcome_of (tested_by q p) start) (ws start))
        (same_words (form_of r.pattern) (form_of q.pattern) (sym same.pattern) sound_too.bounds sound.bounds (count p) p.end)

    -- what an output column has at the row of a match
    shown_same : (start : ℕ) (labels : List Label) (number row : ℕ) (from : Source) → shown_in r (setting_of r p start labels number row) from ≡ shown_in q (setting_of q p start labels number row) from
    shown_same start labels number row (source.Column n) = refl
    shown_same start labels number row (source.Measure i) =
        measured_same judgements values (setting_of q p start labels number row) (totals_in r) (sym same.totals) (slice_get q.plan.measures.items i) (slice_get r.plan.measures.items i)
        (measure_same q.plan.measures.items r.plan.measures.items same.measures i)

    cells_same : (start : ℕ) (labels : List Label) (number row : ℕ) (columns : List OutputColumn)
        → cells_in r (setting_of r p start labels number row) columns ≡ cells_in q (setting_of q p start labels number row) columns
    cells_same start labels number row [] = refl
    cells_same start labels number row (o ∷ os) =
        ap (λ c. before_ready c (cells_in r (setting_of r p start labels number row) os)) (shown_same start labels number row o.from)
        ∙ ap (before_ready (shown_in q (setting_of q p start labels number row) o.from)) (cells_same start labels number row os)

    item_same : (place : Place) (result : Found) (row : ℕ) → item_at r p place result row ≡ item_at q p place result row
    item_same place Waits row = refl
    item_same place NoMatch row = ap (λ columns. Some (RowItem None (cells_alone p.rows row columns))) (sym same.output)
    item_same place (Match labels) row =
        ap (λ columns. option_map (RowItem (Some (suc place.matches))) (cells_in r (setting_of r p place.start labels (suc place.matches) row) columns)) (sym same.output)
        ∙ ap (option_map (RowItem (Some (suc place.matches)))) (cells_same place.start labels (suc place.matches) row q.output.items)

    items_same : (place : Place) (result : Found) → items_of r p place result ≡ items_of q p place result
    items_same place result =
        ap (λ shows. map (item_at r p place result) (item_rows shows place result)) (sym same.rows)
        ∙ ap (λ (shown : ℕ → Option Item). map shown (item_rows q.plan.rows place result)) (fun_ext (item_same place result))

    searched_same : (place : Place) (result : Found) → searched r p place result ≡ searched q p place result
    searched_same place result =
        ap (λ items. after_items items (after_found r place result)) (items_same place result)
        ∙ ap (after_items (items_of q p place result)) (after_same place result)

    pub leg_same : (place : Place) → leg r p place ≡ leg q p place
    leg_same place =
        ap (λ found. cond (nat_le place.start (count p)) found (at_last p.end))
        (searched_same place (found_at r p place.start) ∙ ap (searched q p place) (found_same place.start))

    walk_same : (legs : ℕ) (place : Place) → walk legs r p place ≡ walk legs q p place
    walk_same zero place = refl
    walk_same (suc legs) place =
        ap (λ gone. and_then gone (walk legs r p)) (leg_same place) ∙ ap (and_then (leg q p place)) (fun_ext (walk_same legs))

    pub known_same : known r p ≡ known q p
    known_same = walk_same (suc (suc (count p) - 1)) first_place

    pub comes_same : {from to : Place} {d : ℕ} → ComesTo r p from d to → ComesTo q p from d to
    comes_same here = here
    comes_same (on {place = place} goes comes) = on (sym (leg_same place) ∙ goes) (comes_same comes)
