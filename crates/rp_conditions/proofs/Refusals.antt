-- For how long a row is refused.
use Rattle.std.proofs.Common.{◌≡◌, ◌≢◌, ℕ, ◌+◌, ◌≤◌, List, [], ◌∷◌, ◌++◌, length, Option, Some, None, true, refl, sym, ap, ◌∙◌, subst, arith}
use Rattle.std.proofs.Common.{◌-◌, false, length-append}
use Rattle.std.specs.Prelude.{IfSome, get_or}
use Rattle.rp_value.specs.declared.truth.Tri.TheVariants as tri
use Rattle.rp_value.specs.declared.truth.Judged.{Judged}
use Rattle.rp_value.specs.declared.truth.Judged.TheVariants as judgement
use Rattle.rp_words.specs.declared.word.Label.{Label}
use Rattle.rp_words.specs.declared.word.End.{End}
use Rattle.rp_words.specs.declared.word.End.TheVariants.{Closed}
use Rattle.rp_words.specs.declared.word.Seen.{Seen}
use Rattle.rp_words.specs.declared.word.Seen.TheVariants.{True, NotTrue, Open}
use Rattle.rp_words.specs.Leading.{IsHeadedBy}
use Rattle.rp_words.specs.Mapping.{Mapping, labels_of}
use Rattle.rp_words.specs.PatternForm.{form_of}
use Rattle.rp_query.specs.declared.locality.Leader.{Leader}
use Rattle.rp_query.specs.declared.plan.Condition.{Condition}
use Rattle.rp_query.specs.Definitions.{definition_of}
use Rattle.rp_query.specs.Locality.{IsLeaderOf}
use Rattle.rp_query.specs.LooksBack.{ConditionsLookBack, looks_back_where_defined}
use Rattle.rp_eval.specs.Locality.{at_last, HeadedBy, RefusesUntil}
use Rattle.rp_eval.specs.Laws.{LookingBackTells}
use Rattle.rp_eval.specs.ValueOf.{Setting, judged, seen_as}
use Rattle.rp_search.specs.Agreement.{LeaderHeads}
use Rattle.rp_search.specs.Asked.{Asked}
use Rattle.rp_search.specs.Lasting.{LastsUntil, OfPattern, OpensAlike}
use Rattle.rp_search.specs.Locality.{IsLocal}
use Rattle.rp_conditions.specs.Decided.{AreKnownDecided, tested_decides, told_decides}
use Rattle.rp_conditions.specs.Locality.{RefusedBelow}
use Rattle.rp_conditions.specs.Tested.{Tested, asked_of, last_row, outcome_of, seen_by}
use Rattle.rp_conditions.proofs.Localities.{outcome_is, bare}

not_true : (j : Judged) → j ≢ judgement.Told tri.True → seen_as j ≢ True
not_true (judgement.Told tri.True) h e = h refl
not_true (judgement.Told tri.False) h e = cc
not_true (judgement.Told tri.Unknown) h e = cc
not_true judgement.Open h e = cc

pub decided_refuses : (seen : Seen) → seen ≢ True → seen ≢ Open → seen ≡ NotTrue
decided_refuses True h k = absurd (h refl)
decided_refuses NotTrue h k = refl
decided_refuses Open h k = absurd (k refl)

-- a variable that is known to lead heads the labels of the pattern's words
heads_all : LeaderHeads → (t : Tested) (lead : Option Leader) → IfSome lead (IsLeaderOf (form_of t.query.pattern)) →
    (start n : ℕ) (e : End) (w : Mapping) (before : List Label) (label : Label) (after : List Label) → OfPattern (Some (form_of t.query.pattern)) start n e w → labels_of w ≡ before ++ label ∷ after → HeadedBy lead (before ++ label ∷ [])
heads_all heads t None leads start n e w before label after meant is = tt
heads_all heads t (Some l) leads start n e w before label after meant is =
    subst (λ alone. IsHeadedBy l.variable alone (before ++ label ∷ [])) (sym leads.1) (heads l.variable (form_of t.query.pattern) leads.0 start n e w before label after meant is)

-- what is told of the condition is told of the test
pub refused_below : LeaderHeads → (t : Tested) (lead : Option Leader) → IfSome lead (IsLeaderOf (form_of t.query.pattern)) →
    (start : ℕ) (labels : List Label) (until : ℕ) (c : Condition) → ((before : List Label) (label : Label) → labels ≡ before ++ label ∷ [] → Some c ≡ definition_of t.query.plan label.var) →
    RefusesUntil lead (last_row t start labels) c until → RefusedBelow t start labels until
refused_below heads t lead leads start labels until c defined refuses before label after n e w is meant begins start' n' e' w' before' after' le lt at meant' begins' =
    subst (λ seen. seen ≢ True) (sym (outcome_is t start' before' label ∙ ap (seen_by (at_last (bare t) start' before' label)) (sym (defined before label is))))
    (not_true (judged (at_last (bare t) start' before' label) c)
    (refuses before label is
    (subst (λ ls. HeadedBy lead ls) (sym is) (heads_all heads t lead leads start n e w before label after meant begins))
    start' before' le lt at
    (heads_all heads t lead leads start' n' e' w' before' label after' meant' begins')))

pub not_yet_below : (t : Tested) (start : ℕ) (labels : List Label) → RefusedBelow t start labels start
not_yet_below t start labels before label after n e w is meant begins start' n' e' w' before' after' le lt at meant' begins' = absurd (omega (arith, le, lt))

-- ---- where the tests of known rows are decided

pub lasts_decided : (t : Tested) → AreKnownDecided t → (start : ℕ) (labels : List Label) (until : ℕ) → start + length labels ≤ length t.rows + 1 → RefusedBelow t start labels until →
    LastsUntil (OfPattern (asked_of t).pattern) (asked_of t) start labels until
lasts_decided t decided start labels until known below before label after n e w is meant begins start' n' e' w' before' after' le lt at meant' begins' =
    decided_refuses (outcome_of t start' (before' ++ label ∷ []))
    (below before label after n e w is meant begins start' n' e' w' before' after' le lt at meant' begins')
    (decided start' before' label (omega (arith, known, at, ap (λ (ls : List Label). length ls) is, length-append before (label ∷ []))))

pub alike_decided : (t : Tested) → AreKnownDecided t → OpensAlike (OfPattern (asked_of t).pattern) (asked_of t)
alike_decided t decided start n e w before after label meant is known true_ from until start' n' e' w' before' after' le lt at meant' is' =
    decided start' before' label (omega (arith, known, at))

by_told : LookingBackTells → (s : Setting) → s.start + length s.labels ≤ length s.rows + 1 → (o : Option Condition) → looks_back_where_defined o ≡ true → seen_by s o ≢ Open
by_told tells s on None back = λ e. cc
by_told tells s on (Some c) back = told_decides (judged s c) (tells s c on back)

-- so they are where no condition looks ahead
pub back_decided : LookingBackTells → (t : Tested) → ConditionsLookBack t.query.plan → AreKnownDecided t
back_decided tells t back start before label known =
    subst (λ seen. seen ≢ Open) (sym (outcome_is t start before label))
    (by_told tells (at_last (bare t) start before label) (omega (arith, known, length-append before (label ∷ []))) (definition_of t.query.plan label.var) (back label.var))

-- and over a closed end
pub closed_decided : (t : Tested) → t.ending ≡ Closed → AreKnownDecided t
closed_decided t closed start before label known = tested_decides t start (before ++ label ∷ []) closed

-- where each condition judges its row alone
pub lasts_local : (asked : Asked) → IsLocal asked → (start : ℕ) (labels : List Label) (until : ℕ) → asked.outcome start labels ≡ NotTrue → LastsUntil (OfPattern asked.pattern) asked start labels until
lasts_local asked local start labels until refused before label after n e w is meant begins start' n' e' w' before' after' le lt at meant' begins' =
    local start' start before' before label at ∙ ap (asked.outcome start) (sym is) ∙ refused

pub alike_local : (asked : Asked) → IsLocal asked → OpensAlike (OfPattern asked.pattern) asked
alike_local asked local start n e w before after label meant is known true_ from until start' n' e' w' before' after' le lt at meant' is' opens =
    absurd (let never : True ≡ Open = sym true_ ∙ local start start' before before' label (sym at) ∙ opens in cc)

pub lasts_not_yet : (asked : Asked) (start : ℕ) (labels : List Label) → LastsUntil (OfPattern asked.pattern) asked start labels start
lasts_not_yet asked start labels before label after n e w is meant begins start' n' e' w' before' after' le lt at meant' begins' = absurd (omega (arith, le, lt))

-- the last label
pub last_label_is : (ls before : List Label) (label : Label) → ls ≡ before ++ label ∷ [] → get_or ls (length ls - 1) (record { var = 0; excluded = false }) ≡ label
last_label_is ls before label is =
    let size : length ls - 1 ≡ length before = omega (arith, ap (λ (xs : List Label). length xs) is, length-append before (label ∷ [])) in
    ap (λ k. get_or ls k (record { var = 0; excluded = false })) size ∙ ap (λ xs. get_or xs (length before) (record { var = 0; excluded = false })) is ∙ found before
  where
    found : (xs : List Label) → get_or (xs ++ label ∷ []) (length xs) (record { var = 0; excluded = false }) ≡ label
    found [] = refl
    found (x ∷ xs) = found xs
