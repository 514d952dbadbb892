-- The tests of conditions over rows that go on.
use Rattle.std.proofs.Common.{◌≡◌, ℕ, suc, ◌-◌, ◌≤◌, max, List, [], ◌∷◌, length, Option, None, Some, refl, ap, arith}
use Rattle.std.specs.Prelude.{slice_get}
use Rattle.rp_value.specs.declared.truth.Tri.TheVariants.{True as T, False as F, Unknown as U}
use Rattle.rp_value.specs.declared.truth.Judged.{Judged}
use Rattle.rp_value.specs.declared.truth.Judged.TheVariants.{Told, Open as OpenJudgement}
use Rattle.rp_value.specs.TruthLaws.{KeepsTold}
use Rattle.rp_words.specs.declared.word.Label.{Label}
use Rattle.rp_words.specs.declared.word.End.{End}
use Rattle.rp_query.specs.declared.plan.Condition.{Condition}
use Rattle.rp_query.specs.Reach.{condition_reach}
use Rattle.rp_eval.specs.Partition.{Rows}
use Rattle.rp_eval.specs.ValueOf.{Setting, judged, seen_as}
use Rattle.rp_eval.specs.Laws.{LiesOnRows, over, JudgementsStay}
use Rattle.rp_eval.specs.GoesOn.{GoesOn}
use Rattle.rp_search.specs.SeenStays.{SeenStays}
use Rattle.rp_conditions.specs.Tested.{Tested, last_row, seen_by, seen_at, outcome_of}
use Rattle.rp_query.specs.Definitions.{definition_of}
use Rattle.rp_query.specs.Sound.{IsSound}
use Rattle.rp_conditions.specs.Outlives.{over as over_rows}

seen_stays : (j j' : Judged) → KeepsTold j j' → SeenStays (seen_as j) (seen_as j')
seen_stays (Told T) j' h = ap seen_as h
seen_stays (Told F) j' h = ap seen_as h
seen_stays (Told U) j' h = ap seen_as h
seen_stays OpenJudgement j' h = tt

pub goes_on_from : (first first' : ℕ) (p p' : Rows) (e e' : End) → first ≤ first' → GoesOn first p e p' e' → GoesOn first' p e p' e'
goes_on_from first first' p p' e e' le g = record { later = g.later; same = λ row from known. g.same row (omega arith) known }

by_stays : JudgementsStay → (s : Setting) (p' : Rows) (e' : End) (reach : ℕ) → LiesOnRows s → GoesOn (max 1 (s.start - reach)) s.rows s.ending p' e' → (o : Option Condition) →
    ((c : Condition) → o ≡ Some c → condition_reach c ≤ reach) → SeenStays (seen_by s o) (seen_by (over s p' e') o)
by_stays law s p' e' reach on g None a = refl
by_stays law s p' e' reach on g (Some c) a =
    let near = a c refl in
    seen_stays (judged s c) (judged (over s p' e') c)
    (law s p' e' c on (goes_on_from (max 1 (s.start - reach)) (max 1 (s.start - condition_reach c)) s.rows p' s.ending e' (omega (arith, near)) g))

at_stays : JudgementsStay → (t : Tested) (s : Setting) (p' : Rows) (e' : End) → LiesOnRows s → IsSound t.query → GoesOn (max 1 (s.start - t.query.reach)) s.rows s.ending p' e' →
    (l : Option Label) → SeenStays (seen_at t s l) (seen_at (over_rows t p' e') (over s p' e') l)
at_stays law t s p' e' on sound g None = refl
at_stays law t s p' e' on sound g (Some l) = by_stays law s p' e' t.query.reach on g (definition_of t.query.plan l.var) (λ c is. sound.defined l.var c is)

pub outcome_stays : JudgementsStay → (t : Tested) (p' : Rows) (e' : End) (start : ℕ) → 1 ≤ start → IsSound t.query →
    GoesOn (max 1 (start - t.query.reach)) t.rows t.ending p' e' → (ls : List Label) → length ls ≤ suc (length t.rows) - start → SeenStays (outcome_of t start ls) (outcome_of (over_rows t p' e') start ls)
outcome_stays law t p' e' start one sound g [] short = refl
outcome_stays law t p' e' start one sound g (l ∷ ls) short =
    at_stays law t (last_row t start (l ∷ ls)) p' e' (record { from_one = one; on_rows = omega arith }) sound g (slice_get (l ∷ ls) (length (l ∷ ls) - 1))
