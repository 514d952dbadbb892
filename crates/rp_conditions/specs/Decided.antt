-- Inside: where tests are decided. Over a closed end each row is, and it is proved here and not in proofs/, since what an impl owes its
-- trait can only be cited from specs/.
use Rattle.std.specs.Prelude.{◌≡◌, ◌≢◌, ℕ, ◌+◌, ◌-◌, ◌≤◌, List, [], ◌∷◌, ◌++◌, length, Option, None, Some, slice_get, refl}
use Rattle.rp_value.specs.declared.truth.Tri.TheVariants.{True as T, False as F, Unknown as U}
use Rattle.rp_value.specs.declared.truth.Judged.{Judged}
use Rattle.rp_value.specs.declared.truth.Judged.TheVariants.{Told, Open as OpenJudgement}
use Rattle.rp_words.specs.declared.word.Label.{Label}
use Rattle.rp_words.specs.declared.word.End.TheVariants.{Closed}
use Rattle.rp_words.specs.declared.word.Seen.TheVariants.{Open}
use Rattle.rp_query.specs.declared.plan.Condition.{Condition}
use Rattle.rp_eval.specs.ValueOf.{Setting, judged, seen_as}
use Rattle.rp_eval.specs.Closing.{judged_closes}
use Rattle.rp_query.specs.Definitions.{definition_of}
use Rattle.rp_conditions.specs.Tested.{Tested, last_row, seen_by, seen_at, outcome_of}

pub told_decides : (j : Judged) → j ≢ OpenJudgement → seen_as j ≢ Open
told_decides (Told T) h = λ e. cc
told_decides (Told F) h = λ e. cc
told_decides (Told U) h = λ e. cc
told_decides OpenJudgement h = absurd (h refl)

by_decides : (s : Setting) → s.ending ≡ Closed → (o : Option Condition) → seen_by s o ≢ Open
by_decides s closed (Some c) = told_decides (judged s c) (judged_closes s closed c)
by_decides s closed None = λ e. cc

at_decides : (t : Tested) (s : Setting) → s.ending ≡ Closed → (l : Option Label) → seen_at t s l ≢ Open
at_decides t s closed None = λ e. cc
at_decides t s closed (Some l) = by_decides s closed (definition_of t.query.plan l.var)

pub tested_decides : (t : Tested) (start : ℕ) (labels : List Label) → t.ending ≡ Closed → outcome_of t start labels ≢ Open
tested_decides t start labels closed = at_decides t (last_row t start labels) closed (slice_get labels (length labels - 1))

-- the test of each known row is decided
abbrev pub AreKnownDecided : Tested → Type 0
AreKnownDecided t = (start : ℕ) (before : List Label) (label : Label) →
    start + length before ≤ length t.rows → outcome_of t start (before ++ label ∷ []) ≢ Open
