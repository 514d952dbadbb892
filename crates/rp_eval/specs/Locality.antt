-- What a condition comes to depends on no more than it is local to.
use Rattle.std.specs.Prelude.{◌≡◌, ◌≢◌, ℕ, Bool, ◌+◌, ◌<◌, ◌≤◌, true, List, [], ◌∷◌, ◌++◌, length, Option, Some, None}
use Rattle.rp_words.specs.declared.word.Label.{Label}
use Rattle.rp_words.specs.Leading.{IsHeadedBy}
use Rattle.rp_query.specs.declared.locality.Locality.TheVariants.{Row, Span, Led}
use Rattle.rp_query.specs.declared.plan.Condition.{Condition}
use Rattle.rp_query.specs.Formulas.{condition_formula}
use Rattle.rp_query.specs.Locality.{is_local}
use Rattle.rp_words.specs.declared.word.End.{End}
use Rattle.rp_value.specs.declared.truth.Tri.TheVariants.{True}
use Rattle.rp_value.specs.declared.truth.Judged.{Judged}
use Rattle.rp_value.specs.declared.truth.Judged.TheVariants.{Told}
use Rattle.rp_query.specs.declared.locality.Leader.{Leader}
use Rattle.rp_query.specs.declared.plan.Expr.{Expr}
use Rattle.rp_query.specs.declared.plan.Navigation.{Navigation}
use Rattle.rp_eval.specs.declared.cell.Cell.{Cell}
use Rattle.rp_eval.specs.declared.lasting.Ends.{Ends}
use Rattle.rp_eval.specs.Partition.{Rows}
use Rattle.rp_eval.specs.ValueOf.{Setting, judged, navigated, value_of}

-- a look at the last label's row, where the match began at this row and mapped others before
abbrev pub at_last : Setting → ℕ → List Label → Label → Setting
at_last s start before label = record s { start = start; labels = before ++ label ∷ []; current = start + length before }

-- A condition that is local to its row comes to the same at that row, wherever the match began and whatever it mapped before.
abbrev pub RowsDecide : Type 0
RowsDecide = (s : Setting) (start start' : ℕ) (before before' : List Label) (label : Label) (c : Condition) →
    is_local Row s.totals label.var (condition_formula c) ≡ true → start + length before ≡ start' + length before' →
    judged (at_last s start before label) c ≡ judged (at_last s start' before' label) c

-- One that is local to the rows from the first on comes to the same, whichever variables those before are mapped to.
abbrev pub SpansDecide : Type 0
SpansDecide = (s : Setting) (start : ℕ) (before before' : List Label) (label : Label) (c : Condition) →
    is_local Span s.totals label.var (condition_formula c) ≡ true → length before ≡ length before' →
    judged (at_last s start before label) c ≡ judged (at_last s start before' label) c

-- One that may also name the first row by the variable that heads the labels comes to the same, whichever variables the others
-- are mapped to.
abbrev pub LeadersDecide : Type 0
LeadersDecide = (leader : ℕ) (alone : Bool) (s : Setting) (start : ℕ) (before before' : List Label) (label : Label) (c : Condition) →
    is_local (Led leader alone) s.totals label.var (condition_formula c) ≡ true → length before ≡ length before' →
    IsHeadedBy leader alone (before ++ label ∷ []) → IsHeadedBy leader alone (before' ++ label ∷ []) →
    judged (at_last s start before label) c ≡ judged (at_last s start before' label) c

-- ---- for how long it refuses

-- where a variable is known to lead, it heads the labels
abbrev pub HeadedBy : Option Leader → List Label → Type 0
HeadedBy None labels = Unit {0}
HeadedBy (Some lead) labels = IsHeadedBy lead.variable lead.alone labels

-- The condition isn't true of the last label's row, from each start row between the setting's and that one, whatever is mapped
-- before, as far as the variable that leads heads the labels there and here.
abbrev pub RefusesUntil : Option Leader → Setting → Condition → ℕ → Type 0
RefusesUntil lead s c until = (before : List Label) (label : Label) → s.labels ≡ before ++ label ∷ [] → HeadedBy lead s.labels →
    (start : ℕ) (before' : List Label) → s.start ≤ start → start < until → start + length before' ≡ s.start + length before → HeadedBy lead (before' ++ label ∷ []) →
    judged (at_last s start before' label) c ≢ Told True

-- a look from a first row at the one that is judged, without labels
abbrev pub between : {R : Type 0} → (R → Rows) → (R → End) → Ends R → Setting
between known ending e =
    record { rows = known e.rows.now; ending = ending e.rows.now; start = 0; labels = []; current = 0; number = e.number; totals = e.totals.now }

-- what is found is what the expression comes to at the row that is judged, from the first row, whatever is mapped between, where the
-- variable that leads heads the labels
abbrev pub FoundBetween : {R : Type 0} → (R → Rows) → (R → End) → Ends R → Cell → Expr → Type 0
FoundBetween known ending e cell x = (before : List Label) (label : Label) → label.var ≡ e.variable → e.first + length before ≡ e.own →
    IsHeadedBy e.leader.variable e.leader.alone (before ++ label ∷ []) → cell ≡ value_of (at_last (between known ending e) e.first before label) x

-- the same of a condition
abbrev pub JudgedBetween : {R : Type 0} → (R → Rows) → (R → End) → Ends R → Judged → Condition → Type 0
JudgedBetween known ending e judgement c = (before : List Label) (label : Label) → label.var ≡ e.variable → e.first + length before ≡ e.own →
    IsHeadedBy e.leader.variable e.leader.alone (before ++ label ∷ []) → judgement ≡ judged (at_last (between known ending e) e.first before label) c

-- the same of a navigation
abbrev pub GoneBetween : {R : Type 0} → (R → Rows) → (R → End) → Ends R → Cell → Navigation → Type 0
GoneBetween known ending e cell n = (before : List Label) (label : Label) → label.var ≡ e.variable → e.first + length before ≡ e.own →
    IsHeadedBy e.leader.variable e.leader.alone (before ++ label ∷ []) → cell ≡ navigated (at_last (between known ending e) e.first before label) n

-- The condition isn't true of the row that is judged, from this first row, whatever is mapped between, where the variable that leads
-- heads the labels.
abbrev pub RefusesAt : {R : Type 0} → (R → Rows) → (R → End) → Ends R → Condition → ℕ → Type 0
RefusesAt known ending e c first = (before : List Label) (label : Label) → label.var ≡ e.variable → first + length before ≡ e.own →
    IsHeadedBy e.leader.variable e.leader.alone (before ++ label ∷ []) → judged (at_last (between known ending e) first before label) c ≢ Told True

-- nor from those after its first row, below that one
abbrev pub RefusesBelow : {R : Type 0} → (R → Rows) → (R → End) → Ends R → Condition → ℕ → Type 0
RefusesBelow known ending e c until = (first : ℕ) → e.first < first → first < until → RefusesAt known ending e c first
