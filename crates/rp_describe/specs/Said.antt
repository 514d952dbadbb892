-- What it means that a condition looks at some rows and no others: what it comes to at a row depends on these alone.
use Rattle.std.specs.Prelude.{◌≡◌, ◌≢◌, ℕ, ◌+◌, ◌-◌, ◌≤◌, true, false, List, [], ◌∷◌, ◌++◌, length, Some}
use Rattle.rp_value.specs.declared.truth.Judged.TheVariants.{Open as OpenJudgement}
use Rattle.rp_words.specs.declared.word.End.{End}
use Rattle.rp_words.specs.declared.word.Label.{Label}
use Rattle.rp_words.specs.declared.form.Form.{Form}
use Rattle.rp_words.specs.PatternForm.{form_of}
use Rattle.rp_query.specs.declared.locality.Locality.TheVariants.{Row}
use Rattle.rp_query.specs.declared.plan.Condition.{Condition}
use Rattle.rp_query.specs.declared.plan.Total.{Total}
use Rattle.rp_query.specs.declared.query.QueryData.{QueryData}
use Rattle.rp_query.specs.Formulas.{condition_formula}
use Rattle.rp_query.specs.Locality.{is_local}
use Rattle.rp_query.specs.Definitions.{definition_of}
use Rattle.rp_query.specs.QueryView.{totals_in}
use Rattle.rp_eval.specs.Laws.{over}
use Rattle.rp_eval.specs.Locality.{at_last}
use Rattle.rp_eval.specs.Partition.{Rows, row_at}
use Rattle.rp_eval.specs.ValueOf.{Setting, judged}
use Rattle.rp_describe.specs.Precedes.{BeginsWord}
use Rattle.rp_describe.specs.declared.looks.Looks.{Looks}

-- two partitions have these rows, from the one to the other, and have them in common
pub record HaveInCommon (from to : ℕ) (p p' : Rows) : Type 0 where
  pub known : to ≤ length p
  pub known_there : to ≤ length p'
  pub same : (row : ℕ) → from ≤ row → row ≤ to → row_at p' row ≡ row_at p row

-- these labels begin at this row, and the one behind them is of that row
pub record ComesTo (start row : ℕ) (before : List Label) : Type 0 where
  pub from_one : 1 ≤ start
  pub last : start + length before ≡ row

-- What the condition of a variable comes to at a row depends on that row alone, and on so many before and behind it: not on other
-- rows, nor on whether more may come, nor on where the match began and what it mapped before.
abbrev pub DependsOnNear : ℕ → ℕ → List Total → ℕ → Condition → Type 0
DependsOnNear back ahead totals variable c =
    (s : Setting) (p' : Rows) (e' : End) (row start start' : ℕ) (before before' : List Label) (label : Label) →
    s.totals ≡ totals → label.var ≡ variable → HaveInCommon (row - back) (row + ahead) s.rows p' →
    ComesTo start row before → ComesTo start' row before' →
    judged (at_last (over s p' e') start' before' label) c ≡ judged (at_last s start before label) c

-- What it comes to at a row depends on the rows of the partition alone: not on where the match began and what it mapped before.
abbrev pub DependsOnRows : List Total → ℕ → Condition → Type 0
DependsOnRows totals variable c =
    (s : Setting) (start start' : ℕ) (before before' : List Label) (label : Label) →
    s.totals ≡ totals → label.var ≡ variable → start + length before ≡ start' + length before' →
    judged (at_last s start' before' label) c ≡ judged (at_last s start before label) c

-- What it comes to at a row, where words of the pattern begin at one row, depends on the rows of the partition and on where they
-- begin: not on which variables they map the rows before to.
abbrev pub DependsOnFirst : Form → List Total → ℕ → Condition → Type 0
DependsOnFirst f totals variable c =
    (s : Setting) (start : ℕ) (before before' : List Label) (label : Label) →
    s.totals ≡ totals → label.var ≡ variable → length before ≡ length before' →
    BeginsWord f start (before ++ label ∷ []) → BeginsWord f start (before' ++ label ∷ []) →
    judged (at_last s start before' label) c ≡ judged (at_last s start before label) c

-- it waits for so many rows: where as many are known behind the last label's, it is told
abbrev pub WaitsFor : ℕ → Condition → Type 0
WaitsFor ahead c =
    (s : Setting) → 1 ≤ s.start → s.start + length s.labels + ahead ≤ length s.rows + 1 → judged s c ≢ OpenJudgement

-- What is said of the condition of a variable, that it looks at these rows, is so.
pub record IsSaidOf (q : QueryData) (variable : ℕ) (c : Condition) (looks : Looks) : Type 0 where
  -- at its own row alone, or at so many rows before and behind it
  pub near : looks.first ≡ false → looks.elsewhere ≡ false →
      DependsOnNear looks.back looks.ahead (totals_in q) variable c
  -- so it is local to its row
  pub local : looks.first ≡ false → looks.elsewhere ≡ false →
      is_local Row (totals_in q) variable (condition_formula c) ≡ true
  -- also where not all of these rows are known
  pub rows : looks.first ≡ false → looks.elsewhere ≡ false → DependsOnRows (totals_in q) variable c
  -- at its own row and the match's first, and rows at fixed distances from these
  pub ends : looks.elsewhere ≡ false → DependsOnFirst (form_of q.pattern) (totals_in q) variable c
  -- at so many rows ahead
  pub waits : WaitsFor looks.ahead c

-- it is so of each condition of DEFINE
abbrev pub ConditionsAreSaid : QueryData → Looks → Type 0
ConditionsAreSaid q looks =
    (variable : ℕ) (c : Condition) → definition_of q.plan variable ≡ Some c → IsSaidOf q variable c looks
