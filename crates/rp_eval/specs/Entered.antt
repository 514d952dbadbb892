-- Inside: the totals of labels.
use Rattle.std.specs.Prelude.{◌≡◌, ℕ, List, [], ◌∷◌, ◌++◌, map}
use Rattle.rp_words.specs.declared.word.Label.{Label}
use Rattle.rp_query.specs.declared.plan.Total.{Total}
use Rattle.rp_eval.specs.declared.totals.Totals.{Totals}
use Rattle.rp_eval.specs.Partition.{Rows}
use Rattle.rp_eval.specs.Kept.{Kept, kept_of}

-- what totals are kept of: the totals of a plan
unfoldable pub plan_of : Totals → List Total
plan_of t = t.plan.value.items

-- what is kept of each
unfoldable pub kept_in : Totals → List Kept
kept_in t = t.series.items

-- These are the totals of the labels: of each total of the plan they keep what there is to keep of them.
abbrev pub AreTotals : Totals → Rows → ℕ → List Label → Type 0
AreTotals t p start ls = kept_in t ≡ map (kept_of p start ls) (plan_of t)

-- These labels are those of the totals, and one more.
pub record NextLabel (t : Totals) (p : Rows) (start : ℕ) (labels : List Label) : Type 0 where
  pub before : List Label
  pub label : Label
  pub is : labels ≡ before ++ label ∷ []
  pub totals : AreTotals t p start before
