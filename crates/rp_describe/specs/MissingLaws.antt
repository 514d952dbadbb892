-- What a condition compares that looks at variables without a row is null.
use Rattle.std.specs.Prelude.{◌≡◌, ℕ, List, [], ◌∷◌, ◌++◌}
use Rattle.rp_value.specs.declared.value.Value.TheVariants.{Null}
use Rattle.rp_words.specs.declared.form.Form.{Form}
use Rattle.rp_words.specs.declared.word.Label.{Label}
use Rattle.rp_query.specs.declared.plan.Navigation.{Navigation}
use Rattle.rp_eval.specs.declared.cell.Cell.TheVariants.{Ready}
use Rattle.rp_eval.specs.Locality.{at_last}
use Rattle.rp_eval.specs.ValueOf.{Setting, navigated}
use Rattle.rp_describe.specs.Precedes.{BeginsWord}
use Rattle.rp_describe.specs.Missing.{AreMissing, goes_among}

-- A navigation among variables that are missing at the rows of another comes to null at each row that a word of the pattern maps to
-- that one.
abbrev pub MissingAreNull : Type 0
MissingAreNull = (f : Form) (s : Setting) (variable other : ℕ) (n : Navigation) →
    AreMissing f variable (goes_among s.totals n.rows_of) other →
    (start : ℕ) (before : List Label) (label : Label) → label.var ≡ variable →
    BeginsWord f start (before ++ label ∷ []) →
    navigated (at_last s start before label) n ≡ Ready Null
