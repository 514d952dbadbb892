-- Rows that meet a condition. ISO/IEC 9075-2:2016, 7.12 <where clause>: those for which it is true, and not those for which it is
-- unknown. Own: the condition is read as that of a pattern's only variable, over a partition of the row alone.
use Rattle.std.specs.Prelude.{ℕ, ◌++◌, Bool, false, true, List, [], ◌∷◌, Option, Some, None, codes}
use Rattle.rp_value.specs.declared.value.Value.{Value}
use Rattle.rp_words.specs.declared.word.End.TheVariants.{Closed}
use Rattle.rp_words.specs.declared.word.Label.{Label}
use Rattle.rp_words.specs.declared.word.Seen.{Seen}
use Rattle.rp_words.specs.declared.word.Seen.TheVariants.{True}
use Rattle.rp_query.specs.Definitions.{definition_of}
use Rattle.rp_query.specs.QueryView.{totals_in}
use Rattle.rp_query.specs.declared.plan.Condition.{Condition}
use Rattle.rp_query.specs.declared.query.QueryData.{QueryData}
use Rattle.rp_eval.specs.ValueOf.{Setting, judged, seen_as}

-- the clause that a condition is read as: nothing stands behind the condition, so no text can leave its place there
abbrev pub clause_of : List ℕ → List ℕ
clause_of text = codes "PATTERN (R) DEFINE R AS " ++ text

-- the label of the only row of a match
abbrev pub only_label : Label
only_label = record { var = 0; excluded = false }

-- a row that is the only one of its partition, and of a match there
abbrev pub alone : QueryData → List Value → Setting
alone q row = record {
  rows = row ∷ [];
  ending = Closed;
  start = 1;
  labels = only_label ∷ [];
  current = 1;
  number = 0;
  totals = totals_in q;
}

abbrev pub was_true : Seen → Bool
was_true True = true
was_true _ = false

-- the condition is true of the row; each row meets one that isn't there
abbrev pub meets_condition : QueryData → List Value → Option Condition → Bool
meets_condition q row None = true
meets_condition q row (Some condition) = was_true (seen_as (judged (alone q row) condition))

-- the row meets the query's condition
abbrev pub meets : QueryData → List Value → Bool
meets q row = meets_condition q row (definition_of q.plan 0)
