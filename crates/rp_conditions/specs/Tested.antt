-- What the conditions of a query say of the last label's row.
use Rattle.std.specs.Prelude.{ℕ, ◌+◌, ◌-◌, List, length, Option, None, Some, slice_get}
use Rattle.rp_words.specs.declared.word.Label.{Label}
use Rattle.rp_words.specs.declared.word.End.{End}
use Rattle.rp_words.specs.declared.word.Seen.{Seen}
use Rattle.rp_words.specs.PatternForm.{form_of}
use Rattle.rp_words.specs.declared.word.Seen.TheVariants.{True, NotTrue}
use Rattle.rp_query.specs.declared.plan.Condition.{Condition}
use Rattle.rp_query.specs.declared.query.QueryData.{QueryData}
use Rattle.rp_eval.specs.Partition.{Rows}
use Rattle.rp_eval.specs.ValueOf.{Setting, judged, seen_as}
use Rattle.rp_query.specs.QueryView.{totals_in}
use Rattle.rp_search.specs.Asked.{Asked}
use Rattle.rp_query.specs.Definitions.{definition_of}

-- what is tested: the rows of a partition, by the definitions of a query's variables
pub record Tested : Type 0 where
  pub rows : Rows
  pub ending : End
  pub query : QueryData

-- the last label's row, seen with the labels up to it
abbrev pub last_row : Tested → ℕ → List Label → Setting
last_row t start labels =
    record {
      rows = t.rows;
      ending = t.ending;
      start = start;
      labels = labels;
      current = start + (length labels - 1);
      number = 0;
      totals = totals_in t.query;
    }

-- a variable without a definition admits each row
abbrev pub seen_by : Setting → Option Condition → Seen
seen_by s (Some c) = seen_as (judged s c)
seen_by s None = True

abbrev pub seen_at : Tested → Setting → Option Label → Seen
seen_at t s None = NotTrue
seen_at t s (Some l) = seen_by s (definition_of t.query.plan l.var)

abbrev pub outcome_of : Tested → ℕ → List Label → Seen
outcome_of t start labels = seen_at t (last_row t start labels) (slice_get labels (length labels - 1))

-- what a search asks of it
abbrev pub asked_of : Tested → Asked
asked_of t =
    record {
      known = length t.rows;
      end = t.ending;
      variables = length t.query.plan.definitions.items;
      outcome = outcome_of t;
      pattern = Some (form_of t.query.pattern);
    }
