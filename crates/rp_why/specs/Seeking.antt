-- Inside: a search over a partition whose rows have all come, as it stands between two runs.
use Rattle.std.specs.Prelude.{◌≡◌, ℕ, ◌≤◌, ◌∷◌, Bool, false, true, List, [], ⊤}
use Rattle.rp_words.specs.declared.word.Label.{Label}
use Rattle.rp_value.specs.declared.value.Value.{Value}
use Rattle.rp_words.specs.declared.word.End.TheVariants.{Closed}
use Rattle.rp_words.specs.PatternForm.{form_of}
use Rattle.rp_search.specs.declared.search.Outcome.{Outcome}
use Rattle.rp_search.specs.declared.search.Outcome.TheVariants.{Match as MatchOutcome, NoMatch as NoMatchOutcome, Waits as WaitsOutcome, Paused as PausedOutcome}
use Rattle.rp_search.specs.Fits.{SearchFits}
use Rattle.rp_search.specs.Found.{Match, NoMatch}
use Rattle.rp_search.specs.Search.{IsSearchFor, labels_of_search, start_of_search}
use Rattle.rp_query.specs.declared.query.QueryData.{QueryData}
use Rattle.rp_query.specs.QueryView.{totals_in}
use Rattle.rp_eval.specs.Entered.{AreTotals, plan_of}
use Rattle.rp_conditions.specs.Tested.{asked_of}
use Rattle.rp_known.specs.Known.{Known, count}
use Rattle.rp_known.specs.Plans.{tested_by}
use Rattle.rp_known.specs.Walk.{found_at}
use Rattle.rp_why.specs.declared.seeking.Look.{Look}
use Rattle.rp_why.specs.declared.seeking.Look.TheVariants.{Wanted, Unwanted, GivenUp}
use Rattle.rp_why.specs.declared.seeking.Run.{Run}
use Rattle.rp_why.specs.declared.seeking.Sought.{Sought}
use Rattle.rp_why.specs.declared.seeking.Sought.TheVariants.{Found}
use Rattle.rp_why.specs.Sought.{is_match, is_wanted}

-- a partition of these rows, all of which have come
abbrev pub closed_by : List (List Value) → Known
closed_by rows = record { rows = rows; end = Closed }

-- a run for the query's pattern that fits the rows, so that it can begin again from any of them
pub record Serves (q : QueryData) (p : Known) (start : ℕ) (run : Run) : Type 0 where
  pub begins : start_of_search run.search ≡ start
  pub pattern : IsSearchFor (form_of q.pattern) run.search
  pub fits : SearchFits run.search (asked_of (tested_by q p))
  pub plan : plan_of run.totals ≡ totals_in q

-- a run that searches from a row
pub record Searches (q : QueryData) (p : Known) (start : ℕ) (run : Run) : Type 0 where
  pub known : start ≤ count p
  pub serves : Serves q p start run
  pub totals : AreTotals run.totals p.rows start (labels_of_search run.search)

-- what was found, where the run ended the search
abbrev pub CameTo : QueryData → Known → ℕ → Run → Outcome → Type 0
CameTo q p start run MatchOutcome = found_at q p start ≡ Match (labels_of_search run.search)
CameTo q p start run NoMatchOutcome = found_at q p start ≡ NoMatch
CameTo q p start run WaitsOutcome = ⊤
CameTo q p start run PausedOutcome = ⊤

-- what an outcome is, with these labels where it is a match
abbrev pub look_of : Outcome → Bool → List Label → Look
look_of MatchOutcome true [] = Unwanted
look_of MatchOutcome true (l ∷ ls) = Wanted
look_of MatchOutcome false labels = Wanted
look_of NoMatchOutcome with_rows labels = Unwanted
look_of WaitsOutcome with_rows labels = GivenUp
look_of PausedOutcome with_rows labels = GivenUp

-- what a look says of what is found at a row
abbrev pub LooksAt : QueryData → Known → ℕ → Bool → Run → Look → Type 0
LooksAt q p start with_rows run Wanted =
    (found_at q p start ≡ Match (labels_of_search run.search)) × (is_match with_rows (labels_of_search run.search) ≡ true)
LooksAt q p start with_rows run Unwanted = is_wanted with_rows (found_at q p start) ≡ false
LooksAt q p start with_rows run GivenUp = ⊤

-- a match that begins with this row and has these labels
abbrev pub IsFoundAt : ℕ → List Label → Sought → Type 0
IsFoundAt first labels (Found m) = (m.first ≡ first) × (m.labels.items ≡ labels)
IsFoundAt first labels other = ⊥
