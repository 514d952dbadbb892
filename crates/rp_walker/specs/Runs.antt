-- Inside: what turns of a run come to.
use Rattle.std.specs.Prelude.{◌≡◌, ℕ, ◌+◌, ◌≤◌, ⊤}
use Rattle.rp_search.specs.declared.search.Outcome.{Outcome}
use Rattle.rp_search.specs.declared.search.Outcome.TheVariants.{Match as MatchOutcome, NoMatch as NoMatchOutcome, Waits as WaitsOutcome, Paused as PausedOutcome}
use Rattle.rp_search.specs.Fits.{left_by}
use Rattle.rp_search.specs.Found.{Match, NoMatch, Waits}
use Rattle.rp_search.specs.Search.{labels_of_search, turns_of_run}
use Rattle.rp_query.specs.declared.query.QueryData.{QueryData}
use Rattle.rp_known.specs.Known.{Known}
use Rattle.rp_known.specs.Walk.{found_at}
use Rattle.rp_walker.specs.declared.run.Run.{Run}
use Rattle.rp_walker.specs.Stages.{Searches, asked_by}

-- what was found, where the last turn ended the search
abbrev pub CameTo : QueryData → Known → ℕ → Run → Outcome → Type 0
CameTo q p start run MatchOutcome = found_at q p start ≡ Match (labels_of_search run.search.value)
CameTo q p start run NoMatchOutcome = found_at q p start ≡ NoMatch
CameTo q p start run WaitsOutcome = found_at q p start ≡ Waits
CameTo q p start run PausedOutcome = ⊤

pub record Ran (q : QueryData) (p : Known) (start : ℕ) (old new : Run) (outcome : Outcome) : Type 0 where
  pub searches : Searches q p start new
  pub came : CameTo q p start new outcome
  pub left : left_by new.search.value (asked_by q p) ≤ left_by old.search.value (asked_by q p)
  pub falls : turns_of_run new.search.value ≤ left_by old.search.value (asked_by q p) + 1
  pub paused : outcome ≡ PausedOutcome →
      left_by new.search.value (asked_by q p) + turns_of_run new.search.value ≤ left_by old.search.value (asked_by q p)
