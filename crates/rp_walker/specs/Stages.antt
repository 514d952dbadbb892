-- Inside: how the stage of a walker stands to known rows, and what it has left.
use Rattle.std.specs.Prelude.{◌≡◌, ℕ, suc, ◌+◌, ◌-◌, ◌<◌, ◌≤◌, false, List, [], ◌++◌, length, Option, Some, None, ⊤, nat_le, slice_get, if◌then◌else◌}
use Rattle.rp_words.specs.PatternForm.{form_of}
use Rattle.rp_words.specs.Words.{words}
use Rattle.rp_words.specs.Turns.{turns, starts_turns}
use Rattle.rp_search.specs.Asked.{Asked}
use Rattle.rp_search.specs.Fits.{left_by, SearchFits}
use Rattle.rp_search.specs.Found.{Found}
use Rattle.rp_search.specs.Search.{IsSearchFor, start_of_search, labels_of_search}
use Rattle.rp_query.specs.declared.query.QueryData.{QueryData}
use Rattle.rp_eval.specs.Entered.{AreTotals, plan_of}
use Rattle.rp_query.specs.QueryView.{totals_in}
use Rattle.rp_conditions.specs.Tested.{asked_of}
use Rattle.rp_known.specs.declared.place.Place.{Place}
use Rattle.rp_known.specs.Known.{Known, count}
use Rattle.rp_known.specs.Plans.{tested_by, first_read}
use Rattle.rp_known.specs.Items.{item_rows}
use Rattle.rp_known.specs.Walk.{leg, leg_items, found_at}
use Rattle.rp_known.specs.WalkLaws.{AreKnown}
use Rattle.rp_walker.specs.declared.ahead.Ahead.{Ahead}
use Rattle.rp_walker.specs.declared.record.MatcherState.{MatcherState}
use Rattle.rp_walker.specs.declared.run.Run.{Run}
use Rattle.rp_walker.specs.declared.stage.Ended.{Ended}
use Rattle.rp_walker.specs.declared.stage.Ended.TheVariants.{Match as EndedMatch, NoMatch as EndedNoMatch}
use Rattle.rp_walker.specs.declared.stage.Stage.{Stage}
use Rattle.rp_walker.specs.declared.stage.Stage.TheVariants.{Begin, Searching, Giving}
use Rattle.rp_walker.specs.declared.stage.Step.{Step}
use Rattle.rp_walker.specs.declared.stage.Step.TheVariants.{Went, Gave, Idle}
use Rattle.rp_walker.specs.Given.{is_hidden, shown_from, result_of, run_of}
use Rattle.rp_walker.specs.Records.{place_of}
use Rattle.rp_walker.specs.Steps.{IsDone}

-- what a search asks of a query over a known partition
abbrev pub asked_by : QueryData → Known → Asked
asked_by q p = asked_of (tested_by q p)

-- A run's totals are those of the labels of its search.
pub record Totalled (q : QueryData) (p : Known) (start : ℕ) (run : Run) : Type 0 where
  pub plan : plan_of run.totals ≡ totals_in q
  pub totals : AreTotals run.totals p.rows start (labels_of_search run.search.value)

-- a run for the query's pattern from a row
pub record Searches (q : QueryData) (p : Known) (start : ℕ) (run : Run) : Type 0 where
  pub known : start ≤ count p
  pub begins : start_of_search run.search.value ≡ start
  pub pattern : IsSearchFor (form_of q.pattern) run.search.value
  pub fits : SearchFits run.search.value (asked_by q p)
  pub totalled : Totalled q p start run

-- the rows of these that are shown
abbrev pub rows_ahead : QueryData → ℕ → Found → Ahead → List ℕ
rows_ahead q start result ahead = shown_from (is_hidden q.plan.rows start result) (ahead.end - ahead.next) ahead.next

abbrev pub MatchTotalled : QueryData → Known → ℕ → Ended → Type 0
MatchTotalled q p start (EndedNoMatch run) = ⊤
MatchTotalled q p start (EndedMatch run) = Totalled q p start run

-- A run is of the query, and its search from this row fits what is known, so that it can begin again from any row.
pub record Serves (q : QueryData) (p : Known) (start : ℕ) (run : Run) : Type 0 where
  pub begins : start_of_search run.search.value ≡ start
  pub pattern : IsSearchFor (form_of q.pattern) run.search.value
  pub fits : SearchFits run.search.value (asked_by q p)
  pub plan : plan_of run.totals ≡ totals_in q

-- A run is about to begin at a row.
pub record IsReady (q : QueryData) (p : Known) (start : ℕ) (run : Run) : Type 0 where
  pub serves : Serves q p start run
  pub labels : labels_of_search run.search.value ≡ []

-- a run that is kept for a row, if any
abbrev pub IsSpare : QueryData → Known → ℕ → Option Run → Type 0
IsSpare q p start None = ⊤
IsSpare q p start (Some run) = IsReady q p start run

-- The search at a place has ended, and the items of the rows ahead are still to come.
pub record Gives (q : QueryData) (p : Known) (place : Place) (result : Found) (ahead : Ahead) : Type 0 where
  pub known : place.start ≤ count p
  pub found : found_at q p place.start ≡ result
  pub in_rows : AreKnown place.start (count p) result
  pub passed : List ℕ
  pub rows : item_rows q.plan.rows place result ≡ passed ++ rows_ahead q place.start result ahead
  pub seen : ahead.seen ≡ length passed
  pub fewer : place.start + ahead.seen ≤ ahead.next
  pub low : place.start ≤ ahead.next
  pub ordered : ahead.next ≤ ahead.end
  pub high : ahead.end ≤ suc (count p)

-- A record whose answer goes on and that can go on: from row 1, with fewer matches than its row, what it reads is kept, and
-- no more items were given of its search than in all.
pub record IsGoing (q : QueryData) (r : MatcherState) : Type 0 where
  pub going : r.over ≡ false
  pub from_one : 1 ≤ r.at
  pub fewer : r.matches < r.at
  pub kept : r.first ≤ first_read q r.at
  pub enough : r.here ≤ r.given

-- what a stage holds stands over what is known
abbrev pub StageStands : QueryData → Known → MatcherState → Stage → Type 0
StageStands q p r (Begin spare) = IsSpare q p r.at spare
StageStands q p r (Searching run) = Searches q p r.at run
StageStands q p r (Giving found ahead) = Gives q p (place_of r) (result_of found) ahead × (ahead.seen ≤ r.here) × MatchTotalled q p r.at found × Serves q p r.at (run_of found)

-- turns of the present start row
abbrev pub stage_left : QueryData → Known → MatcherState → Stage → ℕ
stage_left q p r (Begin spare) = turns (count p) p.end (form_of q.pattern) r.at + length (words (count p) p.end (form_of q.pattern) r.at) + (count p - r.at) + 4
stage_left q p r (Searching run) = left_by run.search.value (asked_by q p) + (count p - r.at) + 4
stage_left q p r (Giving found ahead) = ahead.end - ahead.next + 2

-- the turns of the starts up to a row
abbrev pub starts_to : QueryData → Known → ℕ → ℕ
starts_to q p row = starts_turns (count p) p.end (form_of q.pattern) row

-- at most so many turns are left
abbrev pub left_with : QueryData → Known → MatcherState → Stage → ℕ
left_with q p r stage =
    if r.over then 0
    else 1 + (if nat_le r.at (count p) then stage_left q p r stage + (starts_to q p (count p) - starts_to q p r.at) else 0)

-- at most so many turns are left where the search of the record's start row is to begin
abbrev pub left_anew : QueryData → Known → MatcherState → ℕ
left_anew q p r = left_with q p r (Begin None)

-- what a step came to
abbrev pub StepIs : QueryData → Known → MatcherState → MatcherState → Step → Type 0
StepIs q p old new Went = new.given ≡ old.given
StepIs q p old new (Gave x) = (new.given ≡ old.given + 1) × (slice_get (leg_items (leg q p (place_of old))) old.here ≡ Some x)
StepIs q p old new Idle = (new.given ≡ old.given) × IsDone q p new

-- what is left falls by the turns taken, with an item by one at least, and doesn't rise where nothing comes
abbrev pub Lowers : ℕ → Step → ℕ → ℕ → Type 0
Lowers taken Went before after = after + taken ≤ before
Lowers taken (Gave x) before after = after < before
Lowers taken Idle before after = after ≤ before
