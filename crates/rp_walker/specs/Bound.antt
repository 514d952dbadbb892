-- How many turns a walker takes at most while it finds no further match, where what fails once fails for ever and all of it is
-- remembered.
--
-- A search takes no more turns than what is left to it falls by, and a last one (specs/Bound of rp_search). A walker searches from one row
-- after the other, so this is left to it: what is left to its search, with what the next turns add in which nothing is remembered; for each
-- row from its start row on `first` turns of the next start row's first choice, and four more: to end a search, to show its row as
-- unmatched, to go on to the next row, and to look at the row in a match; and what is still to do at its start row. Each poll may take one
-- turn besides, in which nothing is to do.
--
-- When it begins over n rows that is (5 * n + 1,001) * row + (n + 1) * (first + 4) at most, and each row that comes later adds
-- 5 * row + first + 4. So where nothing matches, all polls together take a number of turns that is linear in the rows.
use Rattle.std.specs.Prelude.{◌≡◌, ℕ, suc, ◌+◌, ◌-◌, ◌*◌, ◌^◌, ◌<◌, ◌≤◌, Bool, not, ◌&&◌, Option, Some, None, IfSome, if◌then◌else◌}
use Rattle.rp_words.specs.declared.word.End.TheVariants.{Closed}
use Rattle.rp_search.specs.declared.search.Search.{Search}
use Rattle.rp_search.specs.declared.search.Outcome.{Outcome}
use Rattle.rp_search.specs.Asked.{Asked, rows_from}
use Rattle.rp_search.specs.Bound.{BeginsWork, RemembersAll, RunWorks, held_work, row_work, start_work, turns_asleep, work_left}
use Rattle.rp_search.specs.Work.{NoneIsOpen, first_turns}
use Rattle.rp_search.specs.Search.{turns_of_run}
use Rattle.rp_query.specs.declared.locality.Locality.TheVariants.{Row}
use Rattle.rp_query.specs.declared.query.QueryData.{QueryData}
use Rattle.rp_query.specs.Locality.{ConditionsAreLocal}
use Rattle.rp_query.specs.LooksBack.{ConditionsLookBack}
use Rattle.rp_known.specs.Known.{Known, count}
use Rattle.rp_walker.specs.declared.ahead.Ahead.{Ahead}
use Rattle.rp_walker.specs.declared.poll.Poll.{Poll}
use Rattle.rp_walker.specs.declared.poll.Poll.TheVariants.{Item as ItemPoll, Idle as IdlePoll, Paused as PausedPoll}
use Rattle.rp_walker.specs.declared.record.MatcherState.{MatcherState}
use Rattle.rp_walker.specs.declared.run.Run.{Run}
use Rattle.rp_walker.specs.declared.stage.Ended.{Ended}
use Rattle.rp_walker.specs.declared.stage.Ended.TheVariants.{Match as EndedMatch, NoMatch as EndedNoMatch}
use Rattle.rp_walker.specs.declared.stage.Stage.{Stage}
use Rattle.rp_walker.specs.declared.stage.Stage.TheVariants.{Begin, Searching, Giving}
use Rattle.rp_walker.specs.declared.stage.Step.{Step}
use Rattle.rp_walker.specs.declared.stage.Step.TheVariants.{Went, Gave, Idle}
use Rattle.rp_walker.specs.declared.walker.Walker.{Walker}
use Rattle.rp_walker.specs.Given.{run_of}
use Rattle.rp_walker.specs.Records.{first_state}
use Rattle.rp_walker.specs.Stages.{asked_by}
use Rattle.rp_walker.specs.Walking.{record_of}

-- ---- where it holds

-- Each condition judges its row alone, so that what it refuses it refuses for ever; no test of a known row is open, as none is where no
-- condition looks ahead, or over a closed partition; and there are fewer rows than some thousand million.
pub record RefusesForEver (q : QueryData) (p : Known) : Type 0 where
  pub alone : ConditionsAreLocal Row q.plan
  pub decided : NoneIsOpen (asked_by q p)
  pub few : first_turns (count p) < 2 ^ 32

-- over a closed partition no test is open
abbrev pub ClosedIsDecided : Type 0
ClosedIsDecided = (q : QueryData) (p : Known) → p.end ≡ Closed → NoneIsOpen (asked_by q p)

-- where no condition looks ahead, no test of a known row is open over an open partition either
abbrev pub LookingBackIsDecided : Type 0
LookingBackIsDecided = (q : QueryData) (p : Known) → ConditionsLookBack q.plan → NoneIsOpen (asked_by q p)

-- A search remembers all that failed, and takes so many turns: its first choice at a start row, and the splits of all places at a row.
pub record WorksBy (first row : ℕ) (s : Search) : Type 0 where
  pub remembers : RemembersAll s
  pub first_is : start_work s ≡ first
  pub row_is : row_work s ≡ row

-- the search of an earlier start row, if one is kept
abbrev pub spare_search : Option Run → Option Search
spare_search None = None
spare_search (Some run) = Some run.search.value

-- the search of a stage, if it has one
abbrev pub search_of : Stage → Option Search
search_of (Begin spare) = spare_search spare
search_of (Searching run) = Some run.search.value
search_of (Giving found ahead) = Some (run_of found).search.value

abbrev pub StageWorksBy : ℕ → ℕ → Stage → Type 0
StageWorksBy first row stage = IfSome (search_of stage) (WorksBy first row)

-- so it is of the search that a walker has, if it has one
unfoldable pub RemembersBy : ℕ → ℕ → Walker → Type 0
RemembersBy first row w = StageWorksBy first row w.stage

-- ---- what is left

-- of a search: with what its next turns add in which nothing is remembered
abbrev pub search_work : ℕ → Asked → Search → ℕ
search_work row asked s = work_left s asked + turns_asleep s asked * row

-- of a search that is to begin at a row, over n rows
abbrev pub new_work : ℕ → ℕ → ℕ → ℕ → ℕ
new_work first row n at = first + (suc (rows_from at n) + first_turns (n - at)) * row

-- The search of an earlier start row goes on to this one; where none is kept, one is made.
abbrev pub spare_work : ℕ → ℕ → QueryData → Known → ℕ → Option Run → ℕ
spare_work first row q p at None = new_work first row (count p) at
spare_work first row q p at (Some run) = search_work row (asked_by q p) run.search.value

-- what start rows still take: the one after each row from this one on
abbrev pub starts_work : ℕ → ℕ → ℕ → ℕ
starts_work first n at = rows_from at n * (first + 4)

-- of a search that has ended, of which these rows are still to be looked at. A match has taken up what was kept to show one.
abbrev pub giving_work : ℕ → ℕ → QueryData → Known → ℕ → Ended → Ahead → ℕ
giving_work first row q p at (EndedNoMatch run) a =
    search_work row (asked_by q p) run.search.value + held_work run.search.value + (a.end - a.next) + 1 + starts_work first (count p) at
giving_work first row q p at (EndedMatch run) a =
    search_work row (asked_by q p) run.search.value + (a.end - a.next) + 1 + rows_from at (count p) * (first + 3)

abbrev pub stage_work : ℕ → ℕ → QueryData → Known → ℕ → Stage → ℕ
stage_work first row q p at (Begin spare) = spare_work first row q p at spare + 3 + starts_work first (count p) at
stage_work first row q p at (Searching run) = search_work row (asked_by q p) run.search.value + 3 + starts_work first (count p) at
stage_work first row q p at (Giving found a) = giving_work first row q p at found a

-- none once the answer is over
abbrev pub work_with : ℕ → ℕ → QueryData → Known → MatcherState → Stage → ℕ
work_with first row q p r stage = if r.over then 0 else stage_work first row q p r.at stage

-- how many turns are left to a walker at most, before it finds a further match
unfoldable pub work_in : ℕ → ℕ → QueryData → Known → Walker → ℕ
work_in first row q p w = work_with first row q p w.state w.stage

-- of a walker that goes on from a record, over n rows
abbrev pub work_anew : ℕ → ℕ → ℕ → MatcherState → ℕ
work_anew first row n r = if r.over then 0 else new_work first row n r.at + 3 + starts_work first n r.at

-- ---- what turns take off it

-- So many turns are taken off what is left, but for so many, as long as no further match ends. What is remembered at last was so before.
pub record Spends (taken extra : ℕ) (q : QueryData) (p : Known) (old : MatcherState) (from : Stage) (new : MatcherState) (to : Stage) : Type 0 where
  pub more : old.matches ≤ new.matches
  pub works : RefusesForEver q p → (first row : ℕ) → 0 < row → StageWorksBy first row to →
      StageWorksBy first row from
      × (new.matches ≡ old.matches → work_with first row q p new to + taken ≤ work_with first row q p old from + extra)

-- a step after which nothing is to do has a last turn
abbrev pub last_step : Step → ℕ
last_step Went = 0
last_step (Gave x) = 0
last_step Idle = 1

-- and so has an idle poll
abbrev pub last_turn : Poll → ℕ
last_turn (ItemPoll k x) = 0
last_turn IdlePoll = 1
last_turn PausedPoll = 0

-- so many turns of a step, from a stage on
abbrev pub StepSpends : ℕ → QueryData → Known → MatcherState → Stage → Walker → Step → Type 0
StepSpends taken q p old from new step = Spends taken (last_step step) q p old from new.state new.stage

-- What so many turns of a poll take off the work that is left. It finds no further match where the record counts as many as before. A
-- place of the pattern splits where `row` isn't 0; where none does, a start row has one word, and `left_in` is as low.
pub record PollWorks (taken : ℕ) (q : QueryData) (p : Known) (old new : Walker) (answer : Poll) : Type 0 where
  pub more : (record_of old).matches ≤ (record_of new).matches
  pub keeps : RefusesForEver q p → (first row : ℕ) → 0 < row → RemembersBy first row new → RemembersBy first row old
  pub falls : RefusesForEver q p → (first row : ℕ) → 0 < row → RemembersBy first row new →
      (record_of new).matches ≡ (record_of old).matches →
      work_in first row q p new + taken ≤ work_in first row q p old + last_turn answer

-- Over so many rows no more is left to a walker that has known nothing.
abbrev pub WorkIsLinear : Type 0
WorkIsLinear = (first row n : ℕ) → work_anew first row n first_state ≤ (5 * n + 1001) * row + (n + 1) * (first + 4)

-- With each row that becomes known no more is left than so much more.
abbrev pub WalkerWorkGrows : Type 0
WalkerWorkGrows = (q : QueryData) (p p' : Known) (first row : ℕ) (w : Walker) → count p ≤ count p' → RemembersBy first row w →
    work_in first row q p' w ≤ work_in first row q p w + (count p' - count p) * (5 * row + first + 4)

-- ---- as it is seen

-- it remembers all that failed
abbrev pub remembers_all : Search → Bool
remembers_all s = not s.memo.lost && not s.memo.passing

-- What is seen of a search that remembers all that failed: how many turns its first choice takes at a start row and the splits of all
-- places at a row, and how many are left to its walker at most.
pub record SearchSeen : Type 0 where
  pub first : ℕ
  pub row : ℕ
  pub left : ℕ

abbrev pub seen_of : Option Search → (ℕ → ℕ → ℕ) → Option SearchSeen
seen_of None left = None
seen_of (Some s) left =
    if remembers_all s
    then Some (record { first = start_work s; row = row_work s; left = left (start_work s) (row_work s) })
    else None

-- of a walker; none where it has no search, or one that has lost something
unfoldable pub search_seen : QueryData → Known → Walker → Option SearchSeen
search_seen q p w = seen_of (search_of w.stage) (λ first row. work_with first row q p w.state w.stage)

-- the same places, by their turns
abbrev pub IsSeenAs : SearchSeen → SearchSeen → Type 0
IsSeenAs new old = (old.first ≡ new.first) × (old.row ≡ new.row)

-- how many turns were left before, over n rows: those of a search that was to be made, where there was none
abbrev pub left_before : Option SearchSeen → SearchSeen → ℕ → MatcherState → ℕ
left_before None new n r = work_anew new.first new.row n r
left_before (Some old) new n r = old.left

-- What a poll's turns take off what is seen to be left. A search that remembers all at last did so before, or is new.
pub record SeenWorks (taken : ℕ) (q : QueryData) (p : Known) (old new : Option SearchSeen) (before after : MatcherState) (answer : Poll) : Type 0 where
  pub same : RefusesForEver q p → (s : SearchSeen) → new ≡ Some s → 0 < s.row → IfSome old (IsSeenAs s)
  pub falls : RefusesForEver q p → (s : SearchSeen) → new ≡ Some s → 0 < s.row → after.matches ≡ before.matches →
      s.left + taken ≤ left_before old s (count p) before + last_turn answer

-- so it is of each poll
abbrev pub PollsAreSeen : Type 0
PollsAreSeen = (taken : ℕ) (q : QueryData) (p : Known) (old new : Walker) (answer : Poll) → PollWorks taken q p old new answer →
    SeenWorks taken q p (search_seen q p old) (search_seen q p new) (record_of old) (record_of new) answer

-- so many rows became known
abbrev pub SeenRises : ℕ → Option SearchSeen → Option SearchSeen → Type 0
SeenRises rows None new = new ≡ None
SeenRises rows (Some old) new =
    (s : SearchSeen) × (new ≡ Some s) × IsSeenAs s old × (s.left ≤ old.left + rows * (5 * old.row + old.first + 4))

abbrev pub SeenGrows : Type 0
SeenGrows = (q : QueryData) (p p' : Known) (w : Walker) → count p ≤ count p' →
    SeenRises (count p' - count p) (search_seen q p w) (search_seen q p' w)

-- over as many rows the same is seen
abbrev pub SeenIsSame : Type 0
SeenIsSame = (q : QueryData) (p p' : Known) (w : Walker) → count p' ≡ count p → search_seen q p' w ≡ search_seen q p w

-- ---- runs of a search

-- a run of a search that begins: a new one, or one that was kept
abbrev pub BeginsBy : Option Run → Run → Type 0
BeginsBy None run = BeginsWork run.search.value
BeginsBy (Some old) run = run.search.value ≡ old.search.value

-- what turns of a run take off what is left to its search
abbrev pub RunSpends : QueryData → Known → Run → Run → Outcome → Type 0
RunSpends q p old new outcome = ConditionsAreLocal Row q.plan → NoneIsOpen (asked_by q p) →
    RunWorks (turns_of_run new.search.value) old.search.value new.search.value (asked_by q p) outcome

-- how many rows a search that has ended shows at most, from a start row on
abbrev pub most_shown : Ended → Known → ℕ → ℕ
most_shown (EndedNoMatch run) p at = 1
most_shown (EndedMatch run) p at = rows_from at (count p)

-- the walker gives the rows of a search that has ended
pub record BeginsGiving (p : Known) (found : Ended) (old new : Walker) : Type 0 where
  pub ahead : Ahead
  pub now : new ≡ record old { stage = Giving found ahead }
  pub few : ahead.end - ahead.next ≤ most_shown found p old.state.at
