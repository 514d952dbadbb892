-- What turns of a search come to.
use Rattle.std.proofs.Common.{◌≡◌, ℕ, sym, ap, ◌∙◌}
use Rattle.rp_words.specs.PatternForm.{form_of}
use Rattle.rp_words.specs.Words.{words}
use Rattle.rp_search.specs.declared.search.Outcome.{Outcome}
use Rattle.rp_search.specs.declared.search.Outcome.TheVariants.{Match as MatchOutcome, NoMatch as NoMatchOutcome, Waits as WaitsOutcome, Paused as PausedOutcome}
use Rattle.rp_search.specs.declared.search.Search.{Search}
use Rattle.rp_search.specs.Found.{found}
use Rattle.rp_search.specs.Search.{IsSearchFor, RunAnswers, found_by, start_of_search}
use Rattle.rp_query.specs.declared.query.QueryData.{QueryData}
use Rattle.rp_conditions.specs.Tested.{asked_of, outcome_of}
use Rattle.rp_known.specs.Known.{Known, count}
use Rattle.rp_known.specs.Plans.{tested_by}
use Rattle.rp_known.specs.Walk.{found_at}
use Rattle.rp_why.specs.declared.seeking.Run.{Run}
use Rattle.rp_why.specs.Seeking.{CameTo}

-- a search for the query's pattern finds what is found at its row
pub found_same : (q : QueryData) (p : Known) (start : ℕ) (s : Search) → start_of_search s ≡ start → IsSearchFor (form_of q.pattern) s → found_by s (asked_of (tested_by q p)) ≡ found_at q p start
found_same q p start s begins pattern =
    ap (found (outcome_of (tested_by q p) (start_of_search s))) (pattern.same_words (count p) p.end (start_of_search s))
    ∙ ap (λ i. found (outcome_of (tested_by q p) i) (words (count p) p.end (form_of q.pattern) i)) begins

pub came_to : (q : QueryData) (p : Known) (start : ℕ) (old : Search) (new : Run) (outcome : Outcome) → found_by old (asked_of (tested_by q p)) ≡ found_at q p start → RunAnswers old new.search (asked_of (tested_by q p)) outcome → CameTo q p start new outcome
came_to q p start old new MatchOutcome e a = sym e ∙ a
came_to q p start old new NoMatchOutcome e a = sym e ∙ a
came_to q p start old new WaitsOutcome e a = tt
came_to q p start old new PausedOutcome e a = tt
