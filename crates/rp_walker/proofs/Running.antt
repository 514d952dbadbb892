-- What turns of a search come to.
use Rattle.std.proofs.Common.{◌≡◌, ℕ, sym, ap, ◌∙◌, subst, arith}
use Rattle.rp_words.specs.PatternForm.{form_of}
use Rattle.rp_words.specs.Words.{words}
use Rattle.rp_search.specs.declared.search.Outcome.{Outcome}
use Rattle.rp_search.specs.declared.search.Outcome.TheVariants.{Match as MatchOutcome, NoMatch as NoMatchOutcome, Waits as WaitsOutcome, Paused as PausedOutcome}
use Rattle.rp_search.specs.declared.search.Search.{Search}
use Rattle.rp_search.specs.Asked.{Asked}
use Rattle.rp_search.specs.Fits.{SearchFits}
use Rattle.rp_search.specs.Found.{found}
use Rattle.rp_search.specs.Search.{IsSearchFor, IsSameSearch, RunAnswers, Lowers, found_by, start_of_search, labels_of_search, turns_of_run}
use Rattle.rp_query.specs.declared.query.QueryData.{QueryData}
use Rattle.rp_eval.specs.Entered.{AreTotals, plan_of}
use Rattle.rp_query.specs.QueryView.{totals_in}
use Rattle.rp_conditions.specs.Tested.{outcome_of}
use Rattle.rp_known.specs.Known.{Known, count}
use Rattle.rp_known.specs.Plans.{tested_by}
use Rattle.rp_known.specs.Walk.{found_at}
use Rattle.rp_walker.specs.declared.run.Run.{Run}
use Rattle.rp_walker.specs.Stages.{Searches, asked_by}
use Rattle.rp_walker.specs.Runs.{Ran, CameTo}

found_same : (q : QueryData) (p : Known) (start : ℕ) (s : Search) → start_of_search s ≡ start → IsSearchFor (form_of q.pattern) s → found_by s (asked_by q p) ≡ found_at q p start
found_same q p start s begins pattern =
    ap (found (outcome_of (tested_by q p) (start_of_search s))) (pattern.same_words (count p) p.end (start_of_search s))
    ∙ ap (λ i. found (outcome_of (tested_by q p) i) (words (count p) p.end (form_of q.pattern) i)) begins

same_pattern : (q : QueryData) (old new : Search) → IsSameSearch old new → IsSearchFor (form_of q.pattern) old → IsSearchFor (form_of q.pattern) new
same_pattern q old new same h =
    record { same_words = λ n e row. same.pattern.words n e row ∙ h.same_words n e row; same_turns = λ n e row. same.pattern.turns n e row ∙ h.same_turns n e row }

came_to : (q : QueryData) (p : Known) (start : ℕ) (old : Search) (new : Run) (outcome : Outcome) → found_by old (asked_by q p) ≡ found_at q p start → RunAnswers old new.search.value (asked_by q p) outcome → CameTo q p start new outcome
came_to q p start old new MatchOutcome e a = sym e ∙ a
came_to q p start old new NoMatchOutcome e a = sym e ∙ a
came_to q p start old new WaitsOutcome e a = sym e ∙ a.0
came_to q p start old new PausedOutcome e a = tt

-- the run kept its search at its place, where it was called s
pub ran_of : (q : QueryData) (p : Known) (start : ℕ) (old new : Run) (s : Search) (outcome : Outcome) (a : Asked) (taken : ℕ) → s ≡ old.search.value → a ≡ asked_by q p → Searches q p start old → IsSameSearch s new.search.value →
    SearchFits new.search.value a → RunAnswers s new.search.value a outcome → Lowers taken s new.search.value a outcome → taken ≡ turns_of_run new.search.value → plan_of new.totals ≡ totals_in q →
    AreTotals new.totals p.rows start (labels_of_search new.search.value) → Ran q p start old new outcome
ran_of q p start old new s outcome a taken is e h same fits answers lowers many plan entered =
    let stayed : IsSameSearch old.search.value new.search.value = subst (λ x. IsSameSearch x new.search.value) is same in
    let now : Lowers taken old.search.value new.search.value (asked_by q p) outcome =
    subst (λ x. Lowers taken old.search.value new.search.value x outcome) e (subst (λ x. Lowers taken x new.search.value a outcome) is lowers) in
    record {
      searches =
          record {
            known = h.known;
            begins = stayed.start ∙ h.begins;
            pattern = same_pattern q old.search.value new.search.value stayed h.pattern;
            fits = subst (λ x. SearchFits new.search.value x) e fits;
            totalled = record { plan = plan; totals = entered };
          };
      came = came_to q p start old.search.value new outcome (found_same q p start old.search.value h.begins h.pattern)
          (subst (λ x. RunAnswers old.search.value new.search.value x outcome) e (subst (λ x. RunAnswers x new.search.value a outcome) is answers));
      left = now.never_rises;
      falls = omega (arith, now.falls, many);
      paused = λ is_paused. omega (arith, now.paused is_paused, many);
    }
