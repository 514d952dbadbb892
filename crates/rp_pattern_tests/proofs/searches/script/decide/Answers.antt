use Rattle.std.proofs.Common.{◌≡◌, ap, sym, ◌∙◌, subst}
use Rattle.rp_search.specs.declared.search.Search.{Search}
use Rattle.rp_search.specs.declared.search.Outcome.{Outcome}
use Rattle.rp_search.specs.declared.search.Outcome.TheVariants.{Match, NoMatch, Waits, Paused}
use Rattle.rp_search.specs.Asked.{Asked}
use Rattle.rp_search.specs.Found.{found}
use Rattle.rp_pattern_tests.specs.Grid.{grid_asked}
use Rattle.rp_search.specs.Search.{IsSameSearch, RunAnswers, found_by, start_of_search, words_of_search}
use Rattle.rp_pattern_tests.proofs.searches.script.decide.Goals as goal

-- the same search finds the same
found_same : (old now : Search) (asked : Asked) → IsSameSearch old now → found_by old asked ≡ found_by now asked
found_same old now asked same =
    sym (ap (λ i. found (asked.outcome i) (words_of_search now asked.known asked.end)) same.start ∙ ap (found (asked.outcome (start_of_search old))) (same.words asked.known asked.end))

-- what the last of some runs answers holds of the search that the first one began with
answers_from : (old now new : Search) (asked : Asked) (outcome : Outcome) → found_by old asked ≡ found_by now asked → RunAnswers now new asked outcome → RunAnswers old new asked outcome
answers_from old now new asked Match same answers = same ∙ answers
answers_from old now new asked NoMatch same answers = same ∙ answers
answers_from old now new asked Waits same answers = (same ∙ answers.0, answers.1)
answers_from old now new asked Paused same answers = tt

pub returns-then-ne-clause-answers : goal.returns-then-ne-clause-answers
returns-then-ne-clause-answers g c =
    let asked = grid_asked c.args.grid.now.first.items c.args.grid.now.second.items c.args.grid.now.reach c.args.grid.now.known c.args.grid.now.end c.args.grid.now.named in
    answers_from c.args.search.now c.runs.search c.run_once.new.search asked c.run_once.new.decided.outcome (found_same c.args.search.now c.runs.search asked c.runs.invariant.1)
    (subst (λ asked. RunAnswers c.runs.search c.run_once.new.search asked c.run_once.new.decided.outcome) c.runs.invariant.2 c.in_ok-run_once.ensures.answers)
