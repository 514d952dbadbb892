-- What turns take off the work that is left.
use Rattle.std.proofs.Common.{◌≡◌, ℕ, suc, ◌+◌, ◌-◌, ◌*◌, ◌^◌, ◌<◌, ◌≤◌, List, [], length, Bool, true, false, cond, min, Option, Some, None, Result, Ok, Err, refl, sym, ap, ◌∙◌, subst, arith}
use Rattle.std.specs.Prelude.{◌≢◌, nat_eq, slice_get}
use Rattle.std.proofs.lemmas.Bool.Decides.{nat_tests}
use Rattle.rp_words.specs.declared.word.Label.{Label}
use Rattle.rp_words.specs.declared.word.Seen.TheVariants.{Open as OpenTest}
use Rattle.rp_pattern.specs.Choices.{kept}
use Rattle.rp_pattern.specs.Ways.{Kept, Parts, Places, IsNumbered, all_weight}
use Rattle.rp_search.specs.declared.search.Search.{Search}
use Rattle.rp_search.specs.declared.search.Outcome.{Outcome}
use Rattle.rp_search.specs.declared.search.Outcome.TheVariants.{Match as MatchOutcome, NoMatch as NoMatchOutcome}
use Rattle.rp_search.specs.Asked.{Asked, rows_from}
use Rattle.rp_search.specs.Bound.{HasPlaces, HasSamePlaces, MovesWork, RemembersAll, RunWorks, last_turn as run_last, row_work, rows_left, turns_asleep, WorkGrows, work_left}
use Rattle.rp_search.specs.Work.{first_turns}
use Rattle.rp_search.specs.Search.{start_of_search, turns_of_run}
use Rattle.rp_query.specs.declared.item.SkipFault.{SkipFault}
use Rattle.rp_query.specs.declared.item.Item.{Item}
use Rattle.rp_query.specs.declared.query.QueryData.{QueryData}
use Rattle.rp_query.specs.declared.plan.Condition.{Condition}
use Rattle.rp_query.specs.Definitions.{definition_of}
use Rattle.rp_query.specs.LooksBack.{ConditionsLookBack, looks_back_where_defined}
use Rattle.rp_eval.specs.Laws.{LookingBackTells}
use Rattle.rp_eval.specs.ValueOf.{Setting, judged}
use Rattle.rp_known.specs.declared.place.Place.{Place}
use Rattle.rp_known.specs.Known.{Known, count}
use Rattle.rp_conditions.specs.Decided.{tested_decides, told_decides}
use Rattle.rp_conditions.specs.Tested.{Tested, last_row, seen_at, seen_by}
use Rattle.rp_known.specs.Plans.{tested_by}
use Rattle.rp_known.specs.Skips.{next_start}
use Rattle.rp_known.specs.Walk.{Leg, Goes, Pauses, Ends, after_found, after_match}
use Rattle.rp_walker.specs.declared.ahead.Ahead.{Ahead}
use Rattle.rp_walker.specs.declared.poll.Poll.{Poll}
use Rattle.rp_walker.specs.declared.record.MatcherState.{MatcherState}
use Rattle.rp_walker.specs.declared.run.Run.{Run}
use Rattle.rp_walker.specs.declared.stage.Ended.{Ended}
use Rattle.rp_walker.specs.declared.stage.Ended.TheVariants.{Match as EndedMatch, NoMatch as EndedNoMatch}
use Rattle.rp_walker.specs.declared.stage.Stage.{Stage}
use Rattle.rp_walker.specs.declared.stage.Stage.TheVariants.{Begin, Searching, Giving}
use Rattle.rp_walker.specs.declared.stage.Step.{Step}
use Rattle.rp_walker.specs.declared.stage.Step.TheVariants.{Went, Gave, Idle}
use Rattle.rp_walker.specs.Bound.{BeginsBy, BeginsGiving, ClosedIsDecided, LookingBackIsDecided, PollWorks, RefusesForEver, RemembersBy, RunSpends, Spends, StageWorksBy, StepSpends, WalkerWorkGrows, WorkIsLinear, WorksBy, giving_work, last_step, last_turn, most_shown, new_work, search_work, spare_work, stage_work, starts_work, work_in, work_with}
use Rattle.rp_walker.specs.declared.walker.Walker.{Walker}
use Rattle.rp_walker.specs.Given.{IsShort, past_row, result_of, run_of}
use Rattle.rp_walker.specs.Records.{gave_last, place_of, was_last}
use Rattle.rp_walker.specs.Stages.{asked_by}
use Rattle.rp_walker.specs.Walking.{record_of}

-- ---- numbers

asleep_less : (a b m k : ℕ) → b + m ≤ a → b * k + m * k ≤ a * k
asleep_less a b m k h =
    let sum : a ≡ (b + m) + (a - (b + m)) = omega (arith, h) in
    omega (arith, ap (λ z. z * k) sum)

more_times : (a b k : ℕ) → b ≤ a → b * k ≤ a * k
more_times a b k h =
    let sum : a ≡ b + (a - b) = omega (arith, h) in
    omega (arith, ap (λ z. z * k) sum)

-- ---- a run of a search

numbered : (k : Kept) → 0 < all_weight k → IsNumbered k
numbered (Parts tail) h = absurd (omega (arith, h))
numbered (Places p f) h = tt

-- where a place splits, the places are numbered
places_of : (s : Search) → 0 < row_work s → HasPlaces s
unfolding HasPlaces row_work
places_of s h = numbered (kept s.choices) h

asleep_after : (s s' : Search) (asked : Asked) (taken : ℕ) (o : Outcome) → start_of_search s' ≡ start_of_search s → first_turns asked.known < 2 ^ 32 → RunWorks taken s s' asked o →
    turns_asleep s' asked + min taken (turns_asleep s asked) ≤ turns_asleep s asked
asleep_after s s' asked taken o same few w =
    let known : asked.known - start_of_search s' ≡ asked.known - start_of_search s = ap (λ i. asked.known - i) same in
    omega (arith, known, few, w.counts)

before_by : (first row : ℕ) (s s' : Search) → (RemembersAll s' → RemembersAll s) → HasSamePlaces s s' → WorksBy first row s' → WorksBy first row s
before_by first row s s' keeps same b = record { remembers = keeps b.remembers; first_is = sym same.same_start ∙ b.first_is; row_is = sym same.same_row ∙ b.row_is }

-- what is left to a search falls by the turns taken, but for a last one
module _ (q : QueryData) (p : Known) (old new : Run) (o : Outcome) (same : start_of_search new.search.value ≡ start_of_search old.search.value) (run : RunSpends q p old new o) (f : RefusesForEver q p) (first row : ℕ) (some : 0 < row) (by : WorksBy first row new.search.value) where
  abbrev works : RunWorks (turns_of_run new.search.value) old.search.value new.search.value (asked_by q p) o
  works = run f.alone f.decided

  pub run_by : WorksBy first row old.search.value
  run_by = before_by first row old.search.value new.search.value works.spends.keeps works.spends.same by

  pub run_spends : search_work row (asked_by q p) new.search.value + turns_of_run new.search.value ≤ search_work row (asked_by q p) old.search.value + run_last o
  run_spends =
      let asked : Asked = asked_by q p in
      let taken : ℕ = turns_of_run new.search.value in
      let asleep : ℕ = turns_asleep old.search.value asked in
      let splits : 0 < row_work old.search.value = subst (λ k. 0 < k) (sym run_by.row_is) some in
      let falls = works.spends.falls by.remembers (places_of old.search.value splits) in
      let by_row : min taken asleep * row_work old.search.value ≡ min taken asleep * row = ap (λ z. min taken asleep * z) run_by.row_is in
      omega (arith, falls, by_row, asleep_less asleep (turns_asleep new.search.value asked) (min taken asleep) row (asleep_after old.search.value new.search.value asked taken o same f.few works))

-- ---- steps

-- while the answer goes on
going_work : (first row : ℕ) (q : QueryData) (p : Known) (r : MatcherState) (stage : Stage) → r.over ≡ false → work_with first row q p r stage ≡ stage_work first row q p r.at stage
going_work first row q p r stage going = ap (λ b. cond b 0 (stage_work first row q p r.at stage)) going

-- a step to a stage at the same start row
stays_spending : (taken extra : ℕ) (q : QueryData) (p : Known) (r : MatcherState) (from : Stage) (r' : MatcherState) (to : Stage) → r.over ≡ false → r'.over ≡ false → r'.at ≡ r.at → r'.matches ≡ r.matches →
    (RefusesForEver q p → (first row : ℕ) → 0 < row → StageWorksBy first row to →
    StageWorksBy first row from × (stage_work first row q p r.at to + taken ≤ stage_work first row q p r.at from + extra)) →
    Spends taken extra q p r from r' to
stays_spending taken extra q p r from r' to going going' at same h =
    record {
      more = omega (arith, same);
      works = λ f first row some by.
          let k = h f first row some by in
          (k.0, λ _. omega (arith, k.1, going_work first row q p r from going, going_work first row q p r' to going', ap (λ i. stage_work first row q p i to) at));
    }

pub search_spends : (q : QueryData) (p : Known) (r : MatcherState) (old new : Run) (o : Outcome) (taken : ℕ) → r.over ≡ false → taken ≡ turns_of_run new.search.value → start_of_search new.search.value ≡ start_of_search old.search.value → RunSpends q p old new o →
    Spends taken (run_last o) q p r (Searching old) r (Searching new)
search_spends q p r old new o taken going is same run =
    stays_spending taken (run_last o) q p r (Searching old) r (Searching new) going going refl refl
    (λ f first row some by. (run_by q p old new o same run f first row some by, omega (arith, is, run_spends q p old new o same run f first row some by)))

-- A search has ended.
pub match_spends : (q : QueryData) (p : Known) (r : MatcherState) (old new : Run) (a : Ahead) (taken : ℕ) → r.over ≡ false → taken ≡ turns_of_run new.search.value → start_of_search new.search.value ≡ start_of_search old.search.value → RunSpends q p old new MatchOutcome →
    a.end - a.next ≤ rows_from r.at (count p) → Spends taken 0 q p r (Searching old) r (Giving (EndedMatch new) a)
match_spends q p r old new a taken going is same run few =
    stays_spending taken 0 q p r (Searching old) r (Giving (EndedMatch new) a) going going refl refl
    (λ f first row some by. (run_by q p old new MatchOutcome same run f first row some by, omega (arith, is, few, run_spends q p old new MatchOutcome same run f first row some by)))

pub no_match_spends : (q : QueryData) (p : Known) (r : MatcherState) (old new : Run) (a : Ahead) (taken : ℕ) → r.over ≡ false → taken ≡ turns_of_run new.search.value → start_of_search new.search.value ≡ start_of_search old.search.value → RunSpends q p old new NoMatchOutcome →
    a.end - a.next ≤ 1 → Spends taken 0 q p r (Searching old) r (Giving (EndedNoMatch new) a)
no_match_spends q p r old new a taken going is same run few =
    stays_spending taken 0 q p r (Searching old) r (Giving (EndedNoMatch new) a) going going refl refl
    (λ f first row some by. (
      run_by q p old new NoMatchOutcome same run f first row some by,
      omega (arith, is, few, (run f.alone f.decided).spends.none_held refl, run_spends q p old new NoMatchOutcome same run f first row some by),
    ))

-- a row of it was looked at
pub gives_on : (q : QueryData) (p : Known) (r r' : MatcherState) (found : Ended) (a b : Ahead) → r.over ≡ false → r'.over ≡ false → r'.at ≡ r.at → r'.matches ≡ r.matches → b.next ≡ a.next + 1 → b.end ≡ a.end → a.next < a.end →
    Spends 1 0 q p r (Giving found a) r' (Giving found b)
gives_on q p r r' found a b going going' at same next end more =
    stays_spending 1 0 q p r (Giving found a) r' (Giving found b) going going' at same (λ f first row some by. (by, falls found first row))
  where
    falls : (g : Ended) (first row : ℕ) → giving_work first row q p r.at g b + 1 ≤ giving_work first row q p r.at g a + 0
    falls (EndedMatch run) first row = omega (arith, next, end, more)
    falls (EndedNoMatch run) first row = omega (arith, next, end, more)

-- a turn in which nothing was to do
pub same_spends : (q : QueryData) (p : Known) (r : MatcherState) (stage : Stage) → Spends 1 1 q p r stage r stage
same_spends q p r stage = record { more = omega arith; works = λ f first row some by. (by, λ _. omega arith) }

-- no turn
pub none_spends : (taken extra : ℕ) (q : QueryData) (p : Known) (r : MatcherState) (stage : Stage) → taken ≡ 0 → Spends taken extra q p r stage r stage
none_spends taken extra q p r stage none = record { more = omega arith; works = λ f first row some by. (by, λ _. omega (arith, none)) }

-- ---- the answer ends

some_work : (first row : ℕ) (q : QueryData) (p : Known) (at : ℕ) (stage : Stage) → 1 ≤ stage_work first row q p at stage
some_work first row q p at (Begin spare) = omega arith
some_work first row q p at (Searching run) = omega arith
some_work first row q p at (Giving (EndedMatch run) a) = omega arith
some_work first row q p at (Giving (EndedNoMatch run) a) = omega arith

over_work : (first row : ℕ) (q : QueryData) (p : Known) (r : MatcherState) (stage : Stage) → r.over ≡ true → work_with first row q p r stage ≡ 0
over_work first row q p r stage over = ap (λ b. cond b 0 (stage_work first row q p r.at stage)) over

pub end_spends : (extra : ℕ) (q : QueryData) (p : Known) (r r' : MatcherState) (from to : Stage) → r.over ≡ false → r'.over ≡ true → r'.matches ≡ r.matches → ((first row : ℕ) → StageWorksBy first row to → StageWorksBy first row from) →
    Spends 1 extra q p r from r' to
end_spends extra q p r r' from to going over same back =
    record {
      more = omega (arith, same);
      works = λ f first row some by. (back first row by, λ _. omega (arith, over_work first row q p r' to over, going_work first row q p r from going, some_work first row q p r.at from));
    }

-- ---- a start row begins

begins_by : (first row : ℕ) (spare : Option Run) (run : Run) → BeginsBy spare run → StageWorksBy first row (Searching run) → StageWorksBy first row (Begin spare)
begins_by first row None run begins by = tt
begins_by first row (Some old) run begins by = subst (WorksBy first row) begins by

begins_work : (first row : ℕ) (q : QueryData) (p : Known) (at : ℕ) (spare : Option Run) (run : Run) → start_of_search run.search.value ≡ at → BeginsBy spare run → WorksBy first row run.search.value →
    stage_work first row q p at (Searching run) ≤ stage_work first row q p at (Begin spare)
begins_work first row q p at None run starts begins by =
    let s = run.search.value in
    let asked : Asked = asked_by q p in
    let left : rows_left s asked * row_work s ≡ suc (rows_from at (count p)) * row = ap (λ z. rows_left s asked * z) by.row_is ∙ ap (λ i. suc (rows_from i (count p)) * row) starts in
    let asleep : turns_asleep s asked ≤ first_turns (count p - at) = omega (arith, ap (λ i. first_turns (count p - i)) starts) in
    omega (arith, begins.most asked, by.first_is, left, more_times (first_turns (count p - at)) (turns_asleep s asked) row asleep)
begins_work first row q p at (Some old) run starts begins by =
    let same : search_work row (asked_by q p) run.search.value ≡ search_work row (asked_by q p) old.search.value = ap (search_work row (asked_by q p)) begins in
    omega (arith, same)

pub begin_spends : (taken extra : ℕ) (q : QueryData) (p : Known) (r : MatcherState) (spare : Option Run) (run : Run) (r' : MatcherState) (to : Stage) → r.over ≡ false → start_of_search run.search.value ≡ r.at → BeginsBy spare run →
    Spends taken extra q p r (Searching run) r' to → Spends taken extra q p r (Begin spare) r' to
begin_spends taken extra q p r spare run r' to going starts begins s =
    record {
      more = s.more;
      works = λ f first row some by.
          let k = s.works f first row some by in (
            begins_by first row spare run begins k.0,
            λ same. omega (arith, k.1 same, begins_work first row q p r.at spare run starts begins k.0, going_work first row q p r (Searching run) going, going_work first row q p r (Begin spare) going),
          );
    }

-- ---- a start row ends

abbrev goes_where : Place → Leg → Place
goes_where other (Goes xs next) = next
goes_where other (Pauses xs) = other
goes_where other (Ends xs) = other

counts_one : (place next : Place) (labels : List Label) (to : Result ℕ SkipFault) → after_match place labels to ≡ Goes [] next → next.matches ≡ suc place.matches
counts_one place next labels (Ok row) e = sym (ap (λ t. (goes_where place t).matches) e)
counts_one place next labels (Err fault) e = absurd (let h : Ends _ ≡ Goes [] next = e in cc)

module _ (q : QueryData) (p : Known) (r r' : MatcherState) (run : Run) (a : Ahead) (going : r.over ≡ false) (going' : r'.over ≡ false) (known : r.at ≤ count p) where
  pub no_match_ends : (old : Run) → MovesWork old.search.value run.search.value → start_of_search old.search.value ≡ r.at → start_of_search run.search.value ≡ r'.at → r'.at ≡ suc r.at → r'.matches ≡ r.matches →
      Spends 1 0 q p r (Giving (EndedNoMatch old) a) r' (Begin (Some run))
  no_match_ends old moves starts starts' at same =
      record {
        more = omega (arith, same);
        works = λ f first row some by.
            let s = old.search.value in
            let s' = run.search.value in
            let asked : Asked = asked_by q p in
            let old_by = before_by first row s s' moves.keeps moves.same by in
            let adds = moves.adds (omega (arith, starts, starts', at)) asked (omega (arith, starts', at, known)) in
            let rows : rows_from r.at (count p) ≡ suc (rows_from r'.at (count p)) = omega (arith, at, known) in
            let asleep : turns_asleep s' asked ≤ turns_asleep s asked =
            omega (arith, moves.counts, ap (λ i. count p - i) starts, ap (λ i. count p - i) starts', at) in (
              old_by,
              λ _. omega (
                arith,
                adds,
                old_by.first_is,
                ap (λ z. z * (first + 4)) rows,
                more_times (turns_asleep s asked) (turns_asleep s' asked) row asleep,
                going_work first row q p r (Giving (EndedNoMatch old) a) going,
                going_work first row q p r' (Begin (Some run)) going',
              ),
            );
      }

  match_ends : (old : Run) → MovesWork old.search.value run.search.value → r'.matches ≡ suc r.matches → Spends 1 0 q p r (Giving (EndedMatch old) a) r' (Begin (Some run))
  match_ends old moves counts =
      record {
        more = omega (arith, counts);
        works = λ f first row some by. (before_by first row old.search.value run.search.value moves.keeps moves.same by, λ same. absurd (omega (arith, same, counts)));
      }

  -- whichever it was
  pub row_spends : (found : Ended) (next : Place) → MovesWork (run_of found).search.value run.search.value → start_of_search (run_of found).search.value ≡ r.at → start_of_search run.search.value ≡ next.start →
      r'.at ≡ next.start → r'.matches ≡ next.matches → after_found q (place_of r) (result_of found) ≡ Goes [] next → Spends 1 0 q p r (Giving found a) r' (Begin (Some run))
  row_spends (EndedNoMatch old) next moves starts starts' at matches follows =
      let is : next ≡ record (place_of r) { start = suc r.at } = sym (ap (goes_where next) follows) in
      no_match_ends old moves starts (starts' ∙ sym at) (at ∙ ap (λ (x : Place). x.start) is) (matches ∙ ap (λ (x : Place). x.matches) is)
  row_spends (EndedMatch old) next moves starts starts' at matches follows =
      match_ends old moves (matches ∙ counts_one (place_of r) next _ (next_start q.plan.skip r.at _) follows)

-- ---- one after another

pub spends_then : (taken further extra : ℕ) (q : QueryData) (p : Known) (r : MatcherState) (from : Stage) (r' : MatcherState) (mid : Stage) (r'' : MatcherState) (to : Stage) (all : ℕ) →
    all ≡ taken + further → Spends taken 0 q p r from r' mid → Spends further extra q p r' mid r'' to → Spends all extra q p r from r'' to
spends_then taken further extra q p r from r' mid r'' to all is a b =
    record {
      more = omega (arith, a.more, b.more);
      works = λ f first row some by.
          let later = b.works f first row some by in
          let sooner = a.works f first row some later.0 in
          (sooner.0, λ same. omega (arith, is, later.1 (omega (arith, same, a.more, b.more)), sooner.1 (omega (arith, same, a.more, b.more))));
    }

-- so much more may be taken
pub spends_more : (taken extra all : ℕ) (q : QueryData) (p : Known) (r : MatcherState) (from : Stage) (r' : MatcherState) (to : Stage) → all ≡ taken → Spends taken 0 q p r from r' to → Spends all extra q p r from r' to
spends_more taken extra all q p r from r' to is a =
    record {
      more = a.more;
      works = λ f first row some by. let k = a.works f first row some by in (k.0, λ same. omega (arith, is, k.1 same));
    }

-- a last step, whichever it is
pub end_spends_by : (q : QueryData) (p : Known) (r r' : MatcherState) (from to : Stage) (step : Step) → r.over ≡ false → r'.over ≡ true → r'.matches ≡ r.matches → ((first row : ℕ) → StageWorksBy first row to → StageWorksBy first row from) →
    Spends 1 (last_step step) q p r from r' to
end_spends_by q p r r' from to step going over same back = end_spends (last_step step) q p r r' from to going over same back

-- ---- walkers

few_shown : (found : Ended) (p : Known) (at : ℕ) (a : Ahead) → at ≤ a.next → a.end ≤ count p + 1 → IsShort found a → a.end - a.next ≤ most_shown found p at
few_shown (EndedNoMatch run) p at a low high short = omega (arith, short)
few_shown (EndedMatch run) p at a low high short = omega (arith, low, high)

pub begins_giving_rows : (p : Known) (found : Ended) (w : Walker) (a : Ahead) → w.state.at ≤ a.next → a.end ≤ count p + 1 → IsShort found a → BeginsGiving p found w (record w { stage = Giving found a })
begins_giving_rows p found w a low high short = record { ahead = a; now = refl; few = few_shown found p w.state.at a low high short }

module _ (q : QueryData) (p : Known) (w new : Walker) (old run : Run) (taken : ℕ) (step : Step) (going : w.state.over ≡ false) (is : taken ≡ turns_of_run run.search.value) (same : start_of_search run.search.value ≡ start_of_search old.search.value) (went : step ≡ Went) where
  to_step : Spends taken 0 q p w.state (Searching old) new.state new.stage → StepSpends taken q p w.state (Searching old) new step
  to_step s = subst (λ t. StepSpends taken q p w.state (Searching old) new t) (sym went) s

  pub match_begins : RunSpends q p old run MatchOutcome → BeginsGiving p (EndedMatch run) w new → StepSpends taken q p w.state (Searching old) new step
  match_begins spends b =
      to_step (subst (λ n. Spends taken 0 q p w.state (Searching old) n.state n.stage) (sym b.now) (match_spends q p w.state old run b.ahead taken going is same spends b.few))

  pub no_match_begins : RunSpends q p old run NoMatchOutcome → BeginsGiving p (EndedNoMatch run) w new → StepSpends taken q p w.state (Searching old) new step
  no_match_begins spends b =
      to_step (subst (λ n. Spends taken 0 q p w.state (Searching old) n.state n.stage) (sym b.now) (no_match_spends q p w.state old run b.ahead taken going is same spends b.few))

-- a row is passed
pub pass_spends : (q : QueryData) (p : Known) (w new : Walker) (found : Ended) (a : Ahead) (seen : ℕ) (step : Step) → w.state.over ≡ false → a.next < a.end → step ≡ Went → new ≡ record w { stage = Giving found (past_row a seen) } →
    StepSpends 1 q p w.state (Giving found a) new step
pass_spends q p w new found a seen step going more went now =
    subst (λ t. StepSpends 1 q p w.state (Giving found a) new t) (sym went)
    (subst (λ n. Spends 1 0 q p w.state (Giving found a) n.state n.stage) (sym now)
    (gives_on q p w.state w.state found a (past_row a seen) going going refl refl refl refl more))

-- The answer ends by the last item, or was told its last before.
pub last_spends : (q : QueryData) (p : Known) (w new : Walker) (from to : Stage) (item : Item) (before : ℕ) (step : Step) → w.state.over ≡ false → ((first row : ℕ) → StageWorksBy first row to → StageWorksBy first row from) →
    (w.state.here ≢ before → (step ≡ Idle) × (new ≡ record w { state = was_last w.state; stage = to })) →
    (w.state.here ≡ before → (step ≡ Gave item) × (new ≡ record w { state = gave_last before w.state; stage = to })) →
    StepSpends 1 q p w.state from new step
last_spends q p w new from to item before step going back other due = go (nat_eq w.state.here before) refl
  where
    go : (b : Bool) → nat_eq w.state.here before ≡ b → StepSpends 1 q p w.state from new step
    go true e =
        let h = due (grind (arith, nat_tests)) in
        subst (λ n. StepSpends 1 q p w.state from n step) (sym h.1) (end_spends_by q p w.state (gave_last before w.state) from to step going refl refl back)
    go false e =
        let ne : w.state.here ≢ before = λ same. grind (arith, nat_tests, same) in
        let h = other ne in
        subst (λ n. StepSpends 1 q p w.state from n step) (sym h.1) (end_spends_by q p w.state (was_last w.state) from to step going refl refl back)

pub poll_works : (taken : ℕ) (q : QueryData) (p : Known) (old new : Walker) (answer : Poll) → Spends taken (last_turn answer) q p old.state old.stage new.state new.stage → PollWorks taken q p old new answer
unfolding record_of work_in RemembersBy
poll_works taken q p old new answer s = record {
  more = s.more;
  keeps = λ f first row some by. (s.works f first row some by).0;
  falls = λ f first row some by. (s.works f first row some by).1;
}

-- ---- rows that become known

module _ (grows : WorkGrows) (q : QueryData) (p p' : Known) (first row d : ℕ) (le : count p ≤ count p') (more : d ≡ count p' - count p) where
  starts_grow : (at : ℕ) → starts_work first (count p') at ≤ starts_work first (count p) at + d * (first + 4)
  starts_grow at =
      let rows : rows_from at (count p') ≤ rows_from at (count p) + d = omega (arith, le, more) in
      omega (arith, more_times (rows_from at (count p) + d) (rows_from at (count p')) (first + 4) rows)

  search_grows : (s : Search) → row_work s ≡ row → search_work row (asked_by q p') s ≤ search_work row (asked_by q p) s + 5 * (d * row)
  search_grows s is =
      let start : ℕ = start_of_search s in
      let now : ℕ = turns_asleep s (asked_by q p) in
      let later : ℕ = turns_asleep s (asked_by q p') in
      let asleep : later ≤ now + 4 * d = omega (arith, le, more) in
      let left : work_left s (asked_by q p') ≤ work_left s (asked_by q p) + d * row =
      subst (λ k. work_left s (asked_by q p') ≤ work_left s (asked_by q p) + k) (ap (λ k. k * row_work s) (sym more) ∙ ap (λ k. d * k) is) (grows s (asked_by q p) (asked_by q p') le) in
      omega (arith, left, more_times (now + 4 * d) later row asleep)

  new_grows : (at : ℕ) → new_work first row (count p') at ≤ new_work first row (count p) at + 5 * (d * row)
  new_grows at =
      let now : ℕ = suc (rows_from at (count p)) + first_turns (count p - at) in
      let later : ℕ = suc (rows_from at (count p')) + first_turns (count p' - at) in
      let rows : later ≤ now + 5 * d = omega (arith, le, more) in
      omega (arith, more_times (now + 5 * d) later row rows)

  spare_grows : (at : ℕ) (spare : Option Run) → StageWorksBy first row (Begin spare) → spare_work first row q p' at spare ≤ spare_work first row q p at spare + 5 * (d * row)
  spare_grows at None by = new_grows at
  spare_grows at (Some run) by = search_grows run.search.value by.row_is

  stage_grows : (at : ℕ) (stage : Stage) → StageWorksBy first row stage → stage_work first row q p' at stage ≤ stage_work first row q p at stage + d * (5 * row + first + 4)
  stage_grows at (Begin spare) by = omega (arith, spare_grows at spare by, starts_grow at)
  stage_grows at (Searching run) by = omega (arith, search_grows run.search.value by.row_is, starts_grow at)
  stage_grows at (Giving (EndedNoMatch run) a) by = omega (arith, search_grows run.search.value by.row_is, starts_grow at)
  stage_grows at (Giving (EndedMatch run) a) by =
      let rows : rows_from at (count p') ≤ rows_from at (count p) + d = omega (arith, le, more) in
      omega (arith, search_grows run.search.value by.row_is, more_times (rows_from at (count p) + d) (rows_from at (count p')) (first + 3) rows)

  pub with_grows : (r : MatcherState) (stage : Stage) → StageWorksBy first row stage → work_with first row q p' r stage ≤ work_with first row q p r stage + d * (5 * row + first + 4)
  with_grows r stage by = go r.over
    where
      go : (b : Bool) → cond b 0 (stage_work first row q p' r.at stage) ≤ cond b 0 (stage_work first row q p r.at stage) + d * (5 * row + first + 4)
      go true = omega arith
      go false = stage_grows r.at stage by

pub walker_grows : WorkGrows → WalkerWorkGrows
unfolding work_in RemembersBy
walker_grows grows q p p' first row w le by = with_grows grows q p p' first row (count p' - count p) le refl w.state w.stage by

pub work_linear : WorkIsLinear
work_linear first row n =
    let rows : suc (rows_from 1 n) + first_turns (n - 1) ≤ 5 * n + 1001 = omega arith in
    let starts : rows_from 1 n ≡ n = omega arith in
    omega (arith, more_times (5 * n + 1001) (suc (rows_from 1 n) + first_turns (n - 1)) row rows, ap (λ k. k * (first + 4)) starts)

pub closed_decides : ClosedIsDecided
closed_decides q p closed start labels known = tested_decides (tested_by q p) start labels closed

told_by : LookingBackTells → (s : Setting) → s.start + length s.labels ≤ length s.rows + 1 → (o : Option Condition) → looks_back_where_defined o ≡ true → seen_by s o ≢ OpenTest
told_by tells s on None back = λ e. cc
told_by tells s on (Some c) back = told_decides (judged s c) (tells s c on back)

told_at : LookingBackTells → (t : Tested) (start : ℕ) (labels : List Label) → ConditionsLookBack t.query.plan → start + length labels ≤ length t.rows + 1 → (o : Option Label) → seen_at t (last_row t start labels) o ≢ OpenTest
told_at tells t start labels back on None = λ e. cc
told_at tells t start labels back on (Some l) = told_by tells (last_row t start labels) on (definition_of t.query.plan l.var) (back l.var)

pub back_decides : LookingBackTells → LookingBackIsDecided
back_decides tells q p back start labels known = told_at tells (tested_by q p) start labels back known (slice_get labels (length labels - 1))

-- ---- a search that is let go of

pub let_go : (first row : ℕ) (q : QueryData) (p : Known) (r : MatcherState) (stage other : Stage) → r.over ≡ true → work_with first row q p r other ≡ work_with first row q p r stage
let_go first row q p r stage other over = over_work first row q p r other over ∙ sym (over_work first row q p r stage over)
