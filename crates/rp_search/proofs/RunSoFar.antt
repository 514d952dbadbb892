-- A run, after some turns that did not end it.
use Rattle.std.proofs.Common.{ℕ, ◌≡◌, ◌+◌, ◌*◌, ◌≤◌, ◌∙◌, List, Option, Some, None, IfSome, ap, arith, min, subst, sym}
use Rattle.std.specs.List.{AllByRecursion}
use Rattle.rp_words.specs.declared.form.Form.{Form}
use Rattle.rp_words.specs.declared.word.Label.{Label}
use Rattle.rp_words.specs.declared.word.End.{End}
use Rattle.rp_words.specs.LabelLaws.{IsBelow}
use Rattle.rp_words.specs.Words.{words}
use Rattle.rp_pattern.specs.Choices.{kept}
use Rattle.rp_pattern.specs.Ways.{all_weight}
use Rattle.rp_search.specs.declared.search.Search.{Search}
use Rattle.rp_search.specs.declared.search.Outcome.{Outcome}
use Rattle.rp_search.specs.declared.search.Outcome.TheVariants.{Match, NoMatch, Waits, Paused}
use Rattle.rp_search.specs.Asked.{Asked}
use Rattle.rp_search.specs.Fits.{left_by}
use Rattle.rp_search.specs.Found.{found}
use Rattle.rp_search.specs.Search.{CanRun, IsSameSearch, Lowers, RunAnswers, found_by, start_of_search, words_from, words_of_search}
use Rattle.rp_search.specs.Turned.{Covers, SearchSpent, Turned}
use Rattle.rp_search.specs.Work.{counted}
use Rattle.rp_search.proofs.Marks.{of_searched_words}

pub record RunsFor (taken : ℕ) (old now : Search) (asked : Asked) : Type 0 where
  pub same : IsSameSearch old now
  pub left : left_by now asked + taken ≤ left_by old asked

-- What the turns so far have spent.
abbrev pub RunSpends : ℕ → ℕ → Search → Search → Asked → Type 0
RunSpends asleep taken old now asked =
    SearchSpent taken (min taken asleep * all_weight (kept old.choices)) old now asked

pub same_then : (old mid new : Search) → IsSameSearch old mid → IsSameSearch mid new → IsSameSearch old new
same_then old mid new a b = record {
  start = b.start ∙ a.start;
  pattern = record { words = λ n e row. b.pattern.words n e row ∙ a.pattern.words n e row; turns = λ n e row. b.pattern.turns n e row ∙ a.pattern.turns n e row };
  words = λ n e. b.words n e ∙ a.words n e;
  turns = λ n e. b.turns n e ∙ a.turns n e;
}

still_of : (o : Option Form) (old now : Search) → IsSameSearch old now → IfSome o (λ f. (n : ℕ) (e : End) (row : ℕ) → words_from old n e row ≡ words n e f row) → IfSome o (λ f. (n : ℕ) (e : End) (row : ℕ) → words_from now n e row ≡ words n e f row)
still_of None old now same h = tt
still_of (Some f) old now same h = λ n e row. same.pattern.words n e row ∙ h n e row

-- what is asked covers a search, and so what it has become
pub covers_same : (old now : Search) (asked : Asked) → IsSameSearch old now → Covers asked old → Covers asked now
covers_same old now asked same covers = record {
  known = subst (λ i. i ≤ asked.known) (sym same.start) covers.known;
  variables = λ n e row. subst (AllByRecursion (IsBelow asked.variables)) (sym (same.pattern.words n e row)) (covers.variables n e row);
  pattern = still_of asked.pattern old now same covers.pattern;
}

pub still_covers : (old now : Search) (asked : Asked) (Entered : ℕ → List Label → Type 0) → CanRun old asked Entered → IsSameSearch old now → Covers asked now
still_covers old now asked Entered can same =
    covers_same old now asked same (record { known = can.known; variables = can.variables; pattern = of_searched_words asked.pattern old can.pattern })

found_same : (old mid : Search) (asked : Asked) → IsSameSearch old mid → found_by mid asked ≡ found_by old asked
found_same old mid asked same =
    ap (λ i. found (asked.outcome i) (words_of_search mid asked.known asked.end)) same.start ∙ ap (found (asked.outcome (start_of_search old))) (same.words asked.known asked.end)

-- what the last turn answers, the run answers
pub run_answers : (o : Outcome) (old mid new : Search) (asked : Asked) (before : ℕ) → IsSameSearch old mid → Turned 1 mid new asked before o → RunAnswers old new asked o
run_answers Match old mid new asked before same t = sym (found_same old mid asked same) ∙ t.0
run_answers NoMatch old mid new asked before same t = sym (found_same old mid asked same) ∙ t.0
run_answers Waits old mid new asked before same t = (sym (found_same old mid asked same) ∙ t.0, t.1)
run_answers Paused old mid new asked before same t = tt

turn_lowers : (o : Outcome) (old new : Search) (asked : Asked) (before : ℕ) → Turned 1 old new asked before o → left_by new asked + counted o ≤ before
turn_lowers Match old new asked before t = omega (arith, t.1)
turn_lowers NoMatch old new asked before t = omega (arith, t.1)
turn_lowers Waits old new asked before t = omega (arith, t.2)
turn_lowers Paused old new asked before t = t

-- the last turn lowers what is left as the others did, unless it ends the run
pub run_lowers : (o : Outcome) (taken : ℕ) (old mid new : Search) (asked : Asked) → RunsFor taken old mid asked → Turned 1 mid new asked (left_by mid asked) o → Lowers (taken + 1) old new asked o
run_lowers o taken old mid new asked so_far t =
    let lower = turn_lowers o mid new asked (left_by mid asked) t in
    record {
      never_rises = omega (arith, lower, so_far.left);
      falls = omega (arith, lower, so_far.left);
      paused = λ paused. omega (arith, lower, so_far.left, ap counted paused);
    }
