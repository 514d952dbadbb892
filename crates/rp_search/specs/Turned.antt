-- Inside: what one turn of a search does, within a run.
use Rattle.std.specs.Prelude.{◌≡◌, ℕ, ◌+◌, ◌<◌, ◌≤◌, List, [], ◌∷◌, ◌++◌, take, Option, Some, None, IfSome, IsSome, OnSome}
use Rattle.std.specs.List.{AllByRecursion}
use Rattle.rp_words.specs.declared.word.Label.{Label}
use Rattle.rp_words.specs.Mapping.{Mapping}
use Rattle.rp_words.specs.declared.word.End.{End}
use Rattle.rp_words.specs.declared.word.End.TheVariants.{Open as OpenEnd}
use Rattle.rp_words.specs.declared.word.Seen.{Seen}
use Rattle.rp_words.specs.declared.word.Seen.TheVariants.{True, NotTrue, Open as OpenTest}
use Rattle.rp_pattern.specs.declared.choices.Choices.{Choices}
use Rattle.rp_pattern.specs.declared.outlook.Outlook.{Outlook}
use Rattle.rp_words.specs.Later.{AtEachLater}
use Rattle.rp_words.specs.Numbers.{most_u64}
use Rattle.rp_words.specs.Words.{words}
use Rattle.rp_pattern.specs.Choices.{start_of, entered, height, above, turns_left}
use Rattle.rp_search.specs.declared.memo.Mark.{Mark}
use Rattle.rp_search.specs.declared.search.Search.{Search}
use Rattle.rp_search.specs.declared.search.Outcome.{Outcome}
use Rattle.rp_search.specs.declared.search.Outcome.TheVariants.{Match as MatchOutcome, NoMatch as NoMatchOutcome, Waits as WaitsOutcome, Paused as PausedOutcome}
use Rattle.rp_search.specs.Found.{Test, tested, Match, NoMatch, Waits}
use Rattle.rp_search.specs.Asked.{Asked, AreBelow, rows_from}
use Rattle.rp_search.specs.Refused.{RefusedUpTo}
use Rattle.rp_search.specs.Lasting.{IsPassed, OpensAlike}
use Rattle.rp_search.specs.Memo.{IsMarkOfTop, MeantBy}
use Rattle.rp_search.specs.Fits.{ChoicesFit, MarksStand, MemoStands, SearchStands, StandsBy, StandsAtRowBy, test_from, left_by}
use Rattle.rp_search.specs.Search.{HasVariablesBelow, found_by, labels_of_search, start_of_search, words_from}
use Rattle.rp_search.specs.Work.{IsFresh, LastsAll, NoneIsOpen, Spent, counted}

-- What is asked covers a search: its start row is known, the labels of its words are of variables that are tested, and it is for the
-- pattern that is asked of, if one is.
pub record Covers (asked : Asked) (s : Search) : Type 0 where
  pub known : start_of_search s ≤ asked.known
  pub variables : HasVariablesBelow asked.variables s
  pub pattern : IfSome asked.pattern (λ f. (n : ℕ) (e : End) (row : ℕ) → words_from s n e row ≡ words n e f row)

-- These labels are entered ones cut back to some depth.
pub record AreCutBack (Entered : List Label → Type 0) (labels : List Label) : Type 0 where
  pub before : List Label
  pub entered_before : Entered before
  pub depth : ℕ
  pub cut : labels ≡ take depth before

-- These labels are entered ones cut back to some depth, and a new one.
pub record AddsLabel (Entered : List Label → Type 0) (labels : List Label) : Type 0 where
  pub before : List Label
  pub entered_before : Entered before
  pub depth : ℕ
  pub label : Label
  pub added : labels ≡ take depth before ++ label ∷ []

-- a count never falls, and rises by so much at most
abbrev pub RisesAtMost : ℕ → ℕ → ℕ → Type 0
RisesAtMost most old new = (old ≤ new) × (new ≤ old + most)

-- The preferred choice maps a row that may be asked for: the start row is known, the labels are of variables that are tested, and
-- they are those that were entered.
pub record CanAsk (c : Choices) (asked : Asked) (Entered : ℕ → List Label → Type 0) : Type 0 where
  pub known : start_of c ≤ asked.known
  pub stands : StandsBy c asked
  pub row : StandsAtRowBy c asked
  pub below : AreBelow asked.variables (entered c)
  pub labels : Entered (start_of c) (entered c)

-- The preferred choice maps a new row: its label follows entered ones, of variables that are tested.
pub record MapsNewRow (c : Choices) (asked : Asked) (Entered : ℕ → List Label → Type 0) : Type 0 where
  pub stands : StandsBy c asked
  pub row : StandsAtRowBy c asked
  pub below : AddsLabel (AreBelow asked.variables) (entered c)
  pub labels : AddsLabel (Entered (start_of c)) (entered c)

-- Of the words above any height only such were passed over as are refused on known rows. The stack fell no further than
-- to there.
abbrev pub PassesOver : Choices → Choices → ℕ → End → Test → Type 0
PassesOver old new n e test = (h : ℕ) → h < height old → (h ≤ height new) × AtEachLater n e
    (λ n' e'. RefusedUpTo (rows_from (start_of old) n) test (above old h n' e') (above new h n' e'))

-- the choices went on by a turn: they fit, fewer turns are left, their labels are tested true, and only refused words were
-- passed over
pub record Goes (old new : Choices) (n : ℕ) (e : End) (test : Test) : Type 0 where
  pub stands : ChoicesFit new n e test
  pub admitted : tested test (entered new) ≡ True
  pub turns : turns_left new n e < turns_left old n e
  pub passes : PassesOver old new n e test

-- the choices went on by a turn, and their labels are of variables that are tested
pub record GoesOn (old new : Choices) (asked : Asked) : Type 0 where
  pub goes : Goes old new asked.known asked.end (test_from new asked)
  pub below : AreBelow asked.variables (entered new)

-- what became of the row that the preferred choice maps, by what its test said: the choices went on, or they stay where
-- it is open
abbrev pub Settled : Choices → Choices → Asked → Seen → Type 0
Settled old new asked True = GoesOn old new asked
Settled old new asked NotTrue = GoesOn old new asked
Settled old new asked OpenTest = (new ≡ old) × (test_from old asked (entered old) ≡ OpenTest)

-- where a row's further choices are explored, its test is open
abbrev pub IsOpenAt : Option Outlook → Choices → Test → Type 0
IsOpenAt None c test = Unit {0}
IsOpenAt (Some outlook) c test = test (entered c) ≡ OpenTest

-- The search is within a run: it stands by what is asked, and the test of a row that is explored is open.
pub record IsWithinRun (s : Search) (asked : Asked) : Type 0 where
  pub fits : SearchStands s asked
  pub is_open : IsOpenAt s.outlook s.choices (test_from s.choices asked)

-- A search is running: it is within a run, what it remembers is so, its marks are left in time, and its labels are those that were
-- entered.
pub record IsRunning (s : Search) (asked : Asked) (Entered : ℕ → List Label → Type 0) : Type 0 where
  pub searches : IsWithinRun s asked
  pub memo : MemoStands s asked
  pub marks : MarksStand s asked
  pub entered : Entered (start_of_search s) (labels_of_search s)

-- A search can take a turn: what is asked covers it, and it is running.
pub record CanTurn (s : Search) (asked : Asked) (Entered : ℕ → List Label → Type 0) : Type 0 where
  pub covers : Covers asked s
  pub running : IsRunning s asked Entered

-- The mark that the preferred choice may leave, if there is one: only tests that name their pattern have one, whose place hasn't failed
-- at its row for ever.
pub record CanMark (mark : Option Mark) (s : Search) (asked : Asked) : Type 0 where
  pub marked : IfSome mark (IsMarkOfTop s.choices)
  pub named : OnSome mark (IsSome asked.pattern)
  pub fresh : IsFresh s.memo mark

-- so far, what fails above the mark fails for ever
abbrev pub FailsForEver : Option Mark → Type 0
FailsForEver mark = IfSome mark (λ m. most_u64 ≤ m.until)

-- the search with this outlook
abbrev pub exploring : Search → Outlook → Search
exploring s outlook = record s { outlook = Some outlook }

-- What `taken` turns came to, from a search that had at most `before` left: an answer, with no more left, or as many
-- fewer.
abbrev pub Turned : ℕ → Search → Search → Asked → ℕ → Outcome → Type 0
Turned taken old new asked before MatchOutcome = (found_by old asked ≡ Match (labels_of_search new)) × (left_by new asked ≤ before)
Turned taken old new asked before NoMatchOutcome = (found_by old asked ≡ NoMatch) × (left_by new asked ≤ before)
Turned taken old new asked before WaitsOutcome = (found_by old asked ≡ Waits) × (asked.end ≡ OpenEnd) × (left_by new asked ≤ before)
Turned taken old new asked before PausedOutcome = left_by new asked + taken ≤ before

-- the work that is left to a search fell by so many turns, but for so much that splits added which aren't remembered
abbrev pub SearchSpent : ℕ → ℕ → Search → Search → Asked → Type 0
SearchSpent taken added old new asked = Spent taken added old.choices new.choices old.memo new.memo asked

-- on no condition
abbrev pub Anyway : Type 0
Anyway = Unit {0}

-- What a turn came to, whose splits that aren't remembered add so much at most. On the one condition it is taken off the work that is
-- left, on the other all that it remembers lasts for ever. Where no word is found, no place has a mark any more.
pub record TookTurn (added : Choices → ℕ) (Counted Always : Type 0) (old new : Search) (asked : Asked) (outcome : Outcome) : Type 0 where
  pub turned : Turned 1 old new asked (left_by old asked) outcome
  pub spent : Counted → NoneIsOpen asked → SearchSpent (counted outcome) (added old.choices) old new asked
  pub lasts : Always → LastsAll old.memo → LastsAll new.memo
  pub held : outcome ≡ NoMatchOutcome → new.memo.marks ≡ []

-- The turns taken are counted: one at least, and the whole budget where the search is paused.
pub record CountsTurns (budget : ℕ) (outcome : Outcome) (taken steps steps' : ℕ) : Type 0 where
  pub counted : steps' ≡ steps + taken
  pub some : 0 < taken
  pub paused : outcome ≡ PausedOutcome → taken ≡ budget

-- ---- for how long

-- nothing was passed over: the words above any height stay
abbrev pub PassesNothing : Choices → Choices → Asked → Type 0
PassesNothing old new asked = (h : ℕ) → h < height old → AtEachLater asked.known asked.end (λ n e. above new h n e ≡ above old h n e)

-- some words were passed over, before the rest, and fail from start rows below that one
pub record PassedUpTo (asked : Asked) (c : Choices) (until : ℕ) (ws rest : List Mapping) : Type 0 where
  pub front : List Mapping
  pub is : ws ≡ front ++ rest
  pub passed : AllByRecursion (IsPassed (MeantBy c) asked (start_of c) until) front

-- of the words above any height only such were passed over
abbrev pub PassesUntil : ℕ → Choices → Choices → Asked → Type 0
PassesUntil until old new asked = OpensAlike (MeantBy old) asked × ((h : ℕ) → h < height old → AtEachLater asked.known asked.end (λ n e.
    PassedUpTo asked old until (above old h n e) (above new h n e)))

-- what became of the row that the preferred choice maps, as to later start rows, by what its test said
abbrev pub SettledUntil : ℕ → Choices → Choices → Asked → Seen → Type 0
SettledUntil until old new asked True = PassesNothing old new asked
SettledUntil until old new asked NotTrue = start_of old < until → PassesUntil until old new asked
SettledUntil until old new asked OpenTest = Unit {0}
