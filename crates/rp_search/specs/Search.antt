-- What a caller needs of a search: what it is for, what a run of it comes to, and where it stands.
use Rattle.std.specs.Prelude.{◌≡◌, ℕ, true, ◌+◌, ◌<◌, ◌≤◌, List, [], length, Result, Ok, OnOk, IfSome}
use Rattle.std.specs.List.{AllByRecursion}
use Rattle.std.specs.declared.alloc.AllocError.{AllocError}
use Rattle.rp_words.specs.declared.form.Form.{Form}
use Rattle.rp_words.specs.declared.word.Label.{Label}
use Rattle.rp_words.specs.declared.word.End.{End}
use Rattle.rp_words.specs.declared.word.End.TheVariants.{Open as OpenEnd}
use Rattle.rp_words.specs.Mapping.{Mapping}
use Rattle.rp_words.specs.Words.{words}
use Rattle.rp_words.specs.Turns.{turns}
use Rattle.rp_words.specs.Variables.{are_below}
use Rattle.rp_words.specs.LabelLaws.{IsBelow}
use Rattle.rp_pattern.specs.Choices.{start_of, entered, whole_from, whole_turns_from}
use Rattle.rp_search.specs.declared.search.Search.{Search}
use Rattle.rp_search.specs.declared.search.Outcome.{Outcome}
use Rattle.rp_search.specs.declared.search.Outcome.TheVariants.{Match as MatchOutcome, NoMatch as NoMatchOutcome, Waits as WaitsOutcome, Paused as PausedOutcome}
use Rattle.rp_search.specs.Found.{Test, Found, found, Match, NoMatch, Waits}
use Rattle.rp_search.specs.Asked.{Asked, AskedExtend}
use Rattle.rp_search.specs.Fits.{SearchFits, left_by}

-- ---- what it is for

-- the row that a search begins at
unfoldable pub start_of_search : Search → ℕ
start_of_search s = start_of s.choices

-- the words of its pattern from any row, over the rows 1 to n and that end
unfoldable pub words_from : Search → ℕ → End → ℕ → List Mapping
words_from s n e row = whole_from s.choices n e row

-- how many turns it takes from that row at most, one for each word among them. A last turn that finds no choice isn't
-- counted.
unfoldable pub turns_from : Search → ℕ → End → ℕ → ℕ
turns_from s n e row = whole_turns_from s.choices n e row

-- the words from its start row
abbrev pub words_of_search : Search → ℕ → End → List Mapping
words_of_search s n e = words_from s n e (start_of_search s)

-- the same from its start row
abbrev pub most_turns : Search → ℕ → End → ℕ
most_turns s n e = turns_from s n e (start_of_search s)

-- It is a search for this pattern: from each row it has the pattern's words, and takes at most the pattern's turns, one
-- for each word, and a last one that finds no choice, which `turns_from` doesn't count.
pub record IsSearchFor (form : Form) (s : Search) : Type 0 where
  pub same_words : (n : ℕ) (e : End) (row : ℕ) → words_from s n e row ≡ words n e form row
  pub same_turns : (n : ℕ) (e : End) (row : ℕ) → turns_from s n e row ≡ turns n e form row + length (words n e form row)

-- It is for the same pattern: from every row it has the words that it had, and takes as many turns.
pub record IsForSamePattern (old new : Search) : Type 0 where
  pub words : (n : ℕ) (e : End) (row : ℕ) → words_from new n e row ≡ words_from old n e row
  pub turns : (n : ℕ) (e : End) (row : ℕ) → turns_from new n e row ≡ turns_from old n e row

-- It is the same search: its start row and its pattern stay, and so do the words from there and their turns.
pub record IsSameSearch (old new : Search) : Type 0 where
  pub start : start_of_search new ≡ start_of_search old
  pub pattern : IsForSamePattern old new
  pub words : (n : ℕ) (e : End) → words_of_search new n e ≡ words_of_search old n e
  pub turns : (n : ℕ) (e : End) → most_turns new n e ≡ most_turns old n e

-- from every row the labels of its words are of variables with a number below k
abbrev pub HasVariablesBelow : ℕ → Search → Type 0
HasVariablesBelow k s = (n : ℕ) (e : End) (row : ℕ) → AllByRecursion (IsBelow k) (words_from s n e row)

-- ---- what it finds

-- the tests of labels from its start row on
abbrev pub test_of : Search → Asked → Test
test_of s asked = asked.outcome (start_of_search s)

-- what is found among its words from its start row, over the known rows that are asked
abbrev pub found_by : Search → Asked → Found
found_by s asked = found (test_of s asked) (words_of_search s asked.known asked.end)

-- the labels of the rows that it has mapped, after a match those of the match
unfoldable pub labels_of_search : Search → List Label
labels_of_search s = entered s.choices

-- What a run answers is so: a match, whose labels the search then has, no match, or that it waits, over an open end
-- alone. Paused says nothing.
abbrev pub RunAnswers : Search → Search → Asked → Outcome → Type 0
RunAnswers old new asked MatchOutcome = found_by old asked ≡ Match (labels_of_search new)
RunAnswers old new asked NoMatchOutcome = found_by old asked ≡ NoMatch
RunAnswers old new asked WaitsOutcome = (found_by old asked ≡ Waits) × (asked.end ≡ OpenEnd)
RunAnswers old new asked PausedOutcome = Unit {0}

-- ---- what a run takes

-- how many turns its last run took that had a budget and didn't run out of memory
unfoldable pub turns_of_run : Search → ℕ
turns_of_run s = s.taken

-- A run counts at most its budget of turns: all of it where it is paused, and one at least where it has any and memory
-- isn't refused. It enters no more rows than it counts turns, and their count never falls.
pub record TakesTurns (budget : ℕ) (outcome : Result Outcome AllocError) (steps steps' entries entries' : ℕ) : Type 0 where
  pub grows : steps ≤ steps'
  pub within : steps' ≤ steps + budget
  pub paused : outcome ≡ Ok PausedOutcome → steps' ≡ steps + budget
  pub some : 0 < budget → OnOk outcome (steps < steps')
  pub enters : entries' + steps ≤ entries + steps'
  pub counts : entries ≤ entries'

-- The number of turns left never rises. It falls by one at least with each turn taken, but for the last one of a run
-- that isn't paused.
pub record Lowers (taken : ℕ) (old new : Search) (asked : Asked) (outcome : Outcome) : Type 0 where
  pub never_rises : left_by new asked ≤ left_by old asked
  pub falls : left_by new asked + taken ≤ left_by old asked + 1
  pub paused : outcome ≡ PausedOutcome → left_by new asked + taken ≤ left_by old asked

-- ---- where it stands

-- It stands at its start row, as a new one does: nothing is mapped, it fits whatever is asked, and all its turns are
-- left.
pub record IsAtStart (s : Search) : Type 0 where
  pub labels : labels_of_search s ≡ []
  pub fits : (asked : Asked) → SearchFits s asked
  pub left : (asked : Asked) → left_by s asked ≡ most_turns s asked.known asked.end

-- It stands at its start row, as a new one does, and fits what it did: it remembers where it failed.
pub record HasMoved (old new : Search) : Type 0 where
  pub labels : labels_of_search new ≡ []
  pub fits : (asked : Asked) → SearchFits old asked → SearchFits new asked
  pub left : (asked : Asked) → left_by new asked ≡ most_turns new asked.known asked.end

-- It may run on tests: its start row is known, the labels of its words are of variables that are tested, it is for the pattern that
-- is asked of, if one is, it fits what is asked, and its labels are those that were entered.
pub record CanRun (s : Search) (asked : Asked) (Entered : ℕ → List Label → Type 0) : Type 0 where
  pub known : start_of_search s ≤ asked.known
  pub variables : HasVariablesBelow asked.variables s
  pub pattern : IfSome asked.pattern (λ f. IsSearchFor f s)
  pub fits : SearchFits s asked
  pub entered : Entered (start_of_search s) (labels_of_search s)

-- A search that fits what is asked fits all that extends it.
abbrev pub SearchFitsStays : Type 0
SearchFitsStays = (s : Search) (old new : Asked) →
    AskedExtend (start_of_search s) old new → SearchFits s old → SearchFits s new

-- A search that fits what is asked has no more turns left than the pattern takes from its start row, and one for each
-- word.
abbrev pub LeftIsBounded : Type 0
LeftIsBounded = (s : Search) (asked : Asked) → SearchFits s asked → left_by s asked ≤ most_turns s asked.known asked.end

-- A search that fits what is asked has as many turns left where something else is asked that answers the same: each
-- extends the other.
abbrev pub LeftIsSame : Type 0
LeftIsSame = (s : Search) (old new : Asked) →
    AskedExtend (start_of_search s) old new → AskedExtend (start_of_search s) new old → SearchFits s old →
    left_by s new ≡ left_by s old

-- Where each variable of its pattern has a number below k, so has each in its words.
abbrev pub VariablesAreBelow : Type 0
VariablesAreBelow = (form : Form) (s : Search) (k : ℕ) →
    IsSearchFor form s → are_below k form ≡ true → HasVariablesBelow k s
