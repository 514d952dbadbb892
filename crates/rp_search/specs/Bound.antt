-- How many turns a search takes at most over all its start rows, where what fails once fails for ever and all of it is remembered.
--
-- Over n rows at most `row_work` turns are left for each of the rows 1 to n + 1 when it begins, and `start_work` for its start row. A run
-- takes no more turns than what is left falls by, and a last one, but for the first turns of the search, in which nothing is remembered:
-- each of them adds `row_work` at most. To go on to the next start row adds `start_work`, and after a match what its marks hold. So
-- where nothing matches, all start rows together take at most (row_work + start_work + 1) * (n + 1) turns, and
-- (4 * n + 1,000) * row_work more.
use Rattle.std.specs.Prelude.{◌≡◌, ℕ, suc, ◌+◌, ◌-◌, ◌*◌, ◌^◌, ◌≤◌, min}
use Rattle.rp_pattern.specs.Choices.{kept}
use Rattle.rp_pattern.specs.Ways.{IsNumbered, all_weight, whole_cost}
use Rattle.rp_search.specs.declared.search.Search.{Search}
use Rattle.rp_search.specs.declared.search.Outcome.{Outcome}
use Rattle.rp_search.specs.declared.search.Outcome.TheVariants.{Match as MatchOutcome, NoMatch as NoMatchOutcome, Waits as WaitsOutcome, Paused as PausedOutcome}
use Rattle.rp_search.specs.Asked.{Asked, rows_from}
use Rattle.rp_search.specs.Search.{start_of_search}
use Rattle.rp_search.specs.Work.{KeepsAll, LastsAll, first_turns, marked_work, work_of}

-- how many turns are left at most, where no split is remembered in vain
unfoldable pub work_left : Search → Asked → ℕ
work_left s asked = work_of s.choices s.memo asked

-- Since it was made or restarted all that failed is remembered: memory was never refused for it, and it fails for ever.
unfoldable pub RemembersAll : Search → Type 0
RemembersAll s = KeepsAll s.memo

-- Since it was made or restarted all that failed fails for ever: so it is where the tests say so of each refusal.
unfoldable pub LastsForEver : Search → Type 0
LastsForEver s = LastsAll s.memo

-- the places of its pattern are numbered, as those of each pattern with a program are
unfoldable pub HasPlaces : Search → Type 0
HasPlaces s = IsNumbered (kept s.choices)

-- how many turns its first choice takes at a start row, where each split after it has failed before
unfoldable pub start_work : Search → ℕ
start_work s = whole_cost (kept s.choices)

-- how many turns the splits of all places take at a row
unfoldable pub row_work : Search → ℕ
row_work s = all_weight (kept s.choices)

-- those of the places that have a mark
unfoldable pub held_work : Search → ℕ
held_work s = marked_work (kept s.choices) s.memo.marks

-- how many turns its runs took since it was made: the count stays at 2^32 - 1
unfoldable pub turns_before : Search → ℕ
turns_before s = s.turns

-- in how many of its next turns nothing is remembered
abbrev pub turns_asleep : Search → Asked → ℕ
turns_asleep s asked = first_turns (asked.known - start_of_search s) - turns_before s

-- at how many rows it may still come to a place: the known ones from its start row on, and the one after them
abbrev pub rows_left : Search → Asked → ℕ
rows_left s asked = suc (rows_from (start_of_search s) asked.known)

-- a run that isn't paused has a last turn
abbrev pub last_turn : Outcome → ℕ
last_turn MatchOutcome = 1
last_turn NoMatchOutcome = 1
last_turn WaitsOutcome = 1
last_turn PausedOutcome = 0

-- It has the same places, which take as many turns.
pub record HasSamePlaces (old new : Search) : Type 0 where
  pub places : HasPlaces old → HasPlaces new
  pub same_start : start_work new ≡ start_work old
  pub same_row : row_work new ≡ row_work old

-- A run's turns are taken off what is left, but for the last one, and for what those add in which nothing is remembered. Where no word
-- is found, no place has a mark any more.
pub record Works (asleep taken : ℕ) (old new : Search) (asked : Asked) (outcome : Outcome) : Type 0 where
  pub keeps : RemembersAll new → RemembersAll old
  pub falls : RemembersAll new → HasPlaces old →
      work_left new asked + taken ≤ work_left old asked + last_turn outcome + min taken asleep * row_work old
  pub none_held : outcome ≡ NoMatchOutcome → held_work new ≡ 0
  pub same : HasSamePlaces old new

-- So it is of a run, whose turns are counted.
pub record RunWorks (taken : ℕ) (old new : Search) (asked : Asked) (outcome : Outcome) : Type 0 where
  pub spends : Works (turns_asleep old asked) taken old new asked outcome
  pub counts : min (turns_before old + taken) (2 ^ 32 - 1) ≤ turns_before new

-- When it stands at its start row, after it was made or restarted, no more is left than this.
pub record BeginsWork (s : Search) : Type 0 where
  pub all : RemembersAll s
  pub lasts : LastsForEver s
  pub most : (asked : Asked) → work_left s asked ≤ start_work s + rows_left s asked * row_work s

-- To go on to a row that isn't before and is known, or the one after, adds what the first choice takes there, and what the marks held.
pub record MovesWork (old new : Search) : Type 0 where
  pub keeps : RemembersAll new → RemembersAll old
  pub lasts : LastsForEver old → LastsForEver new
  pub same : HasSamePlaces old new
  pub counts : turns_before new ≡ turns_before old
  pub adds : start_of_search old ≤ start_of_search new → (asked : Asked) → start_of_search new ≤ asked.known + 1 →
      work_left new asked ≤ work_left old asked + start_work old + held_work old

-- With each row that becomes known no more is left than `row_work` more.
abbrev pub WorkGrows : Type 0
WorkGrows = (s : Search) (old new : Asked) → old.known ≤ new.known →
    work_left s new ≤ work_left s old + (new.known - old.known) * row_work s
