-- Inside: how many turns a search still takes at most, where what fails once fails for ever and is remembered: then each place is split
-- once at each row.
use Rattle.std.specs.Prelude.{◌≡◌, ◌≢◌, ℕ, suc, ◌+◌, ◌*◌, ◌<◌, ◌≤◌, Bool, true, false, ◌&&◌, ◌||◌, List, [], ◌∷◌, length, cond, nat_eq, nat_le, Option, Some, None, IfSome, ◌⊎◌}
use Rattle.std.specs.List.{AllByRecursion}
use Rattle.rp_words.specs.declared.word.End.{End}
use Rattle.rp_words.specs.declared.word.Label.{Label}
use Rattle.rp_words.specs.declared.word.Seen.{Seen}
use Rattle.rp_words.specs.declared.word.Seen.TheVariants.{True, NotTrue, Open as OpenTest}
use Rattle.rp_words.specs.Later.{AtEachLater}
use Rattle.rp_words.specs.Numbers.{most_u64}
use Rattle.rp_pattern.specs.declared.choices.Choices.{Choices}
use Rattle.rp_pattern.specs.Choices.{start_of, turns_left, turns_under, kept, costs, top_weight, KeepsUnder}
use Rattle.rp_pattern.specs.Ways.{Kept, IsNumbered, all_weight, kept_place_left, kept_places, kept_weight, weight_below}
use Rattle.rp_search.specs.declared.memo.Mark.{Mark}
use Rattle.rp_search.specs.declared.memo.Memo.{Memo}
use Rattle.rp_search.specs.declared.search.Outcome.{Outcome}
use Rattle.rp_search.specs.declared.search.Outcome.TheVariants.{Match as MatchOutcome, NoMatch as NoMatchOutcome, Waits as WaitsOutcome, Paused as PausedOutcome}
use Rattle.rp_search.specs.Asked.{Asked, rows_from}
use Rattle.rp_search.specs.Table.{until_of}

-- ---- what is remembered

-- a mark is of that place and row
abbrev pub is_marked : List Mark → ℕ → ℕ → Bool
is_marked [] place row = false
is_marked (mark ∷ marks) place row = (nat_eq mark.place place && nat_eq mark.row row) || is_marked marks place row

-- the place has been split at the row, or has failed there for ever
abbrev pub is_seen : Memo → ℕ → ℕ → Bool
is_seen memo place row = nat_le most_u64 (until_of memo.failed place row) || is_marked memo.marks place row

-- what both sides of a place take at a row where it hasn't been seen
abbrev pub fresh_weight : Kept → Memo → ℕ → ℕ → ℕ
fresh_weight k memo row place = cond (is_seen memo place row) 0 (kept_weight k place)

-- the same of all places, at so many rows from a first one on
abbrev pub fresh_work : Kept → Memo → ℕ → ℕ → ℕ
fresh_work k memo from rows = weight_below rows (λ i. weight_below (kept_places k) (fresh_weight k memo (from + i)))

-- the same of the places of marks
abbrev pub marked_work : Kept → List Mark → ℕ
marked_work k [] = 0
marked_work k (mark ∷ marks) = kept_weight k mark.place + marked_work k marks

-- Since it forgot all, memory wasn't refused for anything, and all that failed fails for ever.
abbrev pub KeepsAll : Memo → Type 0
KeepsAll memo = (memo.lost ≡ false) × (memo.passing ≡ false)

-- What failed above each of these marks so far fails for ever.
abbrev pub AllLast : List Mark → Type 0
AllLast marks = AllByRecursion (λ mark. most_u64 ≤ mark.until) marks

-- Since it forgot all, all that failed fails for ever: what is marked, and what is noted.
abbrev pub LastsAll : Memo → Type 0
LastsAll memo =
    (memo.passing ≡ false)
    × AllLast memo.marks
    × ((place row : ℕ) → 0 < until_of memo.failed place row → most_u64 ≤ until_of memo.failed place row)

-- nothing is marked, or what is given up fails for ever
abbrev pub NoneOrEver : List Mark → ℕ → Type 0
NoneOrEver marks until = (marks ≡ []) ⊎ (most_u64 ≤ until)

-- ---- marks

-- Fewer turns are left than there were before the mark's place was split. So it isn't come to again at its row before its mark is left.
abbrev pub TakesLess : Choices → Asked → Mark → Type 0
TakesLess c asked mark = AtEachLater asked.known asked.end
    (λ n e. turns_left c n e < turns_under c mark.height n e + kept_place_left (kept c) mark.place n e mark.row)

-- so it is of each mark
abbrev pub TakeLess : Choices → Asked → List Mark → Type 0
TakeLess c asked marks = AllByRecursion (TakesLess c asked) marks

-- The choices went on: no more turns are left, and those under each height stay.
pub record Sinks (old new : Choices) (n : ℕ) (e : End) : Type 0 where
  pub plan : kept new ≡ kept old
  pub under : KeepsUnder old new
  pub turns : AtEachLater n e (λ n' e'. turns_left new n' e' ≤ turns_left old n' e')

-- Where a row was settled, fewer turns are taken by the choices.
abbrev pub SettledCosts : Choices → Choices → Seen → Type 0
SettledCosts old new True = IsNumbered (kept old) → costs new < costs old
SettledCosts old new NotTrue = IsNumbered (kept old) → costs new < costs old
SettledCosts old new OpenTest = Unit {0}

-- and what was given up fails for ever
abbrev pub SettledEver : ℕ → Seen → Type 0
SettledEver until True = most_u64 ≤ until
SettledEver until NotTrue = most_u64 ≤ until
SettledEver until OpenTest = Unit {0}

-- Marks were taken away whose places have failed, or nothing is said of what is fresh any more.
abbrev pub NotesAll : Kept → ℕ → Memo → Memo → Type 0
NotesAll k from old new = KeepsAll new → KeepsAll old × ((rows : ℕ) → fresh_work k new from rows ≤ fresh_work k old from rows)

-- ---- the turns

-- so many turns of a search are taken before anything is remembered, where so many rows are known after its start row
abbrev pub first_turns : ℕ → ℕ
first_turns rows = 4 * rows + 1000

-- no test of a known row is open
abbrev pub NoneIsOpen : Asked → Type 0
NoneIsOpen asked = (start : ℕ) (labels : List Label) → start + length labels ≤ asked.known + 1 → asked.outcome start labels ≢ OpenTest

-- at how many rows a search may still come to a place: the known ones from its start row on, and the one after them
abbrev pub rows_ahead : Choices → Asked → ℕ
rows_ahead c asked = suc (rows_from (start_of c) asked.known)

-- the turns of the choices, and of all splits that aren't seen yet
abbrev pub work_of : Choices → Memo → Asked → ℕ
work_of c memo asked = costs c + fresh_work (kept c) memo (start_of c) (rows_ahead c asked)

-- The work that is left fell by so many turns, but for so much that splits added which aren't remembered: where places are numbered and
-- all is remembered.
pub record Spent (taken added : ℕ) (old new : Choices) (memo memo' : Memo) (asked : Asked) : Type 0 where
  pub plan : kept new ≡ kept old
  pub keeps : KeepsAll memo' → KeepsAll memo
  pub less : KeepsAll memo' → IsNumbered (kept old) → work_of new memo' asked + taken ≤ work_of old memo asked + added

-- a turn that isn't the last counts
abbrev pub counted : Outcome → ℕ
counted MatchOutcome = 0
counted NoMatchOutcome = 0
counted WaitsOutcome = 0
counted PausedOutcome = 1

-- what a turn adds at most: nothing where it is remembered, and else what all splits take
abbrev pub added_by : Bool → Choices → ℕ
added_by true c = 0
added_by false c = all_weight (kept c)

-- what the preferred choice adds, where it leaves no mark
abbrev pub unmarked : Option Mark → Choices → ℕ
unmarked (Some mark) c = 0
unmarked None c = top_weight c

-- where there is a mark, its place hasn't failed at its row for ever
abbrev pub IsFresh : Memo → Option Mark → Type 0
IsFresh memo mark = IfSome mark (λ m. until_of memo.failed m.place m.row < most_u64)
