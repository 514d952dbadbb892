-- What a poll comes to.
use Rattle.std.specs.Prelude.{◌≡◌, ℕ, ◌+◌, ◌-◌, ◌^◌, ◌<◌, ◌≤◌, ◌⊎◌, Bool, true, false, ⊤, length, Some, slice_get}
use Rattle.rp_query.specs.declared.query.QueryData.{QueryData}
use Rattle.rp_query.specs.declared.item.Item.{Item}
use Rattle.rp_known.specs.Known.{Known}
use Rattle.rp_known.specs.Walk.{walk_from, known, leg}
use Rattle.rp_walker.specs.declared.poll.Poll.{Poll}
use Rattle.rp_walker.specs.declared.poll.Poll.TheVariants.{Item as ItemPoll, Idle as IdlePoll, Paused as PausedPoll}
use Rattle.rp_walker.specs.declared.record.MatcherState.{MatcherState}
use Rattle.rp_walker.specs.declared.walker.Walker.{Walker}
use Rattle.rp_walker.specs.FitLaws.{AgreesFrom}
use Rattle.rp_walker.specs.Records.{place_of, Fits, IsLastStart, IsLast}
use Rattle.rp_walker.specs.Steps.{IsDone, Moves, IsEnd}
use Rattle.rp_walker.specs.Stages.{left_with, left_anew}

-- the item comes next from the record's search on
abbrev pub IsNext : QueryData → Known → MatcherState → Item → Type 0
IsNext q p r x = slice_get (walk_from q p (place_of r)) r.here ≡ Some x

-- what is answered, where the walk moved from one record to another
abbrev pub PollIs : QueryData → Known → MatcherState → MatcherState → Poll → Type 0
PollIs q p old new (ItemPoll k x) = (k ≡ new.given) × (new.given ≡ old.given + 1) × IsNext q p old x
PollIs q p old new IdlePoll = (new.given ≡ old.given) × (IsDone q p new ⊎ (new.given ≡ 2 ^ 128 - 1))
PollIs q p old new PausedPoll = new.given ≡ old.given

-- at most so many turns a walker has left over these rows
unfoldable pub left_in : QueryData → Known → Walker → ℕ
left_in q p w = left_with q p w.state w.stage

-- the walker's own count of the calls of `enter` that its searches have made
unfoldable pub entered_by : Walker → ℕ
entered_by w = w.entered

-- At most budget turns are counted, and no more rows are entered than turns are counted; the count of the rows entered
-- never falls.
abbrev pub TurnsAreCounted : ℕ → ℕ → ℕ → ℕ → ℕ → Type 0
TurnsAreCounted budget steps steps' entered entered' =
    (steps' ≤ steps + budget) × (entered' + steps ≤ entered + steps') × (entered ≤ entered')

-- an item comes after one turn at least, and a paused poll has used up its budget
abbrev pub PollTakes : ℕ → ℕ → ℕ → Poll → Type 0
PollTakes budget steps steps' (ItemPoll k x) = steps < steps'
PollTakes budget steps steps' IdlePoll = steps ≤ steps'
PollTakes budget steps steps' PausedPoll = steps' ≡ steps + budget

-- An idle poll counts one turn at least, as long as the answer goes on and places can tell a further item.
abbrev pub IdleTakes : MatcherState → ℕ → ℕ → Poll → Type 0
IdleTakes old steps steps' (ItemPoll k x) = ⊤
IdleTakes old steps steps' IdlePoll = old.over ≡ false → old.given < 2 ^ 128 - 1 → steps < steps'
IdleTakes old steps steps' PausedPoll = ⊤

-- a paused poll takes its budget off what is left, an item one turn at least, and an idle poll doesn't raise it
abbrev pub PollLowers : ℕ → ℕ → ℕ → Poll → Type 0
PollLowers budget before after (ItemPoll k x) = after < before
PollLowers budget before after IdlePoll = after ≤ before
PollLowers budget before after PausedPoll = after + budget ≤ before

-- An item's place is the number of given items, which it raises by one, and with the end or a fault the answer is over.
-- Nothing else changes the number.
abbrev pub GivenBy : MatcherState → MatcherState → Poll → Type 0
GivenBy old new (ItemPoll k x) = (k ≡ new.given) × (new.given ≡ old.given + 1) × (IsLast x → new.over ≡ true)
GivenBy old new IdlePoll = new.given ≡ old.given
GivenBy old new PausedPoll = new.given ≡ old.given

-- the walk's part of a poll, where the answer wasn't over
pub record Polled (q : QueryData) (p : Known) (old new : MatcherState) (answer : Poll) : Type 0 where
  pub moves : Moves q p old new
  pub is : PollIs q p old new answer

-- what is answered, by what is known of a partition that the record fitted
abbrev pub AnswerIs : QueryData → Known → MatcherState → MatcherState → Poll → Type 0
AnswerIs q p old new (ItemPoll k x) =
    (k ≡ old.given + 1) × (new.given ≡ old.given + 1) × (slice_get (known q p) old.given ≡ Some x)
AnswerIs q p old new IdlePoll = (new.given ≡ old.given) × (length (known q p) ≡ old.given)
AnswerIs q p old new PausedPoll = new.given ≡ old.given

-- so it is for each partition that the lent rows are of and that the record fits
abbrev pub ForEachThatFits : QueryData → Known → MatcherState → (Known → Type 0) → Type 0
ForEachThatFits q k old says = (p : Known) → AgreesFrom old.first k p → Fits q old p → says p

-- What a poll over lent rows answers: the record fits afterwards, and the answer is by what is known.
abbrev pub Answers : QueryData → Known → MatcherState → MatcherState → Poll → Type 0
Answers q k old new answer = ForEachThatFits q k old (λ p. Fits q new p × AnswerIs q p old new answer)

-- Where a poll is idle and the answer isn't over, the walk doesn't end at the record's search, and comes to no later start
-- row.
abbrev pub StopsAtLast : QueryData → Known → MatcherState → MatcherState → Poll → Type 0
StopsAtLast q k old new answer =
    ForEachThatFits q k old (λ p. answer ≡ IdlePoll → new.over ≡ false →
    (IsEnd (leg q p (place_of new)) → ⊥) × IsLastStart q p new.at)

-- while the answer goes on, a record moves along the walk; once it is over, nothing but its first row changes
abbrev pub moves_by : Bool → QueryData → Known → MatcherState → MatcherState → Type 0
moves_by true q p old new = new ≡ record old { first = new.first }
moves_by false q p old new = Moves q p old new

-- What a poll does to the record, whatever it answers: it still fits, and it has moved along the walk.
abbrev pub GoesAlong : QueryData → Known → MatcherState → MatcherState → Type 0
GoesAlong q k old new = ForEachThatFits q k old (λ p. Fits q new p × moves_by old.over q p old new)

-- What is left where memory ran out: as many items were given, and as many turns are left as where the search of the
-- record's start row is yet to begin.
pub record StartsAgain (q : QueryData) (p : Known) (before : ℕ) (r : MatcherState) (turns : ℕ) : Type 0 where
  pub given : r.given ≡ before
  pub left : turns ≡ left_anew q p r
