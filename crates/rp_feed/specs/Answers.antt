-- What is answered to a row and to a close, and what they leave behind.
use Rattle.std.specs.Prelude.{◌≡◌, ℕ, ◌+◌, ◌≤◌, ◌==◌, Bool, false, List, Option, None, Some, Result, Ok, Err, nat_lt, ◌||◌, if◌then◌else◌}
use Rattle.std.specs.List.{list_any}
use Rattle.rp_value.specs.declared.value.Value.{Value}
use Rattle.rp_feed.specs.declared.answer.Taken.{Taken}
use Rattle.rp_feed.specs.declared.answer.Taken.TheVariants.{New, Repeat, Old}
use Rattle.rp_feed.specs.declared.answer.FeedFault.{FeedFault}
use Rattle.rp_feed.specs.declared.answer.FeedFault.TheVariants.{NumberRange, PastClose, Conflict, TooFar, CloseDiffers, CloseBelow, OutOfMemory}
use Rattle.rp_feed.specs.Limits.{greatest_number, most_beyond}
use Rattle.rp_feed.specs.Fed.{Fed, IsFree, row_at, front_of}

-- what is answered to a row or to a close: what it is, or why it is refused
abbrev pub Answer : Type 0
Answer = Result Taken FeedFault

-- whether a number is above the close's count
abbrev pub is_past : Option ℕ → ℕ → Bool
is_past None n = false
is_past (Some count) n = nat_lt count n

-- whether the row that is held at a number, if one is, is the same as another
abbrev pub compared : (List Value → List Value → Bool) → Option (List Value) → List Value → Option Bool
compared same None row = None
compared same (Some held) row = Some (same held row)

-- the answer to a row by whether the row that is held at its number is the same: it repeats that or conflicts with it; where none
-- is held, the later rules answer
abbrev pub held_answer : Option Bool → Answer → Answer
held_answer None later = later
held_answer (Some is_same) later = if is_same then Ok Repeat else Err Conflict

-- the answer to a row, the first of these that fits: the number is 0 or too great, above the close's count, that of a dropped row
-- (below `first`), that of a row that is held, too far above the front; else the row is New
abbrev pub row_answer : (List Value → List Value → Bool) → Fed → ℕ → List Value → Answer
row_answer same fed n row =
    if n == 0 || nat_lt greatest_number n then Err NumberRange
    else (if is_past fed.closed n then Err PastClose
    else (if nat_lt n fed.first then Ok Old
    else held_answer (compared same (row_at fed.rows n) row)
    (if nat_lt (front_of fed + most_beyond) n then Err TooFar else Ok New)))

-- the answer to a close by the count of an earlier one: it repeats that or differs from it; where there was none, the later rules
-- answer
abbrev pub closed_answer : Option ℕ → ℕ → Answer → Answer
closed_answer None count later = later
closed_answer (Some earlier) count later = if earlier == count then Ok Repeat else Err CloseDiffers

-- whether a number above this one was taken
abbrev pub has_above : Fed → ℕ → Bool
has_above fed n = nat_lt (n + 1) fed.first || list_any (λ e. nat_lt n e.0) fed.rows

-- the answer to a close, the first of these that fits: the count is too great, there was a close, a number above the count was
-- taken; else the close is New
abbrev pub close_answer : Fed → ℕ → Answer
close_answer fed count =
    if nat_lt greatest_number count then Err NumberRange
    else closed_answer fed.closed count (if has_above fed count then Err CloseBelow else Ok New)

-- what an answer says of the row, being out of memory aside: that says that the row would have been New
abbrev pub memory_aside : Answer → Answer
memory_aside (Err OutOfMemory) = Ok New
memory_aside answer = answer

-- what an answer leaves behind: the changed feed where it is New, and else the feed as it was
abbrev pub after : Answer → Fed → Fed → Fed
after (Ok New) changed fed = changed
after answer changed fed = fed

-- a row of that number is due: the feed can take it as New
pub record IsDue (fed : Fed) (n : ℕ) : Type 0 where
  pub least : 1 ≤ n
  pub greatest : n ≤ greatest_number
  pub within : is_past fed.closed n ≡ false
  pub free : IsFree fed n
  pub near : n ≤ front_of fed + most_beyond

-- a close with that count is due: the feed can take it as New
pub record IsDueClose (fed : Fed) (count : ℕ) : Type 0 where
  pub greatest : count ≤ greatest_number
  pub unclosed : fed.closed ≡ None
  pub within : has_above fed count ≡ false

-- only a row that is due is New
abbrev pub NewRowsAreDue : Type 0
NewRowsAreDue = (same : List Value → List Value → Bool) (fed : Fed) (n : ℕ) (row : List Value)
    → row_answer same fed n row ≡ Ok New → IsDue fed n

-- only a close that is due is New
abbrev pub NewClosesAreDue : Type 0
NewClosesAreDue = (fed : Fed) (count : ℕ) → close_answer fed count ≡ Ok New → IsDueClose fed count
