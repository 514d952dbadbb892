-- What a feed holds once it has taken rows and a close that were kept of another, as after a restart.
use Rattle.std.specs.Prelude.{◌≡◌, ℕ, Bool, true, false, List, [], ◌∷◌, Option, None, Some, Ok, if◌then◌else◌}
use Rattle.rp_value.specs.declared.value.Value.{Value}
use Rattle.rp_feed.specs.declared.answer.Taken.TheVariants.{New}
use Rattle.rp_feed.specs.Fed.{Fed, Numbered, AscendFrom, IsFeed, fed_from, with_taken, with_close}
use Rattle.rp_feed.specs.Answers.{Answer, row_answer, close_answer}

abbrev pub is_new : Answer → Bool
is_new (Ok New) = true
is_new other = false

-- what a feed holds once it has taken all rows, one after another, if each is New
abbrev pub take_all : (List Value → List Value → Bool) → Fed → List Numbered → Option Fed
take_all same fed [] = Some fed
take_all same fed ((n, row) ∷ rows) =
    if is_new (row_answer same fed n row) then take_all same (with_taken n row fed) rows else None

-- and then the close, if there is one
abbrev pub close_with : Option ℕ → Fed → Option Fed
close_with None fed = Some fed
close_with (Some count) fed = if is_new (close_answer fed count) then Some (with_close count fed) else None

abbrev pub close_after : Option ℕ → Option Fed → Option Fed
close_after closed None = None
close_after closed (Some fed) = close_with closed fed

-- what a feed holds that has dropped the rows below `first`, once it has taken these rows and then the close, if each is New
abbrev pub fed_again : (List Value → List Value → Bool) → ℕ → List Numbered → Option ℕ → Option Fed
fed_again same first rows closed = close_after closed (take_all same (fed_from first) rows)

-- The rows and the close of a feed are taken again as New, each of them, by one that has dropped the same rows, which then holds
-- the same.
abbrev pub FeedsAreTakenAgain : Type 0
FeedsAreTakenAgain = (same : List Value → List Value → Bool) (fed : Fed) → IsFeed fed
    → fed_again same fed.first fed.rows fed.closed ≡ Some fed

-- Of rows whose numbers ascend, and a close, a feed that takes each as New holds just these.
abbrev pub AgainIsTheSame : Type 0
AgainIsTheSame = (same : List Value → List Value → Bool) (first : ℕ) (rows : List Numbered) (closed : Option ℕ) (fed : Fed)
    → AscendFrom 0 rows → fed_again same first rows closed ≡ Some fed
    → fed ≡ record { first = first; rows = rows; closed = closed }
