-- Inside: how a walk goes on after a poll.
use Rattle.std.specs.Prelude.{◌≡◌, ◌⊎◌, ⊤, ℕ, suc, ◌+◌, ◌<◌, ◌≤◌, false, Option, Some, None, slice_get}
use Rattle.rp_query.specs.declared.query.QueryData.{QueryData}
use Rattle.rp_query.specs.declared.item.Item.{Item}
use Rattle.rp_known.specs.Known.{Known}
use Rattle.rp_known.specs.Walk.{known}
use Rattle.rp_numbering.specs.Partitions.{Part}
use Rattle.rp_walker.specs.declared.record.MatcherState.{MatcherState}
use Rattle.rp_walker.specs.declared.walker.Walker.{Walker}
use Rattle.rp_walker.specs.Polls.{left_in}
use Rattle.rp_walker.specs.Records.{Fits, IsLast, first_state}
use Rattle.rp_walker.specs.Stages.{left_anew}
use Rattle.rp_walker.specs.Walking.{Stands, record_of}
use Rattle.rp_whole.specs.Answers.{Form, IsByLimit, closed}
use Rattle.rp_whole.specs.Writing.{NoneToCome}
use Rattle.rp_whole.specs.declared.next.Next.{Next}
use Rattle.rp_whole.specs.declared.next.Next.TheVariants.{More, All, GivenUp}

-- ---- turns that are counted at a start row

-- A poll that took this budget paused at a row. Where the one before it that paused did so there too, all of its turns were taken
-- there, and they are added; else none is counted yet.
pub record CountsPause (budget at row taken row' taken' : ℕ) : Type 0 where
  pub is : row' ≡ at
  pub adds : ((row ≡ at) × (taken' ≤ taken + budget)) ⊎ (taken' ≡ 0)

-- as many turns are counted as the limit
abbrev pub IsReached : Option ℕ → ℕ → Type 0
IsReached None taken = ⊥
IsReached (Some most) taken = (0 < most) × (most ≤ taken)

-- after a pause at this row another poll follows, or the answer is given up there
abbrev pub IsAfterPause : Option ℕ → (at taken : ℕ) → Next → Type 0
IsAfterPause limit at taken More = ⊤
IsAfterPause limit at taken All = ⊥
IsAfterPause limit at taken (GivenUp row) = (row ≡ at) × IsReached limit taken

-- at most so many turns are left where the search from a row is to begin
abbrev pub left_from : QueryData → Known → ℕ → ℕ
left_from q p row = left_anew q p (record first_state { at = row })

-- The turns counted at a row are off what was left where its search began.
abbrev pub AreCounted : QueryData → Known → (row taken : ℕ) → Walker → Type 0
AreCounted q p row taken w = taken + left_in q p w ≤ left_from q p row

-- ---- what comes after a poll

-- While the answer goes on, the item given before isn't the last.
abbrev pub HasMore : QueryData → Known → MatcherState → Type 0
HasMore q p r = r.over ≡ false → (before : ℕ) (x : Item) → r.given ≡ suc before → slice_get (known q p) before ≡ Some x → IsLast x → ⊥

-- A walker goes over a partition: what it has found stands over the rows, and its record fits them.
pub record WalksOver (q : QueryData) (part : Part) (w : Walker) : Type 0 where
  pub stands : Stands q (closed part.1) w
  pub fits : Fits q (record_of w) (closed part.1)

-- It can be polled: it goes over the partition, the item given before isn't the last, and the turns counted at a row are off what
-- was left there.
pub record CanBePolled (q : QueryData) (part : Part) (row taken : ℕ) (w : Walker) : Type 0 where
  pub walks : WalksOver q part w
  pub has_more : HasMore q (closed part.1) (record_of w)
  pub counted : AreCounted q (closed part.1) row taken w

-- What comes after a poll: another one, with fewer turns left than there were; or none, since no item is still to be given; or none,
-- since the answer is given up at a row, behind the items given, by a limit alone.
abbrev pub ComesNext : Option ℕ → Form → QueryData → Part → (old : Walker) → (row taken : ℕ) → (new : Walker) → Next → Type 0
ComesNext limit form q part old row taken new More =
    CanBePolled q part row taken new × (left_in q (closed part.1) new < left_in q (closed part.1) old)
ComesNext limit form q part old row taken new All = NoneToCome form q part (record_of new)
ComesNext limit form q part old row taken new (GivenUp at) = IsByLimit limit q part.1 (record_of new).given at
