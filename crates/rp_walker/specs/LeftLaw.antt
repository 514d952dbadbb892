-- How many turns a walker has left at most, that rows which agree change nothing in it, and what it is once the rows below its
-- horizon were dropped.
use Rattle.std.specs.Prelude.{◌≡◌, ℕ, ◌<◌, ◌≤◌, ◌⊎◌, max, false}
use Rattle.rp_words.specs.PatternForm.{form_of}
use Rattle.rp_words.specs.Turns.{all_turns}
use Rattle.rp_query.specs.declared.query.QueryData.{QueryData}
use Rattle.rp_query.specs.Sound.{IsSound}
use Rattle.rp_known.specs.Known.{Known, count}
use Rattle.rp_known.specs.Plans.{first_read}
use Rattle.rp_walker.specs.declared.record.MatcherState.{MatcherState}
use Rattle.rp_walker.specs.declared.walker.Walker.{Walker}
use Rattle.rp_walker.specs.FitLaws.{AgreesFrom}
use Rattle.rp_walker.specs.Records.{horizon_of}
use Rattle.rp_walker.specs.Walking.{Stands, record_of}
use Rattle.rp_walker.specs.Polls.{left_in}

-- No more than all starts take.
abbrev pub LeftIsBounded : Type 0
LeftIsBounded = (q : QueryData) (p : Known) (w : Walker) →
    Stands q p w → left_in q p w ≤ all_turns (count p) p.end (form_of q.pattern)

-- As much is left over rows that agree from the first one on that is still read.
abbrev pub LeftIsSame : Type 0
LeftIsSame = (q : QueryData) (p p' : Known) (w : Walker) → IsSound q →
    ((record_of w).over ≡ false → AgreesFrom (first_read q (record_of w).at) p p') →
    Stands q p w → left_in q p' w ≡ left_in q p w

-- No row below the horizon is kept: the first that is kept is at least the horizon, or none is kept.
abbrev pub HoldsNoMore : QueryData → Known → MatcherState → Type 0
HoldsNoMore q p r = horizon_of q p r ≤ r.first ⊎ count p < r.first

-- The rows below the horizon were dropped, and no other: from the first that is kept now on, the one is the other.
pub record Drops (q : QueryData) (r : MatcherState) (first : ℕ) (p p' : Known) : Type 0 where
  pub agree : AgreesFrom first p p'
  pub not_past : first ≤ max r.first (horizon_of q p r)
  pub all : HoldsNoMore q p (record r { first = first })

-- As many rows are known. A walker stands over those from this one on, which are left, reads none below it, and has as many turns
-- left as before.
pub record StaysOver (q : QueryData) (w : Walker) (first : ℕ) (p p' : Known) : Type 0 where
  pub as_many : count p' ≡ count p
  pub stands : Stands q p' w
  pub reads : (record_of w).over ≡ false → first ≤ first_read q (record_of w).at
  pub left : left_in q p' w ≡ left_in q p w
  pub held : HoldsNoMore q p' (record (record_of w) { first = first })

-- So it is once the rows below its horizon were dropped.
abbrev pub DroppedIsUnread : Type 0
DroppedIsUnread = (q : QueryData) (p p' : Known) (w : Walker) (first : ℕ) → IsSound q →
    Drops q (record_of w) first p p' → Stands q p w → StaysOver q w first p p'
