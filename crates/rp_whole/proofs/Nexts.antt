-- What comes after a poll of a walk.
use Rattle.std.proofs.Common.{◌≡◌, ℕ, ◌+◌, ◌<◌, ◌≤◌, Option, sym, subst, arith}
use Rattle.rp_query.specs.declared.query.QueryData.{QueryData}
use Rattle.rp_query.specs.declared.item.Item.{Item}
use Rattle.rp_numbering.specs.Partitions.{Part}
use Rattle.rp_search.specs.Search.{LeftIsBounded}
use Rattle.rp_walker.specs.declared.poll.Poll.{Poll}
use Rattle.rp_walker.specs.declared.poll.Poll.TheVariants.{Item as ItemPoll}
use Rattle.rp_walker.specs.declared.walker.Walker.{Walker}
use Rattle.rp_walker.specs.LeftLaw.{LeftIsBounded as AllIsLeft}
use Rattle.rp_walker.specs.Polls.{AnswerIs, Answers, GoesAlong, GivenBy, left_in}
use Rattle.rp_walker.specs.Records.{Fits, first_state}
use Rattle.rp_walker.specs.Walking.{Stands, record_of}
use Rattle.rp_whole.specs.Answers.{Form, IsByLimit, closed}
use Rattle.rp_whole.specs.Pauses.{AreCounted, CanBePolled, ComesNext, CountsPause, IsAfterPause, IsReached, WalksOver, left_from}
use Rattle.rp_whole.specs.declared.next.Next.{Next}
use Rattle.rp_whole.specs.declared.next.Next.TheVariants.{More, All, GivenUp}
use Rattle.rp_whole.proofs.Counted.{counted_first, counted_item, counted_pause, gives_up, left_below, more_first, more_item, more_pause, still_going, was_going}
use Rattle.rp_whole.proofs.ToCome.{agrees}

-- a new walker can be polled
pub polled_first : AllIsLeft → (q : QueryData) (part : Part) (w : Walker) (row taken : ℕ) → Stands q (closed part.1) w → Fits q first_state (closed part.1) → record_of w ≡ first_state
    → row ≡ 0 → taken ≡ 0 → CanBePolled q part row taken w
polled_first bounded q part w row taken stands fits first at none = record {
  walks = record { stands = stands; fits = subst (λ r. Fits q r (closed part.1)) (sym first) fits };
  has_more = more_first q (closed part.1) (record_of w) first;
  counted = counted_first bounded q (closed part.1) w row taken stands at none;
}

module _ {q : QueryData} {part : Part} {old : Walker} (walks : WalksOver q part old) where
  -- by a poll it goes over the same partition
  pub walks_on : {new : Walker} → Stands q (closed part.1) new → GoesAlong q (closed part.1) (record_of old) (record_of new) → WalksOver q part new
  walks_on stands along = record { stands = stands; fits = (along (closed part.1) (agrees (record_of old).first (closed part.1)) walks.fits).0 }

  -- what was answered is the answer by all its rows
  pub answer_is : (new : Walker) {poll is : Poll} → poll ≡ is → Answers q (closed part.1) (record_of old) (record_of new) poll → AnswerIs q (closed part.1) (record_of old) (record_of new) is
  answer_is new same answers =
      subst (AnswerIs q (closed part.1) (record_of old) (record_of new)) same (answers (closed part.1) (agrees (record_of old).first (closed part.1)) walks.fits).1

module _ {q : QueryData} {part : Part} {row taken : ℕ} {old new : Walker} (polled : CanBePolled q part row taken old) (walks : WalksOver q part new) where
  -- after an item another poll comes
  pub after_item : (place : ℕ) (x : Item) → AnswerIs q (closed part.1) (record_of old) (record_of new) (ItemPoll place x) → GivenBy (record_of old) (record_of new) (ItemPoll place x)
      → left_in q (closed part.1) new < left_in q (closed part.1) old → CanBePolled q part row taken new × (left_in q (closed part.1) new < left_in q (closed part.1) old)
  after_item place x is given falls =
      let next : CanBePolled q part row taken new = record {
        walks = walks;
        has_more = more_item q (closed part.1) (record_of old) (record_of new) place x is given.2;
        counted = counted_item q (closed part.1) row taken old new falls polled.counted;
      } in
      (next, falls)

  -- After a pause another poll comes, or the answer is given up there.
  pub after_pause : {budget at row' taken' : ℕ} → LeftIsBounded → (limit : Option ℕ) (form : Form) (next : Next) → 0 < budget → (record_of new).given ≡ (record_of old).given
      → left_in q (closed part.1) new + budget ≤ left_in q (closed part.1) old → at ≡ (record_of new).at → CountsPause budget at row taken row' taken' → IsAfterPause limit at taken' next
      → ComesNext limit form q part old row' taken' new next
  after_pause {budget = budget} {at = at} {row' = row'} {taken' = taken'} bounded limit form next some same falls here counts after =
      let was = was_going q (closed part.1) budget old new some falls in
      let going = still_going q (closed part.1) (record_of old) (record_of new) was polled.has_more same walks.fits in
      let below = left_below bounded q (closed part.1) new going walks.stands in
      let fewer : left_in q (closed part.1) new ≤ left_from q (closed part.1) at = subst (λ i. left_in q (closed part.1) new ≤ left_from q (closed part.1) i) (sym here) below in
      let counted = counted_pause q (closed part.1) old new budget at row taken row' taken' counts falls fewer polled.counted in
      let more : CanBePolled q part row' taken' new = record {
        walks = walks;
        has_more = more_pause q (closed part.1) (record_of old) (record_of new) was polled.has_more same;
        counted = subst (λ i. AreCounted q (closed part.1) i taken' new) (sym counts.is) counted;
      } in
      go next after (more, omega (arith, some, falls)) (gives_up limit q part.1 new at taken' here going walks.fits counted)
    where
      go : (next : Next) → IsAfterPause limit at taken' next → CanBePolled q part row' taken' new × (left_in q (closed part.1) new < left_in q (closed part.1) old)
          → (IsReached limit taken' → IsByLimit limit q part.1 (record_of new).given at) → ComesNext limit form q part old row' taken' new next
      go More after more by_limit = more
      go All after more by_limit = absurd after
      go (GivenUp given_up) after more by_limit = subst (IsByLimit limit q part.1 (record_of new).given) (sym after.0) (by_limit after.1)
