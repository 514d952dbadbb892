-- What a poll means for each partition that the record fits.
use Rattle.std.proofs.Common.{◌≡◌, ℕ, suc, ◌-◌, ◌^◌, ◌<◌, ◌≤◌, ◌⊎◌, inl, inr, length, length-append, Bool, true, false, Result, Ok, Err, refl, sym, ap, ◌∙◌, subst, arith}
use Rattle.std.specs.Prelude.{OnErr}
use Rattle.rp_query.specs.declared.query.QueryData.{QueryData}
use Rattle.rp_query.specs.Sound.{IsSound}
use Rattle.rp_known.specs.declared.place.Place.{Place}
use Rattle.rp_known.specs.Known.{Known, count}
use Rattle.rp_known.specs.Walk.{Leg, Goes, Pauses, Ends, leg, leg_items, and_then, walk, walk_from, known}
use Rattle.rp_known.specs.WalkLaws.{LegsLeadOn, KnownIsShort}
use Rattle.rp_walker.specs.declared.poll.Poll.{Poll}
use Rattle.rp_walker.specs.declared.poll.Poll.TheVariants.{Item as ItemPoll, Idle as IdlePoll, Paused as PausedPoll}
use Rattle.rp_walker.specs.declared.record.MatcherState.{MatcherState}
use Rattle.rp_walker.specs.Records.{place_of, IsWithin, IsOnWalk, IsOver, IsLastStart, Fits, fits_by}
use Rattle.rp_walker.specs.Steps.{IsDone, Moves, IsEnd}
use Rattle.rp_walker.specs.FitLaws.{AgreesFrom, Meant, StepsMean}
use Rattle.rp_walker.specs.Polls.{Polled, PollIs, AnswerIs, Answers, StopsAtLast, GoesAlong, moves_by}
use Rattle.rp_walker.proofs.Moving.{comes_after}
use Rattle.rp_walker.proofs.Steps.{stays_put}

-- no more items than known were given
given_known : LegsLeadOn → (b : Bool) (q : QueryData) (r : MatcherState) (p : Known) → fits_by b q r p → r.given ≤ length (known q p)
given_known leads true q r p h = omega (arith, h.counted)
given_known leads false q r p h =
    let b = comes_after leads q p h.comes in
    omega (arith, h.counted, h.within, b.many, ap length b.is, length-append b.front (walk_from q p (place_of r)), leg_in_walk q p (place_of r))
  where
    leg_in_walk : (q : QueryData) (p : Known) (place : Place) → length (leg_items (leg q p place)) ≤ length (walk_from q p place)
    leg_in_walk q p place = go (leg q p place)
      where
        go : (t : Leg) → length (leg_items t) ≤ length (and_then t (walk (suc (count p) - place.start) q p))
        go (Goes xs next) = omega (arith, length-append xs (walk (suc (count p) - place.start) q p next))
        go (Pauses xs) = omega arith
        go (Ends xs) = omega arith

same_count : {first : ℕ} {k p : Known} → AgreesFrom first k p → count p ≡ count k
same_count {k = k} {p = p} a = let x : count k ≤ count p = a.on.later.0 in let y : count p ≤ count k = a.back.later.0 in omega (arith, x, y)

module _ (means : StepsMean) (leads : LegsLeadOn) (short : KnownIsShort) (q : QueryData) (sound : IsSound q) (k : Known) (few : count k < 2 ^ 64 - 1) (old new : MatcherState) (going : old.over ≡ false) (from_one : 1 ≤ old.at) (first : new.first ≡ old.first) where
  on_kept : (p : Known) → AgreesFrom old.first k p → Fits q old p → IsWithin q k old × (Moves q k old new → Meant q old new k p)
  on_kept p are fits =
      let h = means q old new k p sound from_one are (subst (λ b. fits_by b q old p) going fits) in
      (h.0, h.1 first)

  idle_is : (p : Known) → AgreesFrom old.first k p → Meant q old new k p → new.given ≡ old.given → IsDone q k new ⊎ (new.given ≡ 2 ^ 128 - 1) → length (known q p) ≡ old.given
  idle_is p are h same (inl d) = h.done d ∙ same
  idle_is p are h same (inr e) = absurd (omega (arith, e, short q p (subst (λ n. n < 2 ^ 64 - 1) (sym (same_count are)) few), given_known leads new.over q new p h.fits))

  answer_is : (p : Known) → AgreesFrom old.first k p → (answer : Poll) → Meant q old new k p → PollIs q k old new answer → AnswerIs q p old new answer
  answer_is p are (ItemPoll i x) h is = (is.0 ∙ is.1, is.1, h.next x is.2)
  answer_is p are IdlePoll h is = (is.0, idle_is p are h is.0 is.1)
  answer_is p are PausedPoll h is = is

  pub answers : (answer : Poll) → (IsWithin q k old → Polled q k old new answer) → Answers q k old new answer
  answers answer polled p are fits =
      let h = on_kept p are fits in
      let a = polled h.0 in
      let meant = h.1 a.moves in
      (meant.fits, answer_is p are answer meant a.is)

  idle_last : (p : Known) → AgreesFrom old.first k p → Meant q old new k p → IsDone q k new ⊎ (new.given ≡ 2 ^ 128 - 1) → new.over ≡ false →
      (IsEnd (leg q p (place_of new)) → ⊥) × IsLastStart q p new.at
  idle_last p are h (inl d) over = (λ ends. let z : true ≡ false = sym (h.ended d ends) ∙ over in cc, h.last d)
  idle_last p are h (inr e) over = absurd (omega (arith, e, short q p (subst (λ n. n < 2 ^ 64 - 1) (sym (same_count are)) few), given_known leads new.over q new p h.fits))

  pub stops_at_last : (answer : Poll) → (IsWithin q k old → Polled q k old new answer) → StopsAtLast q k old new answer
  stops_at_last answer polled p are fits idle over =
      let h = on_kept p are fits in
      let a = polled h.0 in
      idle_last p are (h.1 a.moves) (subst (λ x. PollIs q k old new x) idle a.is).1 over

  pub goes_along : (IsWithin q k old → Moves q k old new) → GoesAlong q k old new
  goes_along moved p are fits =
      let h = on_kept p are fits in
      let meant = h.1 (moved h.0) in
      (meant.fits, subst (λ b. moves_by b q p old new) (sym going) meant.moves)

-- where the answer is over, all that is known was given
pub over_answers : (q : QueryData) (k : Known) (r : MatcherState) → r.over ≡ true → Answers q k r r IdlePoll
over_answers q k r over p are fits =
    let h : IsOver q r p = subst (λ b. fits_by b q r p) over fits in
    (fits, (refl, sym h.counted))

-- a record that stays as it is
pub stays_along : (q : QueryData) (k : Known) (r : MatcherState) → GoesAlong q k r r
stays_along q k r p are fits = (fits, go r.over refl)
  where
    go : (b : Bool) → r.over ≡ b → moves_by b q p r r
    go true e = refl
    go false e = let h : IsOnWalk q r p = subst (λ b. fits_by b q r p) e fits in stays_put q p r e h.within

pub over_stops : (q : QueryData) (k : Known) (r : MatcherState) (answer : Poll) → r.over ≡ true → StopsAtLast q k r r answer
over_stops q k r answer over p are fits idle going = absurd (let e : true ≡ false = sym over ∙ going in cc)

pub on_err_map : {A E : Type 0} (P Q : Type 0) (r : Result A E) → (P → Q) → OnErr r P → OnErr r Q
on_err_map P Q (Ok x) h k = k
on_err_map P Q (Err e) h k = h k

pub on_err_of : {A E : Type 0} (P : Type 0) (r : Result A E) → P → OnErr r P
on_err_of P (Ok x) h = tt
on_err_of P (Err e) h = h

pub on_err_from : {A E P : Type 0} (r : Result A E) → P → OnErr r P
on_err_from (Ok x) p = tt
on_err_from (Err e) p = p
