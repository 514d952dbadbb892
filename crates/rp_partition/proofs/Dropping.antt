-- A poll, and the rows that are dropped after it.
use Rattle.std.proofs.Common.{◌≡◌, inl, inr, ℕ, ◌+◌, ◌≤◌, min, max, Bool, true, false, cond, List, [], ◌∷◌, Result, Ok, Err, refl, sym, ap, ◌∙◌, subst, arith}
use Rattle.std.specs.Prelude.{nat_le, IsErr}
use Rattle.std.proofs.lemmas.Bool.Decides.{nat_tests}
use Rattle.rp_feed.specs.Fed.{Fed, Numbered, AscendFrom, IsOrdered, front_of, is_taken, rows_from, forgotten}
use Rattle.rp_query.specs.declared.query.QueryData.{QueryData}
use Rattle.rp_known.specs.Known.{Known, count}
use Rattle.rp_known.specs.WalkLaws.{GoesOnFrom}
use Rattle.rp_known.specs.Plans.{first_read}
use Rattle.rp_walker.specs.declared.poll.Poll.{Poll}
use Rattle.rp_walker.specs.declared.poll.Poll.TheVariants.{Item as ItemPoll, Idle as IdlePoll, Paused as PausedPoll}
use Rattle.rp_walker.specs.declared.record.MatcherState.{MatcherState}
use Rattle.rp_walker.specs.FitLaws.{AgreesFrom}
use Rattle.rp_walker.specs.LeftLaw.{Drops, HoldsNoMore as NoMoreIsKept}
use Rattle.rp_walker.specs.Polls.{Answers, AnswerIs, GivenBy, StopsAtLast, GoesAlong}
use Rattle.rp_walker.specs.Records.{horizon_of, IsLastStart, StandsInRows}
use Rattle.rp_schedules.specs.Schedules.{Gives, Pauses}
use Rattle.rp_schedules.specs.Records.{Row, Held, Fits, Polls, item, idle, paused, PollFits, RecordsStay, seen_part}
use Rattle.rp_partition.specs.Feeds.{Feeds}
use Rattle.rp_partition.specs.PartRows.{known_count, known_by}
use Rattle.rp_partition.specs.Polling.{act_by, OnlyDrops, PolledTo}
use Rattle.rp_partition.proofs.Feeds.{drops_agree, seen_agrees}

-- rows that agree from a row on agree from a later one on
pub goes_from : (first later : ℕ) (p p' : Known) → first ≤ later → GoesOnFrom first p p' → GoesOnFrom later p p'
goes_from first later p p' le g = record { later = g.later; same = λ row from known. g.same row (omega (arith, le, from)) known }

agrees_itself : (first : ℕ) (p : Known) → AgreesFrom first p p
agrees_itself first p =
    record {
      on = record { later = (omega arith, λ c. (refl, c)); same = λ row from known. refl };
      back = record { later = (omega arith, λ c. (refl, c)); same = λ row from known. refl };
    }

-- ---- what dropping leaves

-- rows that ascend from a number on are all from there on
all_kept : (n k : ℕ) (rows : List Numbered) → n ≤ k → AscendFrom k rows → rows_from n rows ≡ rows
all_kept n k [] le a = refl
all_kept n k ((m, row) ∷ rows) le a =
    let from = a.0 in
    let t : nat_le n m ≡ true = grind (arith, nat_tests) in
    ap (λ b. cond b ((m, row) ∷ rows_from n rows) (rows_from n rows)) t ∙ ap (λ (rs : List Numbered). (m, row) ∷ rs) (all_kept n (m + 1) rows (omega (arith, le, from)) a.1)

-- where nothing is dropped, rows alone are dropped
pub drops_none : (fed : Fed) → IsOrdered fed → OnlyDrops fed fed
drops_none fed is = record { first = omega arith; rows = sym (all_kept fed.first fed.first fed.rows (omega arith) is.ascend); taken = λ n. refl; closed = refl }

-- the rows below a number were dropped, if it is above the first
pub data Forgets (before : ℕ) (fed new : Fed) : Type 0 where
  kept : before ≤ fed.first → new ≡ fed → Forgets before fed new
  dropped : fed.first ≤ before → new ≡ forgotten before fed → Forgets before fed new

pub forgets : (before : ℕ) (fed new : Fed) → (before ≤ fed.first → new ≡ fed) → (fed.first ≤ before → new ≡ forgotten before fed) → Forgets before fed new
forgets before fed new same less = go (nat_le before fed.first) refl
  where
    go : (b : Bool) → nat_le before fed.first ≡ b → Forgets before fed new
    go true e = let h : before ≤ fed.first = grind (arith, nat_tests) in kept h (same h)
    go false e = let h : fed.first ≤ before = grind (arith, nat_tests) in dropped h (less h)

module _ (laws : Feeds) (fed new : Fed) (before : ℕ) (is : IsOrdered fed) (within : before ≤ front_of fed + 1) where
  agrees_after : Forgets before fed new → AgreesFrom new.first (known_by fed) (known_by new)
  agrees_after (kept h e) = subst (λ (f : Fed). AgreesFrom f.first (known_by fed) (known_by f)) (sym e) (agrees_itself fed.first (known_by fed))
  agrees_after (dropped h e) =
      subst (λ (f : Fed). AgreesFrom f.first (known_by fed) (known_by f)) (sym e) (drops_agree laws fed before is (record { kept = h; reached = within }))

  low_after : Forgets before fed new → fed.first ≤ new.first
  low_after (kept h e) = let f = ap (λ (z : Fed). z.first) e in omega (arith, f)
  low_after (dropped h e) = let f = ap (λ (z : Fed). z.first) e in omega (arith, f, h)

  high_after : Forgets before fed new → before ≤ new.first
  high_after (kept h e) = let f = ap (λ (z : Fed). z.first) e in omega (arith, f, h)
  high_after (dropped h e) = let f = ap (λ (z : Fed). z.first) e in omega (arith, f)

  taken_after : Forgets before fed new → (n : ℕ) → is_taken new n ≡ is_taken fed n
  taken_after (kept h e) n = ap (λ f. is_taken f n) e
  taken_after (dropped h e) n = ap (λ f. is_taken f n) e ∙ laws.stays fed before n is (record { kept = h; reached = within })

  closed_after : Forgets before fed new → new.closed ≡ fed.closed
  closed_after (kept h e) = ap (λ (z : Fed). z.closed) e
  closed_after (dropped h e) = ap (λ (z : Fed). z.closed) e

  pub drops_after : Forgets before fed new → OnlyDrops fed new
  drops_after forgot = record { first = low_after forgot; rows = rows_after forgot; taken = taken_after forgot; closed = closed_after forgot }
    where
      rows_after : Forgets before fed new → new.rows ≡ rows_from new.first fed.rows
      rows_after (kept h e) =
          ap (λ (z : Fed). z.rows) e ∙ sym (all_kept fed.first fed.first fed.rows (omega arith) is.ascend) ∙ ap (λ (z : Fed). rows_from z.first fed.rows) (sym e)
      rows_after (dropped h e) = ap (λ (z : Fed). z.rows) e ∙ ap (λ (z : Fed). rows_from z.first fed.rows) (sym e)

  -- a record that fits goes on fitting
  pub fits_after : (q : QueryData) (whole : List Row) (r : MatcherState) (r' : MatcherState) → RecordsStay q whole → Forgets before fed new → r' ≡ record r { first = new.first }
      → (r.over ≡ false → new.first ≤ first_read q r.at) → Fits q whole (record { feed = fed; state = r }) → Fits q whole (record { feed = new; state = r' })
  fits_after q whole r r' stay (kept h e) i needed fits =
      let same : r' ≡ r = i ∙ ap (λ (f : Fed). record r { first = f.first }) e ∙ ap (λ n. record r { first = n }) (sym fits.first) in
      subst (λ (z : MatcherState). Fits q whole (record { feed = new; state = z })) (sym same) (subst (λ (f : Fed). Fits q whole (record { feed = f; state = r })) (sym e) fits)
  fits_after q whole r r' stay (dropped h e) i needed fits =
      let now : r' ≡ record r { first = before } = i ∙ ap (λ (f : Fed). record r { first = f.first }) e in
      subst (λ (z : MatcherState). Fits q whole (record { feed = new; state = z })) (sym now)
      (subst (λ (f : Fed). Fits q whole (record { feed = f; state = record r { first = before } })) (sym e)
      (stay.rest_fits (record { feed = fed; state = r }) before fits (record { kept = h; reached = within })
      (λ going. subst (λ n. n ≤ first_read q r.at) (ap (λ (f : Fed). f.first) e) (needed going))))

  -- the rows below the horizon are dropped, as far as the front
  module _ (q : QueryData) (r : MatcherState) (first : r.first ≡ fed.first) (horizon : ℕ) (horizon_is : horizon ≡ horizon_of q (known_by fed) r) (bound : before ≡ min horizon (front_of fed + 1)) where
    not_past : Forgets before fed new → new.first ≤ max r.first horizon
    not_past (kept h e) = let f = ap (λ (z : Fed). z.first) e in omega (arith, f, first)
    not_past (dropped h e) = let f = ap (λ (z : Fed). z.first) e in omega (arith, f, bound)

    holds_no_more : Forgets before fed new → NoMoreIsKept q (known_by fed) (record r { first = new.first })
    holds_no_more forgot = go (nat_le horizon (front_of fed + 1)) refl
      where
        go : (b : Bool) → nat_le horizon (front_of fed + 1) ≡ b → NoMoreIsKept q (known_by fed) (record r { first = new.first })
        go true t =
            let l : horizon ≤ front_of fed + 1 = grind (arith, nat_tests) in
            inl (subst (λ h. h ≤ new.first) horizon_is (omega (arith, high_after forgot, bound, l)))
        go false t =
            let l : front_of fed + 1 ≤ horizon = grind (arith, nat_tests) in
            inr (omega (arith, high_after forgot, bound, l, known_count fed is.least))

    pub drops : Forgets before fed new → Drops q r new.first (known_by fed) (known_by new)
    drops forgot =
        record { agree = agrees_after forgot; not_past = subst (λ h. new.first ≤ max r.first h) horizon_is (not_past forgot); all = holds_no_more forgot }

-- a walk that stands in the rows stands in as many
pub in_rows_after : (p p' : Known) (r r' : MatcherState) (first : ℕ) → count p' ≡ count p → r' ≡ record r { first = first } → StandsInRows p r → StandsInRows p' r'
in_rows_after p p' r r' first same e h =
    subst (StandsInRows p') (sym e) (omega (arith, h.0, same), λ going. omega (arith, h.1 going, same))

-- ---- what is answered

module _ (q : QueryData) (whole : List Row) (fed : Fed) (old new : MatcherState) (alike : AgreesFrom fed.first (known_by fed) (seen_part whole fed)) (fits : Fits q whole (record { feed = fed; state = old })) where
  same_first : AgreesFrom old.first (known_by fed) (seen_part whole fed)
  same_first = subst (λ n. AgreesFrom n (known_by fed) (seen_part whole fed)) (sym fits.first) alike

  pub fits_polled : new.first ≡ old.first → GoesAlong q (known_by fed) old new → Fits q whole (record { feed = fed; state = new })
  fits_polled first moves = record { feed = fits.feed; first = first ∙ fits.first; stands = (moves (seen_part whole fed) same_first fits.stands).0 }

  -- the answer, with any feed and any first row after it
  pub polls_by : (answer : Poll) (after : Held) → after.state.given ≡ new.given → Answers q (known_by fed) old new answer → Polls q whole (record { feed = fed; state = old }) after (act_by answer)
  polls_by answer after given says = go answer (says (seen_part whole fed) same_first fits.stands).1
    where
      go : (a : Poll) → AnswerIs q (seen_part whole fed) old new a → Polls q whole (record { feed = fed; state = old }) after (act_by a)
      go (ItemPoll k x) h = subst (λ z. Polls q whole (record { feed = fed; state = old }) after (Gives z x)) (sym h.0) (item h.2 (given ∙ h.1))
      go IdlePoll h = idle (sym h.1) (given ∙ h.0)
      go PausedPoll h = paused (given ∙ h)

-- ---- a poll as a whole

itself_taken : (q : QueryData) (whole : List Row) (r : Held) → Fits q whole r → PollFits q whole r r Pauses
itself_taken q whole r fits = record { fits = fits; taken = λ n l. refl; closed = refl; polls = paused refl }

-- a poll that does nothing
pub still_polled : {E : Type 0} (q : QueryData) (r : Held) → IsOrdered r.feed → PolledTo {E = E} q r r (Ok PausedPoll)
still_polled q r is = record { polls = λ whole fits. itself_taken q whole r fits; drops = drops_none r.feed is; refused = tt; given = refl; last = λ e. absurd (cc) }

pub refused_polled : {E : Type 0} (q : QueryData) (fed : Fed) (old new : MatcherState) (result : Result Poll E) → IsErr result → IsOrdered fed
    → ((whole : List Row) → Fits q whole (record { feed = fed; state = old }) → PollFits q whole (record { feed = fed; state = old }) (record { feed = fed; state = new }) Pauses) → new.given ≡ old.given
    → PolledTo q (record { feed = fed; state = old }) (record { feed = fed; state = new }) result
refused_polled q fed old new (Ok p) e is h g = absurd (cc)
refused_polled q fed old new (Err f) e is h g = record { polls = h; drops = drops_none fed is; refused = refl; given = g; last = λ i. absurd (cc) }

given_dropped : (old r : MatcherState) (f : ℕ) (answer : Poll) → GivenBy old r answer → GivenBy old (record r { first = f }) answer
given_dropped old r f (ItemPoll i x) h = h
given_dropped old r f IdlePoll h = h
given_dropped old r f PausedPoll h = h

module _ (laws : Feeds) (q : QueryData) (fed : Fed) (old mid : MatcherState) (stay : (whole : List Row) → RecordsStay q whole) (first : mid.first ≡ old.first) where
  seen : (whole : List Row) → Fits q whole (record { feed = fed; state = old }) → AgreesFrom fed.first (known_by fed) (seen_part whole fed)
  seen whole fits = seen_agrees laws whole fed fits.feed ((stay whole).front_within (record { feed = fed; state = old }) fits)

  pub polled_err : {E : Type 0} (result : Result Poll E) → IsErr result → IsOrdered fed → GoesAlong q (known_by fed) old mid → mid.given ≡ old.given
      → PolledTo q (record { feed = fed; state = old }) (record { feed = fed; state = mid }) result
  polled_err result e is moves given =
      refused_polled q fed old mid result e is
      (λ whole fits. record {
        fits = fits_polled q whole fed old mid (seen whole fits) fits first moves;
        taken = λ n l. refl;
        closed = refl;
        polls = paused given;
      })
      given

  pub polled_ok : {E : Type 0} (answer : Poll) (after : Held) → GoesAlong q (known_by fed) old mid → Answers q (known_by fed) old mid answer → GivenBy old mid answer → StopsAtLast q (known_by fed) old mid answer
      → after.state ≡ record mid { first = after.feed.first } → OnlyDrops fed after.feed
      → ((whole : List Row) → Fits q whole (record { feed = fed; state = mid }) → Fits q whole after)
      → PolledTo {E = E} q (record { feed = fed; state = old }) after (Ok answer)
  polled_ok {E = E} answer after moves answers given stops state drops fits_on = record {
    polls = λ whole fits. record {
      fits = fits_on whole (fits_polled q whole fed old mid (seen whole fits) fits first moves);
      taken = λ n l. drops.taken n;
      closed = drops.closed;
      polls = polls_by q whole fed old mid (seen whole fits) fits answer after (ap (λ (r : MatcherState). r.given) state) answers;
    };
    drops = drops;
    refused = tt;
    given = subst (λ (r : MatcherState). GivenBy old r answer) (sym state) (given_dropped old mid after.feed.first answer given);
    last = λ idle whole fits going.
        (let is : answer ≡ IdlePoll = idle_is idle in
        let p = same_first q whole fed old mid (seen whole fits) fits in
        let at = ap (λ (r : MatcherState). r.at) state in
        let over = ap (λ (r : MatcherState). r.over) state in
        subst (λ n. IsLastStart q (seen_part whole fed) n) (sym at) (stops (seen_part whole fed) p fits.stands is (sym over ∙ going)).1);
  }
    where
      idle_is : ◌≡◌ {A = Result Poll E} (Ok answer) (Ok IdlePoll) → answer ≡ IdlePoll
      idle_is e = cc
