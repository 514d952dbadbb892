-- A record that fits a whole partition fits it with more of it, and its steps are steps of what it stands for.
use Rattle.std.proofs.Common.{◌≡◌, ℕ, ◌+◌, ◌-◌, ◌≤◌, ◌<◌, Bool, true, false, cond, ◌&&◌, ◌||◌, List, length, take, drop, Option, Some, None, refl, sym, ap, ◌∙◌, subst, arith, eqb}
use Rattle.std.specs.Prelude.{is_some, nat_lt, nat_le, slice_get}
use Rattle.std.proofs.lemmas.Bool.Decides.{nat_tests}
use Rattle.std.proofs.lemmas.Option.{slice_get_within}
use Rattle.rp_words.specs.declared.word.End.{End}
use Rattle.rp_words.specs.declared.word.End.TheVariants.{Open, Closed}
use Rattle.rp_feed.specs.Fed.{Fed, IsFront, IsFree, IsReached, row_at, is_taken, with_taken, with_close, forgotten, front_of}
use Rattle.rp_feed.specs.FedLaws.{RowIsAdded, RowsAreDropped, TakenIsAdded, OrderStays, OrderIsKept, FrontIsOne, FrontGrows, FrontStays}
use Rattle.rp_query.specs.declared.query.QueryData.{QueryData}
use Rattle.rp_query.specs.Sound.{IsSound}
use Rattle.rp_query.specs.declared.item.Item.{Item}
use Rattle.rp_known.specs.Known.{Known}
use Rattle.rp_known.specs.Plans.{first_read}
use Rattle.rp_known.specs.Walk.{known}
use Rattle.rp_walker.specs.declared.record.MatcherState.{MatcherState}
use Rattle.rp_walker.specs.Records.{fits_by, Fits as StateFits}
use Rattle.rp_walker.specs.FitLaws.{FitsStay, FirstFits}
use Rattle.rp_schedules.specs.Schedules.{Standing, with_number, front, known_of, Act, Takes, Closes, Gives, Step, takes, closes, gives, idles, pauses}
use Rattle.rp_schedules.specs.Records.{Row, Held, fresh, with_fed, dropped_to, IsOf, seen_part, known_of_rows, Fits, StandsFor, Polls, item, idle, paused, PollFits}
use Rattle.rp_schedules.proofs.Prefixes.{take_longer}
use Rattle.rp_schedules.proofs.Fronts.{reach_taken, reach_most}

-- the laws of the crates below
pub record Lower : Type 0 where
  pub taken : TakenIsAdded
  pub added : RowIsAdded
  pub dropped : RowsAreDropped
  pub ordered : OrderStays
  pub kept : OrderIsKept
  pub one : FrontIsOne
  pub grows : FrontGrows
  pub front_stays : FrontStays
  pub stay : FitsStay
  pub begin : FirstFits

module _ (lower : Lower) where
  -- ---- the front of a record is that of what it stands for

  module _ (whole : List Row) (feed : Fed) (is : IsOf whole feed) where
    is_front : IsFront feed (front_of feed)
    is_front = (lower.one feed (front_of feed) is.ordered).1 refl

    -- no row is above the partition's length
    row_within : (n : ℕ) (o : Option Row) → row_at feed.rows n ≡ o → is_some o ≡ true → n ≤ length whole
    row_within n None e h = absurd (cc)
    row_within n (Some row) e h = let w = slice_get_within whole (n - 1) row (is.same n row e) in omega (arith, w)

    taken_within : (n : ℕ) → is_taken feed n ≡ true → n ≤ length whole
    taken_within n h = go (nat_lt n feed.first) refl h
      where
        go : (b : Bool) → nat_lt n feed.first ≡ b → b || is_some (row_at feed.rows n) ≡ true → n ≤ length whole
        go true e t = let l : n < feed.first = grind (arith, nat_tests) in let d = is.dropped in omega (arith, l, d)
        go false e t = row_within n (row_at feed.rows n) refl t

    pub front_within : front_of feed ≤ length whole
    front_within = go (eqb (front_of feed) 0) refl
      where
        go : (b : Bool) → eqb (front_of feed) 0 ≡ b → front_of feed ≤ length whole
        go true e = let z : front_of feed ≡ 0 = grind (arith, nat_tests) in omega (arith, z)
        go false e = let z : 1 ≤ front_of feed = grind (arith, nat_tests) in taken_within (front_of feed) (is_front.reached (front_of feed) z (omega arith))

    pub front_is : (s : Standing) → ((n : ℕ) → 1 ≤ n → s.taken n ≡ is_taken feed n) → front whole s ≡ front_of feed
    front_is s same =
        let low : front_of feed ≤ front whole s = reach_most s.taken (length whole) (front_of feed) front_within (λ k l h. same k l ∙ is_front.reached k l h) in
        go (nat_le (front whole s) (front_of feed)) refl low
      where
        go : (b : Bool) → nat_le (front whole s) (front_of feed) ≡ b → front_of feed ≤ front whole s → front whole s ≡ front_of feed
        go true e low = grind (arith, nat_tests)
        go false e low =
            let more : front_of feed + 1 ≤ front whole s = grind (arith, nat_tests) in
            let t = reach_taken s.taken (length whole) (front_of feed + 1) (omega arith) more in
            let u = same (front_of feed + 1) (omega arith) in
            let v = is_front.missing in
            absurd (cc)

  -- ---- a record that fits goes on fitting

  module _ (q : QueryData) (sound : IsSound q) (whole : List Row) where
    -- the rows up to a number, and the end
    abbrev end_at : ℕ → Bool → End
    end_at f closed = cond (closed && eqb f (length whole)) Closed Open

    abbrev part_at : ℕ → Bool → Known
    part_at f closed = record { rows = take f whole; end = end_at f closed }

    stands_later : (r : MatcherState) (c d : Bool) (f g : ℕ) → f ≤ g → g ≤ length whole → (c ≡ true → d ≡ true)
        → StateFits q r (part_at f c) → StateFits q r (part_at g d)
    stands_later r c d f g l m shut s = go (c && eqb f (length whole)) refl s
      where
        both : (x y : Bool) → c ≡ x → eqb f (length whole) ≡ y → x && y ≡ true → (c ≡ true) × (f ≡ length whole)
        both true true u v w = (u, grind (arith, nat_tests))
        both true false u v w = absurd (cc)
        both false y u v w = absurd (cc)

        go : (z : Bool) → c && eqb f (length whole) ≡ z → StateFits q r (record { rows = take f whole; end = cond z Closed Open }) → StateFits q r (part_at g d)
        go false e t =
            lower.stay q r (record { rows = take f whole; end = Open }) (part_at g d) sound
            (record { open_before = refl; more = drop f (take g whole); rows = sym (take_longer f g whole l) }) t
        go true e t =
            let k = both c (eqb f (length whole)) refl refl e in
            let full : f ≡ length whole = k.1 in
            let same : g ≡ f = omega arith in
            let test : eqb g (length whole) ≡ true = grind (arith, nat_tests) in
            let closed : d ≡ true = shut k.0 in
            rw (closed, test, same) t

    -- with another feed of the same partition, that took as much or more
    fed_later : (r : Held) (feed : Fed) → Fits q whole r → IsOf whole feed → front_of r.feed ≤ front_of feed → (is_some r.feed.closed ≡ true → is_some feed.closed ≡ true)
        → feed.first ≡ r.feed.first → Fits q whole (with_fed r feed)
    fed_later r feed fits is l shut i = record {
      feed = is;
      first = fits.first ∙ sym i;
      stands = stands_later r.state (is_some r.feed.closed) (is_some feed.closed) (front_of r.feed) (front_of feed) l (front_within whole feed is) shut fits.stands;
    }

    -- with one more row of the partition
    row_is_of : (feed : Fed) (k : ℕ) (row : Row) → IsOf whole feed → slice_get whole (k - 1) ≡ Some row → IsFree feed k → IsOf whole (with_taken k row feed)
    row_is_of feed k row is at free = record {
      ordered = lower.ordered feed k row is.ordered free;
      dropped = is.dropped;
      same = λ n other e. go n other (eqb n k) refl (sym (lower.added k n row feed.rows free.none) ∙ e);
      count = is.count;
    }
      where
        go : (n : ℕ) (other : Row) (b : Bool) → eqb n k ≡ b → cond b (Some row) (row_at feed.rows n) ≡ Some other → slice_get whole (n - 1) ≡ Some other
        go n other true e h =
            let i : n ≡ k = grind (arith, nat_tests) in
            ap (λ z. slice_get whole (z - 1)) i ∙ at ∙ h
        go n other false e h = is.same n other h

    taken_more : (feed : Fed) (k : ℕ) (row : Row) → IsFree feed k → (n : ℕ) → is_taken (with_taken k row feed) n ≡ with_number k (is_taken feed) n
    taken_more feed k row free n = lower.taken feed k n row free.none

    pub row_fits : (r : Held) (k : ℕ) (row : Row) → Fits q whole r → 1 ≤ k → slice_get whole (k - 1) ≡ Some row → IsFree r.feed k
        → Fits q whole (with_fed r (with_taken k row r.feed))
    row_fits r k row fits l at free =
        fed_later r (with_taken k row r.feed) fits (row_is_of r.feed k row fits.feed at free) (lower.grows r.feed k row fits.feed.ordered free) (λ e. e) refl

    -- with the close
    pub close_fits : (r : Held) → Fits q whole r → Fits q whole (with_fed r (with_close (length whole) r.feed))
    close_fits r fits =
        let f = fits.feed in
        let is : IsOf whole (with_close (length whole) r.feed) = record { ordered = record { least = f.ordered.least; ascend = f.ordered.ascend }; dropped = f.dropped; same = f.same; count = λ c e. cc } in
        fed_later r (with_close (length whole) r.feed) fits is (omega arith) (λ e. refl) refl

    -- a fresh record
    pub fresh_fits : Fits q whole fresh
    fresh_fits = record {
      feed = record { ordered = record { least = omega arith; ascend = tt }; dropped = omega arith; same = λ n row e. absurd (cc); count = λ c e. absurd (cc) };
      first = refl;
      stands = lower.begin q (seen_part whole fresh.feed);
    }

    -- ---- without the rows that aren't read any more

    fits_dropped : (r : MatcherState) (f : ℕ) (p : Known) (b : Bool) → (b ≡ false → f ≤ first_read q r.at) → fits_by b q r p → fits_by b q (record r { first = f }) p
    fits_dropped r f p true needed h = record { front = h.front; last = h.last; is = h.is; ends = h.ends; counted = h.counted }
    fits_dropped r f p false needed h = record { before = h.before; comes = h.comes; counted = h.counted; within = h.within; kept = needed refl }

    rest_is_of : (feed : Fed) (before : ℕ) → IsOf whole feed → IsReached feed before → IsOf whole (forgotten before feed)
    rest_is_of feed before is reached = record {
      ordered = lower.kept feed before is.ordered reached.kept;
      dropped = (let f = front_within whole feed is in let l = reached.reached in omega (arith, f, l));
      same = λ n row e. is.same n row (held n row (nat_lt n before) (sym (lower.dropped before n feed.rows) ∙ e));
      count = is.count;
    }
      where
        held : (n : ℕ) (row : Row) (b : Bool) → cond b None (row_at feed.rows n) ≡ Some row → row_at feed.rows n ≡ Some row
        held n row true e = absurd (cc)
        held n row false e = e

    pub rest_fits : (r : Held) (before : ℕ) → Fits q whole r → IsReached r.feed before → (r.state.over ≡ false → before ≤ first_read q r.state.at)
        → Fits q whole (dropped_to before r)
    rest_fits r before fits reached needed =
        let front : front_of (forgotten before r.feed) ≡ front_of r.feed = lower.front_stays r.feed before fits.feed.ordered reached in
        record {
          feed = rest_is_of r.feed before fits.feed reached;
          first = refl;
          stands = subst (λ (f : ℕ). StateFits q (record r.state { first = before }) (part_at f (is_some r.feed.closed))) (sym front) (fits_dropped r.state before (seen_part whole r.feed) r.state.over needed fits.stands);
        }

    -- ---- records' steps are steps of what they stand for

    pub same_known : (r : Held) (s : Standing) → Fits q whole r → StandsFor r s → known_of (known_of_rows q) whole s ≡ known q (seen_part whole r.feed)
    same_known r s fits for =
        let f = front_is whole r.feed fits.feed s for.taken in
        let c = for.closed in
        rw (f, c) refl

    pub row_steps : (r : Held) (s : Standing) (k : ℕ) (row : Row) → StandsFor r s → 1 ≤ k → slice_get whole (k - 1) ≡ Some row → IsFree r.feed k
        → Step (known_of_rows q) whole s (Takes k) (record s { taken = with_number k s.taken }) × StandsFor (with_fed r (with_taken k row r.feed)) (record s { taken = with_number k s.taken })
    row_steps r s k row for l at free =
        let m : k ≤ length whole = (let w = slice_get_within whole (k - 1) row at in omega (arith, w, l)) in
        (takes l m, record { taken = λ n i. ap (λ z. eqb n k || z) (for.taken n i) ∙ sym (taken_more r.feed k row free n); closed = for.closed; given = for.given })

    pub close_steps : (r : Held) (s : Standing) → StandsFor r s
        → Step (known_of_rows q) whole s Closes (record s { closed = true }) × StandsFor (with_fed r (with_close (length whole) r.feed)) (record s { closed = true })
    close_steps r s for = (closes, record { taken = for.taken; closed = refl; given = for.given })

    -- where a poll leaves what the record stands for
    pub record PollSteps (s : Standing) (new : Held) (act : Act Item) : Type 0 where
      pub next : Standing
      pub step : Step (known_of_rows q) whole s act next
      pub stands : StandsFor new next

    pub poll_steps : (old new : Held) (s : Standing) (act : Act Item) → Fits q whole old → StandsFor old s → PollFits q whole old new act → PollSteps s new act
    poll_steps old new s act fits for p = go act p.polls
      where
        kept : (n : ℕ) → 1 ≤ n → s.taken n ≡ is_taken new.feed n
        kept n l = for.taken n l ∙ sym (p.taken n l)

        shut : s.closed ≡ is_some new.feed.closed
        shut = for.closed ∙ ap is_some (sym p.closed)

        same : known_of (known_of_rows q) whole s ≡ known q (seen_part whole old.feed)
        same = same_known old s fits for

        go : (act : Act Item) → Polls q whole old new act → PollSteps s new act
        go act (item {x = x} at g) = record {
          next = record s { given = s.given + 1 };
          step = subst (λ z. Step (known_of_rows q) whole s (Gives (z + 1) x) (record s { given = s.given + 1 })) for.given
              (gives (ap (λ z. slice_get z s.given) same ∙ ap (slice_get (known q (seen_part whole old.feed))) for.given ∙ at));
          stands = record { taken = kept; closed = shut; given = ap (λ z. z + 1) for.given ∙ sym g };
        }
        go act (idle i g) = record {
          next = s;
          step = idles (for.given ∙ i ∙ ap length (sym same));
          stands = record { taken = kept; closed = shut; given = for.given ∙ sym g };
        }
        go act (paused g) = record { next = s; step = pauses; stands = record { taken = kept; closed = shut; given = for.given ∙ sym g } }
