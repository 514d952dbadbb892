-- A search that ends, and a start row that begins.
use Rattle.std.proofs.Common.{◌≡◌, ℕ, suc, ◌+◌, ◌-◌, ◌<◌, ◌≤◌, List, [], ◌∷◌, ◌++◌, length, length-append, append_assoc, Bool, false, cond, Option, Some, refl, sym, ap, ◌∙◌, subst, arith}
use Rattle.std.specs.Prelude.{◌≢◌, slice_get, nat_le, Result, IfOk}
use Rattle.std.proofs.Common.{Ok, Err}
use Rattle.std.proofs.lemmas.Bool.Decides.{nat_tests}
use Rattle.rp_words.specs.declared.word.Label.{Label}
use Rattle.rp_words.specs.declared.word.End.TheVariants.{Open as OpenEnd, Closed as ClosedEnd}
use Rattle.rp_words.specs.PatternForm.{form_of}
use Rattle.rp_words.specs.Turns.{turns}
use Rattle.rp_words.specs.Words.{words}
use Rattle.rp_query.specs.declared.query.RowsPerMatch.{RowsPerMatch}
use Rattle.rp_query.specs.declared.query.RowsPerMatch.TheVariants.{One, AllShowEmpty, AllOmitEmpty, AllWithUnmatched}
use Rattle.rp_search.specs.Fits.{left_by}
use Rattle.rp_search.specs.Found.{Found, Match, Waits}
use Rattle.rp_search.specs.Search.{LeftIsBounded, most_turns}
use Rattle.rp_query.specs.declared.query.QueryData.{QueryData}
use Rattle.rp_query.specs.declared.item.Item.TheVariants.{End as EndItem}
use Rattle.rp_known.specs.declared.place.Place.{Place}
use Rattle.rp_known.specs.Known.{Known, count}
use Rattle.rp_known.specs.Items.{unexcluded, item_rows}
use Rattle.rp_known.specs.Walk.{Pauses, found_at, at_last, searched, leg, leg_items, known}
use Rattle.rp_known.specs.WalkLaws.{AreKnown}
use Rattle.rp_walker.specs.Records.{place_of, IsWithin}
use Rattle.rp_walker.specs.Steps.{IsDone, IsStop, Moves, IsEnd}
use Rattle.rp_walker.specs.declared.ahead.Ahead.{Ahead}
use Rattle.rp_walker.specs.declared.record.MatcherState.{MatcherState}
use Rattle.rp_walker.specs.declared.run.Run.{Run}
use Rattle.rp_walker.specs.declared.stage.Ended.{Ended}
use Rattle.rp_walker.specs.declared.stage.Stage.{Stage}
use Rattle.rp_walker.specs.declared.stage.Stage.TheVariants.{Begin, Searching, Giving}
use Rattle.rp_walker.specs.declared.stage.Step.{Step}
use Rattle.rp_walker.specs.declared.stage.Step.TheVariants.{Went, Gave, Idle}
use Rattle.rp_walker.specs.declared.walker.Walker.{Walker}
use Rattle.rp_walker.specs.Given.{is_excluded, is_hidden, shown_from, result_of, run_of}
use Rattle.rp_walker.specs.Stages.{Searches, Gives, MatchTotalled, Serves, rows_ahead, asked_by, IsGoing, StageStands, stage_left, starts_to, left_with, Lowers}
use Rattle.rp_walker.specs.Walking.{KeepsGoing}
use Rattle.rp_walker.proofs.Steps.{leg_of, left_going, stays_put, stands_going}
use Rattle.rp_walker.proofs.Ends.{LastItem}

-- ---- the rows of a match

seam : (front rest : List Label) (l : Label) → slice_get (front ++ l ∷ rest) (length front) ≡ Some l
seam [] rest l = refl
seam (f ∷ fs) rest l = seam fs rest l

abbrev hides : ℕ → List Label → ℕ → Bool
hides start labels row = is_excluded (slice_get labels (row - start))

same_choice : (a b : Bool) (r : ℕ) (xs ys : List ℕ) → a ≡ b → xs ≡ ys → cond a xs (r ∷ xs) ≡ cond b ys (r ∷ ys)
same_choice a b r xs ys e h = ap (λ c. cond c xs (r ∷ xs)) e ∙ ap (λ zs. cond b zs (r ∷ zs)) h

unexcluded_shown : (start : ℕ) (front rest : List Label) → unexcluded (start + length front) rest ≡ shown_from (hides start (front ++ rest)) (length rest) (start + length front)
unexcluded_shown start front [] = refl
unexcluded_shown start front (l ∷ ls) =
    let row : ℕ = start + length front in
    let place : row - start ≡ length front = omega arith in
    let hidden : l.excluded ≡ hides start (front ++ l ∷ ls) row = sym (ap (λ k. is_excluded (slice_get (front ++ l ∷ ls) k)) place ∙ ap is_excluded (seam front ls l)) in
    let next : start + length (front ++ l ∷ []) ≡ suc row = omega (arith, length-append front (l ∷ [])) in
    let later : unexcluded (suc row) ls ≡ shown_from (hides start (front ++ l ∷ ls)) (length ls) (suc row) =
    ap (λ r. unexcluded r ls) (sym next) ∙ unexcluded_shown start (front ++ l ∷ []) ls ∙ ap (λ r. shown_from (hides start ((front ++ l ∷ []) ++ ls)) (length ls) r) next
    ∙ ap (λ ms. shown_from (hides start ms) (length ls) (suc row)) (append_assoc front (l ∷ []) ls) in
    same_choice l.excluded (hides start (front ++ l ∷ ls) row) row (unexcluded (suc row) ls) (shown_from (hides start (front ++ l ∷ ls)) (length ls) (suc row)) hidden later

all_shown : (start : ℕ) (labels : List Label) → unexcluded start labels ≡ shown_from (hides start labels) (length labels) start
all_shown start labels =
    let none : start + 0 ≡ start = omega arith in
    subst (λ r. unexcluded r labels ≡ shown_from (hides start labels) (length labels) r) none (unexcluded_shown start [] labels)

by_shows : (shows : RowsPerMatch) (place : Place) (labels : List Label) → 0 < length labels → shows ≢ One → item_rows shows place (Match labels) ≡ shown_from (is_hidden shows place.start (Match labels)) (length labels) place.start
by_shows shows place [] h k = absurd (omega (arith, h))
by_shows One place (l ∷ ls) h k = absurd (k refl)
by_shows AllShowEmpty place (l ∷ ls) h k = all_shown place.start (l ∷ ls)
by_shows AllOmitEmpty place (l ∷ ls) h k = all_shown place.start (l ∷ ls)
by_shows AllWithUnmatched place (l ∷ ls) h k = all_shown place.start (l ∷ ls)

pub all_ahead : (q : QueryData) (place : Place) (labels : List Label) (a : Ahead) → 0 < length labels → q.plan.rows ≢ One → a.next ≡ place.start → a.end ≡ place.start + length labels →
    item_rows q.plan.rows place (Match labels) ≡ rows_ahead q place.start (Match labels) a
all_ahead q place labels a h k n e =
    let many : length labels ≡ a.end - a.next = omega (arith, n, e) in
    by_shows q.plan.rows place labels h k
    ∙ ap (λ c. shown_from (is_hidden q.plan.rows place.start (Match labels)) c place.start) many
    ∙ ap (λ r. shown_from (is_hidden q.plan.rows place.start (Match labels)) (a.end - a.next) r) (sym n)

-- ---- a search that ends

pub gives_first : (q : QueryData) (p : Known) (place : Place) (result : Found) (a : Ahead) → place.start ≤ count p → found_at q p place.start ≡ result → AreKnown place.start (count p) result →
    a.seen ≡ 0 → place.start ≤ a.next → a.next ≤ a.end → a.end ≤ suc (count p) → item_rows q.plan.rows place result ≡ rows_ahead q place.start result a → Gives q p place result a
gives_first q p place result a known found in_rows seen low ordered high rows =
    record { known = known; found = found; in_rows = in_rows; passed = []; rows = rows; seen = seen; fewer = omega (arith, seen, low); low = low; ordered = ordered; high = high }

pub begins_giving : (q : QueryData) (p : Known) (w : Walker) (found : Ended) (a : Ahead) (run : Run) (taken : ℕ) → taken ≤ left_by run.search.value (asked_by q p) + 1 → IsGoing q w.state → Gives q p (place_of w.state) (result_of found) a → a.seen ≡ 0 → MatchTotalled q p w.state.at found → Serves q p w.state.at (run_of found) →
    KeepsGoing taken q p w.state (Searching run) (record w { stage = Giving found a }) Went
begins_giving q p w found a run taken few g gives seen totals serves =
    record {
      given = refl;
      over = tt;
      first = refl;
      in_rows = λ h. h;
      stands = stands_going q p (record w { stage = Giving found a }) g (gives, omega (arith, seen), totals, serves);
      lowers = omega (arith, few, gives.low, gives.ordered, gives.high, left_going q p w.state (Giving found a) g.going gives.known, left_going q p w.state (Searching run) g.going gives.known);
      follows = λ within. record { moves = stays_put q p w.state g.going within; is = refl };
    }

-- ---- a search that goes on

pub searches_on : (q : QueryData) (p : Known) (w : Walker) (old new : Run) (taken : ℕ) → IsGoing q w.state → Searches q p w.state.at new → left_by new.search.value (asked_by q p) + taken ≤ left_by old.search.value (asked_by q p) →
    KeepsGoing taken q p w.state (Searching old) (record w { stage = Searching new }) Went
searches_on q p w old new taken g s fewer =
    record {
      given = refl;
      over = tt;
      first = refl;
      in_rows = λ h. h;
      stands = stands_going q p (record w { stage = Searching new }) g s;
      lowers = omega (arith, fewer, left_going q p w.state (Searching old) g.going s.known, left_going q p w.state (Searching new) g.going s.known);
      follows = λ within. record { moves = stays_put q p w.state g.going within; is = refl };
    }

stops_here : (q : QueryData) (p : Known) (r : MatcherState) → IsGoing q r → leg q p (place_of r) ≡ Pauses [] → IsWithin q p r → Moves q p r r × IsDone q p r
stops_here q p r g none within =
    let no_item : r.here ≤ 0 = subst (λ t. r.here ≤ length (leg_items t)) none within in
    let zero_here : r.here ≡ 0 = omega (arith, no_item) in
    (stays_put q p r g.going within, record { stops = subst IsStop (sym none) tt; all = zero_here ∙ sym (ap (λ t. length (leg_items t)) none); over = λ ends. absurd (subst IsEnd none ends) })

pub search_waits : (q : QueryData) (p : Known) (w : Walker) (old new : Run) (taken : ℕ) → IsGoing q w.state → Searches q p w.state.at new → found_at q p w.state.at ≡ Waits → left_by new.search.value (asked_by q p) ≤ left_by old.search.value (asked_by q p) →
    KeepsGoing taken q p w.state (Searching old) (record w { stage = Searching new }) Idle
search_waits q p w old new taken g s found fewer =
    let none : leg q p (place_of w.state) ≡ Pauses [] = leg_of q p (place_of w.state) Waits [] s.known found refl in
    record {
      given = refl;
      over = tt;
      first = refl;
      in_rows = λ h. h;
      stands = stands_going q p (record w { stage = Searching new }) g s;
      lowers = omega (arith, fewer, left_going q p w.state (Searching old) g.going s.known, left_going q p w.state (Searching new) g.going s.known);
      follows = λ within. let h = stops_here q p w.state g none within in record { moves = h.0; is = (refl, h.1) };
    }

-- ---- a start row that begins

pub from_more : (taken : ℕ) (q : QueryData) (p : Known) (r : MatcherState) (new : Walker) (stage more : Stage) (step : Step) → left_with q p r stage ≤ left_with q p r more →
    KeepsGoing taken q p r stage new step → KeepsGoing taken q p r more new step
from_more taken q p r new stage more step h k = record { given = k.given; over = k.over; first = k.first; stands = k.stands; in_rows = k.in_rows; lowers = lower step k.lowers; follows = k.follows }
  where
    lower : (s : Step) → Lowers taken s (left_with q p r stage) (left_with q p new.state new.stage) → Lowers taken s (left_with q p r more) (left_with q p new.state new.stage)
    lower Went l = omega (arith, h, l)
    lower (Gave x) l = omega (arith, h, l)
    lower Idle l = omega (arith, h, l)

pub most_of : (q : QueryData) (p : Known) (start : ℕ) (run : Run) → Searches q p start run → most_turns run.search.value (count p) p.end ≡ turns (count p) p.end (form_of q.pattern) start + length (words (count p) p.end (form_of q.pattern) start)
most_of q p start run h =
    h.pattern.same_turns (count p) p.end _ ∙ ap (λ i. turns (count p) p.end (form_of q.pattern) i + length (words (count p) p.end (form_of q.pattern) i)) h.begins

pub search_begins : LeftIsBounded → (q : QueryData) (p : Known) (r : MatcherState) (run : Run) (spare : Option Run) → IsGoing q r → Searches q p r.at run → left_with q p r (Searching run) ≤ left_with q p r (Begin spare)
search_begins bounded q p r run spare g h =
    omega (arith, left_going q p r (Searching run) g.going h.known, left_going q p r (Begin spare) g.going h.known, bounded run.search.value (asked_by q p) h.fits, most_of q p r.at run h)

-- ---- past the last start row

leg_past : (q : QueryData) (p : Known) (place : Place) → count p < place.start → leg q p place ≡ at_last p.end
leg_past q p place h =
    let past : nat_le place.start (count p) ≡ false = grind (arith, nat_tests) in
    ap (λ b. cond b (searched q p place (found_at q p place.start)) (at_last p.end)) past

pub left_past : (q : QueryData) (p : Known) (r : MatcherState) (stage : Stage) → r.over ≡ false → count p < r.at → left_with q p r stage ≡ 1
left_past q p r stage going h =
    let past : nat_le r.at (count p) ≡ false = grind (arith, nat_tests) in
    let some : ℕ = stage_left q p r stage + (starts_to q p (count p) - starts_to q p r.at) in
    ap (λ b. cond b 0 (1 + cond (nat_le r.at (count p)) some 0)) going ∙ ap (λ b. 1 + cond b some 0) past

pub waits_past : (q : QueryData) (p : Known) (w : Walker) → IsGoing q w.state → StageStands q p w.state w.stage → count p < w.state.at → p.end ≡ OpenEnd → KeepsGoing 1 q p w.state w.stage w Idle
waits_past q p w g stands past is_open =
    let none : leg q p (place_of w.state) ≡ Pauses [] = leg_past q p (place_of w.state) past ∙ ap at_last is_open in
    record {
      given = refl;
      over = tt;
      first = refl;
      in_rows = λ h. h;
      stands = stands_going q p w g stands;
      lowers = omega arith;
      follows = λ within. let h = stops_here q p w.state g none within in record { moves = h.0; is = (refl, h.1) };
    }

pub end_past : (q : QueryData) (p : Known) (w : Walker) → count p < w.state.at → p.end ≡ ClosedEnd → LastItem (leg q p (place_of w.state)) 0 EndItem
end_past q p w past closed = record { items = []; many = refl; is = leg_past q p (place_of w.state) past ∙ ap at_last closed }

-- ---- results

pub if_ok_map : {A E : Type 0} (P Q : A → Type 0) (r : Result A E) → ((x : A) → P x → Q x) → IfOk r P → IfOk r Q
if_ok_map P Q (Ok x) h k = h x k
if_ok_map P Q (Err e) h k = k
