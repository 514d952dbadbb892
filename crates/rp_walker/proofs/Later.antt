-- A walker over rows that go on.
use Rattle.std.proofs.Common.{◌≡◌, ℕ, suc, ◌+◌, ◌≤◌, length, Bool, true, false, Option, Some, None, refl, sym, ◌∙◌, subst, arith}
use Rattle.std.specs.Prelude.{◌≢◌}
use Rattle.rp_search.specs.declared.search.Search.{Search}
use Rattle.rp_search.specs.Asked.{Asked, AskedExtend, rows_from}
use Rattle.rp_search.specs.Fits.{SearchFits, ChoicesStand}
use Rattle.rp_search.specs.Found.{Found, Match, NoMatch, Waits}
use Rattle.rp_search.specs.Search.{SearchFitsStays, start_of_search, labels_of_search}
use Rattle.rp_query.specs.declared.query.QueryData.{QueryData}
use Rattle.rp_query.specs.Sound.{IsSound}
use Rattle.rp_eval.specs.Laws.{TotalsStay}
use Rattle.rp_conditions.specs.Outlives.{TestsGoOn}
use Rattle.rp_known.specs.declared.place.Place.{Place}
use Rattle.rp_known.specs.Known.{Known, count}
use Rattle.rp_known.specs.WalkLaws.{GoesOnFrom}
use Rattle.rp_known.specs.Plans.{tested_by, first_read}
use Rattle.rp_known.specs.WalkLaws.{AreKnown, FindingsStay}
use Rattle.rp_walker.specs.declared.ahead.Ahead.{Ahead}
use Rattle.rp_walker.specs.declared.record.MatcherState.{MatcherState}
use Rattle.rp_walker.specs.declared.run.Run.{Run}
use Rattle.rp_walker.specs.declared.stage.Ended.{Ended}
use Rattle.rp_walker.specs.declared.stage.Ended.TheVariants.{Match as EndedMatch, NoMatch as EndedNoMatch}
use Rattle.rp_walker.specs.declared.stage.Stage.{Stage}
use Rattle.rp_walker.specs.declared.stage.Stage.TheVariants.{Begin, Searching, Giving}
use Rattle.rp_walker.specs.declared.walker.Walker.{Walker}
use Rattle.rp_walker.specs.Given.{result_of, run_of}
use Rattle.rp_walker.specs.Records.{place_of}
use Rattle.rp_walker.specs.Stages.{Searches, Serves, IsSpare, Gives, Totalled, MatchTotalled, StageStands, asked_by}
use Rattle.rp_walker.specs.Walking.{stands_by, Stands, record_of, CanGoOn}

not_waits : (found : Ended) → result_of found ≢ Waits
not_waits (EndedNoMatch run) = λ e. cc
not_waits (EndedMatch run) = λ e. cc

still_known : (from n n' : ℕ) (result : Found) → n ≤ n' → AreKnown from n result → AreKnown from n' result
still_known from n n' (Match ls) h k = omega (arith, h, k)
still_known from n n' NoMatch h k = tt
still_known from n n' Waits h k = tt

-- the labels of a search that fits are of known rows
labels_known : (s : Search) (asked : Asked) → SearchFits s asked → length (labels_of_search s) ≤ rows_from (start_of_search s) asked.known
unfolding ChoicesStand labels_of_search start_of_search
labels_known s asked h = h.stands.known

module _ (found_stays : FindingsStay) (fits_stay : SearchFitsStays) (tests : TestsGoOn) (totals_stay : TotalsStay) (q : QueryData) (p p' : Known) (sound : IsSound q) where
  totals_later : (start : ℕ) (run : Run) → 1 ≤ start → GoesOnFrom (first_read q start) p p' → start + length (labels_of_search run.search.value) ≤ suc (count p) → Totalled q p start run → Totalled q p' start run
  totals_later start run one g within h =
      record {
        plan = h.plan;
        totals = totals_stay run.totals p.rows p'.rows start (labels_of_search run.search.value) (λ row low high. g.same row (omega (arith, low, one)) (omega (arith, high, within))) h.totals;
      }

  searches_later : (start : ℕ) (run : Run) → 1 ≤ start → GoesOnFrom (first_read q start) p p' → Searches q p start run → Searches q p' start run
  searches_later start run one g h =
      let more : count p ≤ count p' = g.later.0 in
      let extends : AskedExtend start (asked_by q p) (asked_by q p') = tests (tested_by q p) p'.rows p'.end start one sound g in
      let short : length (labels_of_search run.search.value) ≤ rows_from (start_of_search run.search.value) (count p) = labels_known run.search.value (asked_by q p) h.fits in
      record {
        known = omega (arith, h.known, more);
        begins = h.begins;
        pattern = h.pattern;
        fits = fits_stay run.search.value (asked_by q p) (asked_by q p') (subst (λ i. AskedExtend i (asked_by q p) (asked_by q p')) (sym h.begins) extends) h.fits;
        totalled = totals_later start run one g (omega (arith, h.known, subst (λ i. length (labels_of_search run.search.value) ≤ rows_from i (count p)) h.begins short)) h.totalled;
      }

  serves_later : (start : ℕ) (run : Run) → 1 ≤ start → GoesOnFrom (first_read q start) p p' → Serves q p start run → Serves q p' start run
  serves_later start run one g h =
      let extends : AskedExtend start (asked_by q p) (asked_by q p') = tests (tested_by q p) p'.rows p'.end start one sound g in
      record {
        begins = h.begins;
        pattern = h.pattern;
        fits = fits_stay run.search.value (asked_by q p) (asked_by q p') (subst (λ i. AskedExtend i (asked_by q p) (asked_by q p')) (sym h.begins) extends) h.fits;
        plan = h.plan;
      }

  spare_later : (start : ℕ) (spare : Option Run) → 1 ≤ start → GoesOnFrom (first_read q start) p p' → IsSpare q p start spare → IsSpare q p' start spare
  spare_later start None one g h = tt
  spare_later start (Some run) one g h = record { serves = serves_later start run one g h.serves; labels = h.labels }

  match_later : (start : ℕ) (found : Ended) → 1 ≤ start → GoesOnFrom (first_read q start) p p' → AreKnown start (count p) (result_of found) → MatchTotalled q p start found → MatchTotalled q p' start found
  match_later start (EndedNoMatch run) one g known h = tt
  match_later start (EndedMatch run) one g known h = totals_later start run one g known h

  gives_later : (place : Place) (found : Ended) (a : Ahead) → 1 ≤ place.start → GoesOnFrom (first_read q place.start) p p' → Gives q p place (result_of found) a → Gives q p' place (result_of found) a
  gives_later place found a one g h =
      let more : count p ≤ count p' = g.later.0 in
      record {
        known = omega (arith, h.known, more);
        found = found_stays q p p' place.start sound one g (λ e. not_waits found (sym h.found ∙ e)) ∙ h.found;
        in_rows = still_known place.start (count p) (count p') (result_of found) more h.in_rows;
        passed = h.passed;
        rows = h.rows;
        seen = h.seen;
        fewer = h.fewer;
        low = h.low;
        ordered = h.ordered;
        high = omega (arith, h.high, more);
      }

  stage_later : (r : MatcherState) (stage : Stage) → 1 ≤ r.at → GoesOnFrom (first_read q r.at) p p' → StageStands q p r stage → StageStands q p' r stage
  stage_later r (Begin spare) one g h = spare_later r.at spare one g h
  stage_later r (Searching run) one g h = searches_later r.at run one g h
  stage_later r (Giving found a) one g h = (gives_later (place_of r) found a one g h.0, h.1, match_later r.at found one g h.0.in_rows h.2, serves_later r.at (run_of found) one g h.3)

  by_later : (b : Bool) (w : Walker) → (b ≡ false → GoesOnFrom (first_read q w.state.at) p p') → stands_by b q p w → stands_by b q p' w
  by_later true w g h = h
  by_later false w g h = record { going = h.going; stands = stage_later w.state w.stage h.going.from_one (g refl) h.stands }

  pub stands_later : (w : Walker) → ((record_of w).over ≡ false → GoesOnFrom (first_read q (record_of w).at) p p') → Stands q p w → Stands q p' w
  unfolding Stands record_of
  stands_later w g h = by_later w.state.over w g h

can_by : (b : Bool) (q : QueryData) (p : Known) (w : Walker) → w.state.over ≡ b → stands_by b q p w → CanGoOn q w.state
can_by true q p w over h = record { here = h; going = λ going. absurd (let e : true ≡ false = sym over ∙ going in cc) }
can_by false q p w going h = record { here = h.going.enough; going = λ _. (h.going.from_one, h.going.fewer, h.going.kept) }

-- the record of a walker that stands is one to go on from
pub stands_can : (q : QueryData) (p : Known) (w : Walker) → Stands q p w → CanGoOn q (record_of w)
unfolding Stands record_of
stands_can q p w h = can_by w.state.over q p w refl h
