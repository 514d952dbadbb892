-- What is left is bounded, the same over rows that agree, and the same once rows are dropped.
use Rattle.std.proofs.Common.{◌≡◌, ℕ, ◌+◌, ◌-◌, ◌<◌, ◌≤◌, ◌⊎◌, max, length, Bool, true, false, cond, None, refl, sym, ap, ◌∙◌, subst, arith}
use Rattle.std.specs.Prelude.{nat_le}
use Rattle.std.proofs.lemmas.Bool.Decides.{nat_tests}
use Rattle.rp_words.specs.PatternForm.{form_of}
use Rattle.rp_words.specs.Turns.{turns, starts_turns, all_turns}
use Rattle.rp_words.specs.Words.{words}
use Rattle.rp_words.specs.declared.word.End.{End}
use Rattle.rp_words.specs.declared.word.End.TheVariants.{Open as OpenEnd, Closed as ClosedEnd}
use Rattle.rp_search.specs.Asked.{AskedExtend}
use Rattle.rp_search.specs.Fits.{left_by}
use Rattle.rp_search.specs.Search.{LeftIsBounded as SearchLeft, LeftIsSame as SearchLeftSame}
use Rattle.rp_conditions.specs.Outlives.{TestsGoOn}
use Rattle.rp_query.specs.declared.query.QueryData.{QueryData}
use Rattle.rp_query.specs.Sound.{IsSound}
use Rattle.rp_known.specs.Known.{Known, count}
use Rattle.rp_known.specs.Plans.{tested_by, first_read}
use Rattle.rp_walker.specs.declared.record.MatcherState.{MatcherState}
use Rattle.rp_walker.specs.declared.run.Run.{Run}
use Rattle.rp_walker.specs.declared.stage.Stage.{Stage}
use Rattle.rp_walker.specs.declared.stage.Stage.TheVariants.{Begin, Searching, Giving}
use Rattle.rp_walker.specs.declared.walker.Walker.{Walker}
use Rattle.rp_walker.specs.FitLaws.{AgreesFrom}
use Rattle.rp_walker.specs.LeftLaw.{Drops, LeftIsSame, StaysOver}
use Rattle.rp_walker.specs.Records.{horizon_of}
use Rattle.rp_walker.specs.Stages.{Searches, StageStands, stage_left, starts_to, left_with, asked_by}
use Rattle.rp_walker.specs.Walking.{Stands, StandsStays, StandsCanGoOn, stands_by, GoesOnWell, record_of}
use Rattle.rp_walker.specs.Polls.{left_in}
use Rattle.rp_walker.proofs.Agreeing.{goes_on_later}
use Rattle.rp_walker.proofs.Begins.{left_past, most_of}
use Rattle.rp_walker.proofs.Steps.{left_going}
use Rattle.rp_walker.proofs.Ends.{starts_up, starts_before}

module _ (bounded : SearchLeft) (q : QueryData) (p : Known) where
  stage_bounded : (r : MatcherState) (stage : Stage) → StageStands q p r stage → stage_left q p r stage ≤ stage_left q p r (Begin None)
  stage_bounded r (Begin spare) h = omega arith
  stage_bounded r (Searching run) h = omega (arith, bounded run.search.value (asked_by q p) h.fits, most_of q p r.at run h)
  stage_bounded r (Giving found a) h = omega (arith, h.0.low, h.0.ordered, h.0.high, h.0.known)

  going_bounded : (w : Walker) → GoesOnWell q p w → left_with q p w.state w.stage ≤ all_turns (count p) p.end (form_of q.pattern)
  going_bounded w h = go (nat_le w.state.at (count p)) refl
    where
      go : (b : Bool) → nat_le w.state.at (count p) ≡ b → left_with q p w.state w.stage ≤ all_turns (count p) p.end (form_of q.pattern)
      go true e =
          let low : w.state.at ≤ count p = grind (arith, nat_tests) in
          omega (
            arith,
            left_going q p w.state w.stage h.going.going low,
            stage_bounded w.state w.stage h.stands,
            starts_before (count p) p.end (form_of q.pattern) w.state.at h.going.from_one,
            starts_up (count p) p.end (form_of q.pattern) w.state.at (count p) low,
          )
      go false e =
          let past : count p < w.state.at = grind (arith, nat_tests) in
          omega (arith, left_past q p w.state w.stage h.going.going past)

  by_bounded : (b : Bool) (w : Walker) → w.state.over ≡ b → stands_by b q p w → left_with q p w.state w.stage ≤ all_turns (count p) p.end (form_of q.pattern)
  by_bounded true w e h = subst (λ b. cond b 0 (1 + cond (nat_le w.state.at (count p)) (stage_left q p w.state w.stage + (starts_to q p (count p) - starts_to q p w.state.at)) 0) ≤ all_turns (count p) p.end (form_of q.pattern)) (sym e) (omega arith)
  by_bounded false w e h = going_bounded w h

  pub left_bounded : (w : Walker) → Stands q p w → left_in q p w ≤ all_turns (count p) p.end (form_of q.pattern)
  unfolding Stands left_in
  left_bounded w h = by_bounded w.state.over w refl h

-- ---- over rows that agree

same_end : (a b : End) → (a ≡ ClosedEnd → b ≡ ClosedEnd) → (b ≡ ClosedEnd → a ≡ ClosedEnd) → b ≡ a
same_end OpenEnd OpenEnd h k = refl
same_end OpenEnd ClosedEnd h k = sym (k refl)
same_end ClosedEnd b h k = h refl

agreed_count : {first : ℕ} {p p' : Known} → AgreesFrom first p p' → count p' ≡ count p
agreed_count {p = p} {p' = p'} a = let x : count p ≤ count p' = a.on.later.0 in let y : count p' ≤ count p = a.back.later.0 in omega (arith, x, y)

agreed_end : {first : ℕ} {p p' : Known} → AgreesFrom first p p' → p'.end ≡ p.end
agreed_end {p = p} {p' = p'} a = same_end p.end p'.end (λ h. (a.on.later.1 h).1) (λ h. (a.back.later.1 h).1)

module _ (same : SearchLeftSame) (tests : TestsGoOn) (q : QueryData) (p p' : Known) (sound : IsSound q) where
  search_same : (start : ℕ) (run : Run) → 1 ≤ start → AgreesFrom (first_read q start) p p' → Searches q p start run → left_by run.search.value (asked_by q p') ≡ left_by run.search.value (asked_by q p)
  search_same start run one a h =
      let on : AskedExtend start (asked_by q p) (asked_by q p') = tests (tested_by q p) p'.rows p'.end start one sound a.on in
      let back : AskedExtend start (asked_by q p') (asked_by q p) = tests (tested_by q p') p.rows p.end start one sound a.back in
      same run.search.value (asked_by q p) (asked_by q p') (subst (λ i. AskedExtend i (asked_by q p) (asked_by q p')) (sym h.begins) on)
      (subst (λ i. AskedExtend i (asked_by q p') (asked_by q p)) (sym h.begins) back) h.fits

  stage_same : (r : MatcherState) (stage : Stage) → 1 ≤ r.at → AgreesFrom (first_read q r.at) p p' → StageStands q p r stage → stage_left q p' r stage ≡ stage_left q p r stage
  stage_same r (Begin spare) one a h =
      ap (λ n. turns n p'.end (form_of q.pattern) r.at + length (words n p'.end (form_of q.pattern) r.at) + (n - r.at) + 4) (agreed_count a)
      ∙ ap (λ e. turns (count p) e (form_of q.pattern) r.at + length (words (count p) e (form_of q.pattern) r.at) + (count p - r.at) + 4) (agreed_end a)
  stage_same r (Searching run) one a h =
      ap (λ k. k + (count p' - r.at) + 4) (search_same r.at run one a h) ∙ ap (λ n. left_by run.search.value (asked_by q p) + (n - r.at) + 4) (agreed_count a)
  stage_same r (Giving found a) one b h = refl

  with_same : (r : MatcherState) (stage : Stage) → count p' ≡ count p → p'.end ≡ p.end → stage_left q p' r stage ≡ stage_left q p r stage → left_with q p' r stage ≡ left_with q p r stage
  with_same r stage known end here =
      ap (λ k. cond r.over 0 (1 + cond (nat_le r.at (count p')) (k + (starts_turns (count p') p'.end (form_of q.pattern) (count p') - starts_turns (count p') p'.end (form_of q.pattern) r.at)) 0)) here
      ∙ ap (λ n. cond r.over 0 (1 + cond (nat_le r.at n) (stage_left q p r stage + (starts_turns n p'.end (form_of q.pattern) n - starts_turns n p'.end (form_of q.pattern) r.at)) 0)) known
      ∙ ap (λ e. cond r.over 0 (1 + cond (nat_le r.at (count p)) (stage_left q p r stage + (starts_turns (count p) e (form_of q.pattern) (count p) - starts_turns (count p) e (form_of q.pattern) r.at)) 0)) end

  over_left : (k : Known) (r : MatcherState) (stage : Stage) → r.over ≡ true → left_with q k r stage ≡ 0
  over_left k r stage e = ap (λ b. cond b 0 (1 + cond (nat_le r.at (count k)) (stage_left q k r stage + (starts_to q k (count k) - starts_to q k r.at)) 0)) e

  by_same : (b : Bool) (w : Walker) → w.state.over ≡ b → (b ≡ false → AgreesFrom (first_read q w.state.at) p p') → stands_by b q p w → left_with q p' w.state w.stage ≡ left_with q p w.state w.stage
  by_same true w e a h = over_left p' w.state w.stage e ∙ sym (over_left p w.state w.stage e)
  by_same false w e a h =
      let agrees = a refl in
      with_same w.state w.stage (agreed_count agrees) (agreed_end agrees) (stage_same w.state w.stage h.going.from_one agrees h.stands)

  pub left_same : (w : Walker) → ((record_of w).over ≡ false → AgreesFrom (first_read q (record_of w).at) p p') → Stands q p w → left_in q p' w ≡ left_in q p w
  unfolding Stands left_in record_of
  left_same w a h = by_same w.state.over w refl a h

-- ---- over the rows that are left

module _ (q : QueryData) (p p' : Known) (w : Walker) (first : ℕ) (sound : IsSound q) (d : Drops q (record_of w) first p p') (h : Stands q p w) where
  unread : StandsCanGoOn → (record_of w).over ≡ false → first ≤ first_read q (record_of w).at
  unread can going =
      least first (record_of w).first (horizon_of q p (record_of w)) (first_read q (record_of w).at) d.not_past
      (ap (λ b. cond b (count p + 1) (first_read q (record_of w).at)) going) ((can q p w h).going going).2
    where
      least : (a b c e : ℕ) → a ≤ max b c → c ≡ e → b ≤ e → a ≤ e
      least a b c e x y z = omega (arith, x, y, z)

  agrees_unread : StandsCanGoOn → (record_of w).over ≡ false → AgreesFrom (first_read q (record_of w).at) p p'
  agrees_unread can going =
      record {
        on = goes_on_later first (first_read q (record_of w).at) p p' (unread can going) d.agree.on;
        back = goes_on_later first (first_read q (record_of w).at) p' p (unread can going) d.agree.back;
      }

  pub dropped_unread : StandsStays → StandsCanGoOn → LeftIsSame → StaysOver q w first p p'
  dropped_unread stays can same =
      record {
        as_many = agreed_count d.agree;
        stands = stays q p p' w sound (λ going. (agrees_unread can going).on) h;
        reads = unread can;
        left = same q p p' w sound (agrees_unread can) h;
        held = subst (λ n. (cond (record_of w).over (n + 1) (first_read q (record_of w).at) ≤ first) ⊎ (n < first)) (sym (agreed_count d.agree)) d.all;
      }
