-- What is seen of a walker's search.
use Rattle.std.proofs.Common.{◌≡◌, ℕ, ◌+◌, ◌-◌, ◌*◌, ◌≤◌, Bool, true, false, cond, Option, Some, None, refl, sym, ap, ◌∙◌, subst, arith}
use Rattle.std.specs.Prelude.{not, ◌&&◌, IfSome}
use Rattle.rp_search.specs.declared.search.Search.{Search}
use Rattle.rp_search.specs.Bound.{RemembersAll, WorkGrows, row_work, start_work}
use Rattle.rp_query.specs.declared.query.QueryData.{QueryData}
use Rattle.rp_known.specs.Known.{Known, count}
use Rattle.rp_walker.specs.declared.record.MatcherState.{MatcherState}
use Rattle.rp_walker.specs.declared.stage.Stage.{Stage}
use Rattle.rp_walker.specs.declared.stage.Stage.TheVariants.{Begin, Searching, Giving}
use Rattle.rp_walker.specs.Bound.{IsSeenAs, PollsAreSeen, RemembersBy, SearchSeen, SeenGrows, SeenIsSame, SeenRises, StageWorksBy, WorksBy, left_before, remembers_all, search_of, search_seen, seen_of, work_in, work_with}
use Rattle.rp_walker.specs.Given.{run_of}
use Rattle.rp_walker.specs.Walking.{record_of}
use Rattle.rp_walker.proofs.Working.{with_grows}

-- ---- whether all is remembered

both_false : (a b : Bool) → (not a && not b) ≡ true → (a ≡ false) × (b ≡ false)
both_false false false e = (refl, refl)
both_false false true e = absurd (cc)
both_false true b e = absurd (cc)

none_lost : (a b : Bool) → a ≡ false → b ≡ false → (not a && not b) ≡ true
none_lost a b e h = ap (λ x. not x && not b) e ∙ ap (λ x. not x) h

told_all : (s : Search) → remembers_all s ≡ true → RemembersAll s
unfolding RemembersAll
told_all s e = both_false s.memo.lost s.memo.passing e

all_told : (s : Search) → RemembersAll s → remembers_all s ≡ true
unfolding RemembersAll
all_told s h = none_lost s.memo.lost s.memo.passing h.0 h.1

-- ---- what is seen

abbrev seen_as : Search → (ℕ → ℕ → ℕ) → SearchSeen
seen_as s left = record { first = start_work s; row = row_work s; left = left (start_work s) (row_work s) }

abbrev or_other : SearchSeen → Option SearchSeen → SearchSeen
or_other other None = other
or_other other (Some s) = s

pub record IsSeenBy (s : SearchSeen) (t : Option Search) (left : ℕ → ℕ → ℕ) : Type 0 where
  pub by : IfSome t (WorksBy s.first s.row)
  pub left_is : s.left ≡ left s.first s.row

seen_by : (t : Search) (left : ℕ → ℕ → ℕ) (s : SearchSeen) → seen_of (Some t) left ≡ Some s → IsSeenBy s (Some t) left
seen_by t left s e = go (remembers_all t) refl e
  where
    go : (b : Bool) → remembers_all t ≡ b → cond b (Some (seen_as t left)) None ≡ Some s → IsSeenBy s (Some t) left
    go false is h = absurd (cc)
    go true is h =
        let same : seen_as t left ≡ s = ap (or_other s) h in
        subst (λ z. IsSeenBy z (Some t) left) same (record { by = record { remembers = told_all t is; first_is = refl; row_is = refl }; left_is = refl })

-- a search that remembers all is seen
shows : (first row : ℕ) (t : Search) (left : ℕ → ℕ → ℕ) → WorksBy first row t → seen_of (Some t) left ≡ Some (record { first = first; row = row; left = left first row })
shows first row t left by =
    ap (λ b. cond b (Some (seen_as t left)) None) (all_told t by.remembers)
    ∙ ap (λ z. Some (record { first = z; row = row_work t; left = left z (row_work t) })) by.first_is
    ∙ ap (λ z. Some (record { first = first; row = z; left = left first z })) by.row_is

-- ---- a poll

-- what was seen before
record SeenFrom (first row : ℕ) (old : Option SearchSeen) (new : SearchSeen) (n : ℕ) (r : MatcherState) (left : ℕ) : Type 0 where
  pub same : IfSome old (IsSeenAs new)
  pub before : left_before old new n r ≡ left

seen_from : (first row : ℕ) (t : Search) (left : ℕ → ℕ → ℕ) (new : SearchSeen) (n : ℕ) (r : MatcherState) → new.first ≡ first → new.row ≡ row → WorksBy first row t →
    SeenFrom first row (seen_of (Some t) left) new n r (left first row)
seen_from first row t left new n r f w by =
    subst (λ o. SeenFrom first row o new n r (left first row)) (sym (shows first row t left by)) (record { same = (sym f, sym w); before = refl })

stage_seen : (first row : ℕ) (q : QueryData) (p : Known) (r : MatcherState) (stage : Stage) (new : SearchSeen) → new.first ≡ first → new.row ≡ row → StageWorksBy first row stage →
    SeenFrom first row (seen_of (search_of stage) (λ f w. work_with f w q p r stage)) new (count p) r (work_with first row q p r stage)
stage_seen first row q p r (Begin None) new f w by =
    record { same = tt; before = ap (λ z. work_with z new.row q p r (Begin None)) f ∙ ap (λ z. work_with first z q p r (Begin None)) w }
stage_seen first row q p r (Begin (Some run)) new f w by = seen_from first row run.search.value (λ x y. work_with x y q p r (Begin (Some run))) new (count p) r f w by
stage_seen first row q p r (Searching run) new f w by = seen_from first row run.search.value (λ x y. work_with x y q p r (Searching run)) new (count p) r f w by
stage_seen first row q p r (Giving found a) new f w by = seen_from first row (run_of found).search.value (λ x y. work_with x y q p r (Giving found a)) new (count p) r f w by

-- the search that is seen at last
stage_by : (q : QueryData) (p : Known) (r : MatcherState) (stage : Stage) (s : SearchSeen) → seen_of (search_of stage) (λ f w. work_with f w q p r stage) ≡ Some s →
    IsSeenBy s (search_of stage) (λ f w. work_with f w q p r stage)
stage_by q p r (Begin None) s e = absurd (cc)
stage_by q p r (Begin (Some run)) s e = seen_by run.search.value (λ f w. work_with f w q p r (Begin (Some run))) s e
stage_by q p r (Searching run) s e = seen_by run.search.value (λ f w. work_with f w q p r (Searching run)) s e
stage_by q p r (Giving found a) s e = seen_by (run_of found).search.value (λ f w. work_with f w q p r (Giving found a)) s e

pub polls_seen : PollsAreSeen
unfolding search_seen RemembersBy work_in record_of
polls_seen taken q p old new answer works =
    record {
      same = λ f s is some.
          let last = stage_by q p new.state new.stage s is in
          (stage_seen s.first s.row q p old.state old.stage s refl refl (works.keeps f s.first s.row some last.by)).same;
      falls = λ f s is some matches.
          let last = stage_by q p new.state new.stage s is in
          let from = stage_seen s.first s.row q p old.state old.stage s refl refl (works.keeps f s.first s.row some last.by) in
          omega (arith, last.left_is, from.before, works.falls f s.first s.row some last.by matches);
    }

-- ---- rows that become known

rises : (rows : ℕ) (t : Search) (old new : ℕ → ℕ → ℕ) → ((first row : ℕ) → WorksBy first row t → new first row ≤ old first row + rows * (5 * row + first + 4)) →
    SeenRises rows (seen_of (Some t) old) (seen_of (Some t) new)
rises rows t old new h = go (remembers_all t) refl
  where
    go : (b : Bool) → remembers_all t ≡ b → SeenRises rows (cond b (Some (seen_as t old)) None) (cond b (Some (seen_as t new)) None)
    go false is = refl
    go true is = (seen_as t new, refl, (refl, refl), h (start_work t) (row_work t) (record { remembers = told_all t is; first_is = refl; row_is = refl }))

module _ (grows : WorkGrows) (q : QueryData) (p p' : Known) (le : count p ≤ count p') (r : MatcherState) where
  stage_rises : (stage : Stage) → SeenRises (count p' - count p) (seen_of (search_of stage) (λ f w. work_with f w q p r stage)) (seen_of (search_of stage) (λ f w. work_with f w q p' r stage))
  stage_rises (Begin None) = refl
  stage_rises (Begin (Some run)) =
      rises (count p' - count p) run.search.value (λ f w. work_with f w q p r (Begin (Some run))) (λ f w. work_with f w q p' r (Begin (Some run)))
      (λ f w by. with_grows grows q p p' f w (count p' - count p) le refl r (Begin (Some run)) by)
  stage_rises (Searching run) =
      rises (count p' - count p) run.search.value (λ f w. work_with f w q p r (Searching run)) (λ f w. work_with f w q p' r (Searching run))
      (λ f w by. with_grows grows q p p' f w (count p' - count p) le refl r (Searching run) by)
  stage_rises (Giving found a) =
      rises (count p' - count p) (run_of found).search.value (λ f w. work_with f w q p r (Giving found a)) (λ f w. work_with f w q p' r (Giving found a))
      (λ f w by. with_grows grows q p p' f w (count p' - count p) le refl r (Giving found a) by)

pub seen_grows : WorkGrows → SeenGrows
unfolding search_seen
seen_grows grows q p p' w le = stage_rises grows q p p' le w.state w.stage

-- ---- as many rows

same_left : (grows : WorkGrows) (q : QueryData) (p p' : Known) (same : count p' ≡ count p) (r : MatcherState) (stage : Stage) (first row : ℕ) → StageWorksBy first row stage →
    work_with first row q p' r stage ≡ work_with first row q p r stage
same_left grows q p p' same r stage first row by =
    let up = with_grows grows q p p' first row 0 (omega (arith, same)) (omega (arith, same)) r stage by in
    let down = with_grows grows q p' p first row 0 (omega (arith, same)) (omega (arith, same)) r stage by in
    omega (arith, up, down)

alike : (t : Search) (old new : ℕ → ℕ → ℕ) → ((first row : ℕ) → WorksBy first row t → new first row ≡ old first row) → seen_of (Some t) new ≡ seen_of (Some t) old
alike t old new h = go (remembers_all t) refl
  where
    go : (b : Bool) → remembers_all t ≡ b → cond b (Some (seen_as t new)) None ≡ cond b (Some (seen_as t old)) None
    go false is = refl
    go true is = ap (λ z. Some (record { first = start_work t; row = row_work t; left = z })) (h (start_work t) (row_work t) (record { remembers = told_all t is; first_is = refl; row_is = refl }))

module _ (grows : WorkGrows) (q : QueryData) (p p' : Known) (same : count p' ≡ count p) (r : MatcherState) where
  stage_same : (stage : Stage) → seen_of (search_of stage) (λ f w. work_with f w q p' r stage) ≡ seen_of (search_of stage) (λ f w. work_with f w q p r stage)
  stage_same (Begin None) = refl
  stage_same (Begin (Some run)) =
      alike run.search.value (λ f w. work_with f w q p r (Begin (Some run))) (λ f w. work_with f w q p' r (Begin (Some run))) (λ f w by. same_left grows q p p' same r (Begin (Some run)) f w by)
  stage_same (Searching run) =
      alike run.search.value (λ f w. work_with f w q p r (Searching run)) (λ f w. work_with f w q p' r (Searching run)) (λ f w by. same_left grows q p p' same r (Searching run) f w by)
  stage_same (Giving found a) =
      alike (run_of found).search.value (λ f w. work_with f w q p r (Giving found a)) (λ f w. work_with f w q p' r (Giving found a)) (λ f w by. same_left grows q p p' same r (Giving found a) f w by)

pub seen_same : WorkGrows → SeenIsSame
unfolding search_seen
seen_same grows q p p' w same = stage_same grows q p p' same w.state w.stage
