-- What is left of a start row's search, that the turns counted there come off it, and where an answer may then be given up.
use Rattle.std.proofs.Common.{◌≡◌, ◌∙◌, ℕ, suc, ◌+◌, ◌-◌, ◌<◌, ◌≤◌, Bool, true, false, cond, List, [], ◌∷◌, ◌++◌, length, length-append, Option, Some, None, refl, sym, ap, subst, arith, ◌⊎◌, inl, inr}
use Rattle.std.specs.Prelude.{nat_le, slice_get}
use Rattle.std.proofs.lemmas.Bool.Decides.{nat_tests}
use Rattle.rp_value.specs.declared.value.Value.{Value}
use Rattle.rp_words.specs.PatternForm.{form_of}
use Rattle.rp_words.specs.Turns.{turns}
use Rattle.rp_words.specs.Words.{words}
use Rattle.rp_search.specs.Search.{LeftIsBounded, most_turns}
use Rattle.rp_query.specs.declared.query.QueryData.{QueryData}
use Rattle.rp_query.specs.declared.item.Item.{Item}
use Rattle.rp_known.specs.Known.{Known, count}
use Rattle.rp_known.specs.Walk.{known}
use Rattle.rp_walker.specs.declared.poll.Poll.TheVariants.{Item as ItemPoll}
use Rattle.rp_walker.specs.declared.record.MatcherState.{MatcherState}
use Rattle.rp_walker.specs.declared.run.Run.{Run}
use Rattle.rp_walker.specs.declared.stage.Stage.{Stage}
use Rattle.rp_walker.specs.declared.stage.Stage.TheVariants.{Begin, Searching, Giving}
use Rattle.rp_walker.specs.declared.walker.Walker.{Walker}
use Rattle.rp_walker.specs.LeftLaw.{LeftIsBounded as AllIsLeft}
use Rattle.rp_walker.specs.Polls.{AnswerIs, left_in}
use Rattle.rp_walker.specs.Records.{Fits, IsLast, IsOnWalk, IsOver, fits_by, first_state, place_of}
use Rattle.rp_walker.specs.Stages.{Searches, StageStands, asked_by, left_with, stage_left, starts_to}
use Rattle.rp_walker.specs.Walking.{GoesOnWell, Stands, record_of, stands_by}
use Rattle.rp_whole.specs.Answers.{IsByLimit, IsGivenUp, closed, turns_at}
use Rattle.rp_whole.specs.Pauses.{AreCounted, CountsPause, HasMore, IsReached, left_from}

-- ---- what is left at a start row

-- the same later start rows are left, where the present one is known
with_later : (b : Bool) (less more later : ℕ) → less ≤ more → 1 + cond b (less + later) 0 ≤ 1 + cond b (more + later) 0
with_later true less more later h = omega (arith, h)
with_later false less more later h = omega arith

-- What was counted comes off the present start row's turns, which is known then.
off_present : (row n here anew later taken : ℕ) → 0 < here → 0 < taken → (b : Bool) → nat_le row n ≡ b → taken + (1 + cond b (here + later) 0) ≤ 1 + cond b (anew + later) 0 → (row ≤ n) × (taken < anew)
off_present row n here anew later taken some counts true e h = let low : row ≤ n = grind (arith, nat_tests) in (low, omega (arith, h, some))
off_present row n here anew later taken some counts false e h = absurd (omega (arith, h, counts))

module _ (bounded : LeftIsBounded) (q : QueryData) (p : Known) where
  most_of : (start : ℕ) (run : Run) → Searches q p start run → most_turns run.search.value (count p) p.end ≡ turns (count p) p.end (form_of q.pattern) start + length (words (count p) p.end (form_of q.pattern) start)
  most_of start run h =
      h.pattern.same_turns (count p) p.end _ ∙ ap (λ i. turns (count p) p.end (form_of q.pattern) i + length (words (count p) p.end (form_of q.pattern) i)) h.begins

  -- no more is left of a search than where it is to begin
  stage_below : (r : MatcherState) (stage : Stage) → StageStands q p r stage → stage_left q p r stage ≤ stage_left q p r (Begin None)
  stage_below r (Begin spare) h = omega arith
  stage_below r (Searching run) h = omega (arith, bounded run.search.value (asked_by q p) h.fits, most_of r.at run h)
  stage_below r (Giving found a) h = omega (arith, h.0.low, h.0.ordered, h.0.high, h.0.known)

stage_some : (q : QueryData) (p : Known) (r : MatcherState) (stage : Stage) → 0 < stage_left q p r stage
stage_some q p r (Begin spare) = omega arith
stage_some q p r (Searching run) = omega arith
stage_some q p r (Giving found a) = omega arith

abbrev later_starts : QueryData → Known → MatcherState → ℕ
later_starts q p r = starts_to q p (count p) - starts_to q p r.at

left_going : (q : QueryData) (p : Known) (r : MatcherState) (stage : Stage) → r.over ≡ false → left_with q p r stage ≡ 1 + cond (nat_le r.at (count p)) (stage_left q p r stage + later_starts q p r) 0
left_going q p r stage going = ap (λ b. cond b 0 (1 + cond (nat_le r.at (count p)) (stage_left q p r stage + later_starts q p r) 0)) going

stage_stands : (q : QueryData) (p : Known) (w : Walker) → w.state.over ≡ false → stands_by w.state.over q p w → GoesOnWell q p w
stage_stands q p w going h = subst (λ b. stands_by b q p w) going h

-- a walker has no more left than where the search of its start row is to begin
pub left_below : LeftIsBounded → (q : QueryData) (p : Known) (w : Walker) → (record_of w).over ≡ false → Stands q p w → left_in q p w ≤ left_from q p (record_of w).at
unfolding left_in record_of Stands
left_below bounded q p w going h =
    let below = stage_below bounded q p w.state w.stage (stage_stands q p w going h).stands in
    subst (λ n. n ≤ left_from q p w.state.at) (sym (left_going q p w.state w.stage going))
    (with_later (nat_le w.state.at (count p)) (stage_left q p w.state w.stage) (stage_left q p w.state (Begin None)) (later_starts q p w.state) below)

counted_off : (q : QueryData) (p : Known) (w : Walker) (taken : ℕ) → (record_of w).over ≡ false → 0 < taken → AreCounted q p (record_of w).at taken w
    → ((record_of w).at ≤ count p) × (taken < stage_left q p (record_of w) (Begin None))
unfolding left_in record_of
counted_off q p w taken going counts counted =
    off_present w.state.at (count p) (stage_left q p w.state w.stage) (stage_left q p w.state (Begin None)) (later_starts q p w.state) taken (stage_some q p w.state w.stage) counts
    (nat_le w.state.at (count p)) refl (subst (λ n. taken + n ≤ left_from q p w.state.at) (left_going q p w.state w.stage going) counted)

-- ---- counting

no_more : (a b c : ℕ) → a ≤ b → b ≤ c → a ≤ c
no_more a b c h k = omega (arith, h, k)

and_none : (taken left all : ℕ) → taken ≡ 0 → left ≤ all → taken + left ≤ all
and_none taken left all none h = omega (arith, none, h)

-- before the first row all start rows are left
all_left : (q : QueryData) (p : Known) → 1 + starts_to q p (count p) ≤ left_from q p 0
all_left q p =
    let known : nat_le 0 (count p) ≡ true = grind (arith, nat_tests) in
    subst (λ b. 1 + starts_to q p (count p) ≤ 1 + cond b (stage_left q p (record first_state { at = 0 }) (Begin None) + (starts_to q p (count p) - starts_to q p 0)) 0) (sym known) (omega arith)

pub counted_first : AllIsLeft → (q : QueryData) (p : Known) (w : Walker) (row taken : ℕ) → Stands q p w → row ≡ 0 → taken ≡ 0 → AreCounted q p row taken w
counted_first bounded q p w row taken stands first none =
    subst (λ i. taken + left_in q p w ≤ left_from q p i) (sym first)
    (and_none taken (left_in q p w) (left_from q p 0) none (no_more (left_in q p w) (1 + starts_to q p (count p)) (left_from q p 0) (bounded q p w stands) (all_left q p)))

-- less is left after an item
pub counted_item : (q : QueryData) (p : Known) (row taken : ℕ) (old new : Walker) → left_in q p new < left_in q p old → AreCounted q p row taken old → AreCounted q p row taken new
counted_item q p row taken old new falls counted = omega (arith, falls, counted)

pub counted_pause : (q : QueryData) (p : Known) (old new : Walker) (budget at row taken row' taken' : ℕ) → CountsPause budget at row taken row' taken' → left_in q p new + budget ≤ left_in q p old
    → left_in q p new ≤ left_from q p at → AreCounted q p row taken old → AreCounted q p at taken' new
counted_pause q p old new budget at row taken row' taken' counts falls below counted = go counts.adds
  where
    go : ((row ≡ at) × (taken' ≤ taken + budget)) ⊎ (taken' ≡ 0) → AreCounted q p at taken' new
    go (inl (same, adds)) = subst (λ i. AreCounted q p i taken' new) same (omega (arith, adds, falls, counted))
    go (inr none) = and_none taken' (left_in q p new) (left_from q p at) none below

-- ---- the answer goes on

-- a poll of an answer that is over isn't paused
pub was_going : (q : QueryData) (p : Known) (budget : ℕ) (old new : Walker) → 0 < budget → left_in q p new + budget ≤ left_in q p old → (record_of old).over ≡ false
unfolding left_in record_of
was_going q p budget old new some falls = go old.state.over refl
  where
    go : (b : Bool) → old.state.over ≡ b → old.state.over ≡ false
    go true e =
        let none : left_with q p old.state old.stage ≡ 0 = ap (λ b. cond b 0 (1 + cond (nat_le old.state.at (count p)) (stage_left q p old.state old.stage + later_starts q p old.state) 0)) e in
        absurd (omega (arith, some, falls, none))
    go false e = e

seam : {X : Type 0} (front : List X) (x : X) → slice_get (front ++ x ∷ []) (length front) ≡ Some x
seam [] x = refl
seam (y ∷ front) x = seam front x

-- where more was to come and no item came, more is to come
pub still_going : (q : QueryData) (p : Known) (old new : MatcherState) → old.over ≡ false → HasMore q p old → new.given ≡ old.given → Fits q new p → new.over ≡ false
still_going q p old new going more same fits = go new.over refl
  where
    go : (b : Bool) → new.over ≡ b → new.over ≡ false
    go true e =
        let is_over : IsOver q new p = subst (λ b. fits_by b q new p) e fits in
        let all : length (known q p) ≡ suc (length is_over.front) = ap length is_over.is ∙ length-append is_over.front (is_over.last ∷ []) ∙ omega arith in
        let given : old.given ≡ suc (length is_over.front) = sym same ∙ is_over.counted ∙ all in
        let at : slice_get (known q p) (length is_over.front) ≡ Some is_over.last = ap (λ items. slice_get items (length is_over.front)) is_over.is ∙ seam is_over.front is_over.last in
        absurd (more going (length is_over.front) is_over.last given at is_over.ends)
    go false e = e

pub more_first : (q : QueryData) (p : Known) (r : MatcherState) → r ≡ first_state → HasMore q p r
more_first q p r is going before x given at last = let none : r.given ≡ 0 = ap (λ s. s.given) is in absurd (omega (arith, none, given))

pub more_item : (q : QueryData) (p : Known) (old new : MatcherState) (place : ℕ) (x : Item) → AnswerIs q p old new (ItemPoll place x) → (IsLast x → new.over ≡ true) → HasMore q p new
more_item q p old new place x is ends going before y given at last =
    let here : before ≡ old.given = omega (arith, is.1, given) in
    let same : Some y ≡ Some x = sym at ∙ ap (slice_get (known q p)) here ∙ is.2 in
    let item : y ≡ x = cc in
    let over : new.over ≡ true = ends (subst IsLast item last) in
    absurd cc

pub more_pause : (q : QueryData) (p : Known) (old new : MatcherState) → old.over ≡ false → HasMore q p old → new.given ≡ old.given → HasMore q p new
more_pause q p old new was more same going before x given at last = more was before x (sym same ∙ given) at last

-- ---- giving up

given_up : (most : ℕ) (q : QueryData) (rows : List (List Value)) (w : Walker) (taken : ℕ) → (record_of w).over ≡ false → Fits q (record_of w) (closed rows) → AreCounted q (closed rows) (record_of w).at taken w
    → 0 < most → most ≤ taken → IsGivenUp most q rows (record_of w).given (record_of w).at
given_up most q rows w taken going fits counted some reached =
    let on : IsOnWalk q (record_of w) (closed rows) = subst (λ b. fits_by b q (record_of w) (closed rows)) going fits in
    let off = counted_off q (closed rows) w taken going (omega (arith, some, reached)) counted in
    let many : taken < turns_at q (length rows) (record_of w).at = off.1 in
    record {
      place = place_of (record_of w);
      before = on.before;
      comes = on.comes;
      at_row = refl;
      from = omega (arith, on.counted);
      to = omega (arith, on.counted, on.within);
      in_rows = off.0;
      many = omega (arith, reached, many);
    }

-- The answer may be given up at the start row of a poll that paused.
pub gives_up : (limit : Option ℕ) (q : QueryData) (rows : List (List Value)) (w : Walker) (at taken : ℕ) → at ≡ (record_of w).at → (record_of w).over ≡ false
    → Fits q (record_of w) (closed rows) → AreCounted q (closed rows) at taken w → IsReached limit taken → IsByLimit limit q rows (record_of w).given at
gives_up None q rows w at taken is going fits counted reached = absurd reached
gives_up (Some most) q rows w at taken is going fits counted reached =
    let here : AreCounted q (closed rows) (record_of w).at taken w = subst (λ i. AreCounted q (closed rows) i taken w) is counted in
    subst (IsGivenUp most q rows (record_of w).given) (sym is) (given_up most q rows w taken going fits here reached.0 reached.1)
