-- A search whose preferred choice was taken up: it maps a row, it is split, or it is the answer.
use Rattle.std.proofs.Common.{◌≡◌, ℕ, ◌+◌, ◌≤◌, List, [], None, refl, arith, subst, sym}
use Rattle.rp_words.specs.declared.word.End.{End}
use Rattle.rp_words.specs.declared.word.Label.{Label}
use Rattle.rp_words.specs.declared.word.Seen.TheVariants.{True}
use Rattle.rp_pattern.specs.declared.choices.Choices.{Choices}
use Rattle.rp_pattern.specs.declared.choices.Taken.{Taken}
use Rattle.rp_pattern.specs.declared.choices.Taken.TheVariants.{Row, Split, Full as FullTaken, Open as OpenTaken, Nothing}
use Rattle.rp_pattern.specs.Choices.{start_of, entered, height, kept, costs, whole, whole_from, AreFirstOf, IsSameRemaining, IsSameWhole, KeepsAbove, KeepsUnder, Spends, TakenAs}
use Rattle.rp_search.specs.declared.memo.Memo.{Memo}
use Rattle.rp_search.specs.declared.search.Outcome.{Outcome}
use Rattle.rp_search.specs.declared.search.Outcome.TheVariants.{Match, NoMatch, Waits, Paused}
use Rattle.rp_search.specs.declared.search.Search.{Search}
use Rattle.rp_search.specs.Asked.{Asked}
use Rattle.rp_search.specs.Fits.{ChoicesFit, StandsAtRow, left_by, test_from, ChoicesStand, LabelsStand, LabelsBelow, MarksStand, MemoStands}
use Rattle.rp_search.specs.Found.{tested}
use Rattle.rp_search.specs.Memo.{Above, Remembers}
use Rattle.rp_search.specs.Search.{start_of_search, labels_of_search, words_from}
use Rattle.rp_search.specs.Turned.{AddsLabel, AreCutBack, IsRunning, IsWithinRun, MapsNewRow, SearchSpent, TookTurn, Turned}
use Rattle.rp_search.specs.Work.{TakeLess, counted}
use Rattle.rp_search.proofs.ChoiceSteps.{now_later, cut_true, stands_splits, stands_full, stands_open, stands_nothing, stands_row, maps_row, finds_match, finds_wait, finds_none}
use Rattle.rp_search.proofs.Marks.{still_above}
use Rattle.rp_search.proofs.Spending.{AreHigh, less_again, none_high, remembered_high, same_spends, taken_sinks}
use Rattle.rp_search.proofs.TurnEnds.{admitted_plainly, below_front, fewer_plainly, left_plainly, searches_plainly}

-- what was taken up, at the rows and the end of the tests
pub taken_as : (old new : Choices) (n n' : ℕ) (e e' : End) (t u : Taken) → t ≡ u → n ≡ n' → e ≡ e' → TakenAs old new n e t → TakenAs old new n' e' u
taken_as old new n n' e e' t u is known end h =
    subst (TakenAs old new n' e') is (subst (λ k. TakenAs old new k e' t) known (subst (λ f. TakenAs old new n f t) end h))

-- it is the answer
abbrev pub IsAnswer : Taken → Type 0
IsAnswer Row = ⊥
IsAnswer Split = ⊥
IsAnswer FullTaken = Unit {0}
IsAnswer OpenTaken = Unit {0}
IsAnswer Nothing = Unit {0}

abbrev pub answer_of : Taken → Outcome
answer_of Row = Paused
answer_of Split = Paused
answer_of FullTaken = Match
answer_of OpenTaken = Waits
answer_of Nothing = NoMatch

module _ (s : Search) (c : Choices) (asked : Asked) (Before : ℕ → List Label → Type 0) (none : s.outlook ≡ None) (r : IsRunning s asked Before) (whole_is : IsSameWhole s.choices c) (plan : kept c ≡ kept s.choices) (under : KeepsUnder s.choices c) where
  admitted : tested (test_from s.choices asked) (entered s.choices) ≡ True
  unfolding LabelsStand
  admitted = admitted_plainly s.choices s.outlook _ _ _ none r.searches.fits.labels

  pub high : AreHigh (height s.choices) s.memo.marks
  unfolding MemoStands
  high = remembered_high (height s.choices) (Above s.choices) s.memo s.choices asked r.memo

  pub remembers_on : KeepsAbove s.choices c asked.known asked.end → Remembers s.memo c asked
  unfolding MemoStands
  remembers_on keeps = still_above s.memo s.choices c asked whole_is keeps r.memo

  pub less_on : (t : Taken) → TakenAs s.choices c asked.known asked.end t → TakeLess c asked s.memo.marks
  unfolding MarksStand
  less_on t h = less_again s.choices c asked s.memo.marks (taken_sinks s.choices c asked.known asked.end t plan under h) high r.marks

  pub cuts_back : AreFirstOf (entered c) (entered s.choices) → AreCutBack (Before (start_of c)) (entered c)
  unfolding start_of_search labels_of_search
  cuts_back cut = record { before = entered s.choices; entered_before = subst (λ i. Before i (entered s.choices)) (sym whole_is.start) r.entered; depth = cut.0; cut = cut.1 }

  within : (memo : Memo) → AreFirstOf (entered c) (entered s.choices) → ChoicesFit c asked.known asked.end (test_from s.choices asked) → IsWithinRun (record s { choices = c; memo = memo }) asked
  unfolding LabelsBelow
  within memo cut stands =
      searches_plainly (record s { choices = c; memo = memo }) asked (start_of s.choices) whole_is.start none stands (cut_true s.choices c _ cut admitted)
      (below_front asked.variables (entered c) (entered s.choices) cut r.searches.fits.below)

  fewer : IsSameRemaining s.choices c asked.known asked.end → left_by (record s { choices = c }) asked ≤ left_by s asked
  unfolding left_by
  fewer same = fewer_plainly s.choices c s.outlook _ _ _ _ none (omega (arith, same.turns asked.known asked.end (now_later _ _)))

  -- ---- a row

  pub fewer_at_row : TakenAs s.choices c asked.known asked.end Row → left_by (record s { choices = c }) asked ≤ left_by s asked
  fewer_at_row h = fewer h.same

  pub maps_new : TakenAs s.choices c asked.known asked.end Row → MapsNewRow c asked Before
  unfolding start_of_search labels_of_search ChoicesStand LabelsBelow
  maps_new h = record {
    stands = subst (λ i. ChoicesFit c asked.known asked.end (asked.outcome i)) (sym whole_is.start) (stands_row s.choices c _ _ _ r.searches.fits.stands whole_is h);
    row = subst (λ i. StandsAtRow c asked.known asked.end (asked.outcome i)) (sym whole_is.start) (maps_row s.choices c _ _ _ admitted h);
    below = record { before = entered s.choices; entered_before = r.searches.fits.below; depth = h.enters.depth; label = h.enters.label; added = h.enters.is };
    labels = subst (λ i. AddsLabel (Before i) (entered c)) (sym whole_is.start)
        (record { before = entered s.choices; entered_before = r.entered; depth = h.enters.depth; label = h.enters.label; added = h.enters.is });
  }

  -- ---- a split

  pub splits_within : (memo : Memo) → TakenAs s.choices c asked.known asked.end Split → IsWithinRun (record s { choices = c; memo = memo }) asked
  unfolding ChoicesStand
  splits_within memo h = within memo h.cut (stands_splits s.choices c _ _ _ r.searches.fits.stands whole_is h)

  pub splits_fewer : (memo : Memo) → TakenAs s.choices c asked.known asked.end Split → left_by (record s { choices = c; memo = memo }) asked + 1 ≤ left_by s asked
  unfolding left_by
  splits_fewer memo h =
      let n = asked.known in
      let e = asked.end in
      omega (arith, left_plainly s.choices s.outlook n e (test_from s.choices asked) none, left_plainly c s.outlook n e (test_from c asked) none, h.less n e (now_later n e))

  -- ---- an answer

  running : (Entered : ℕ → List Label → Type 0) (t : Taken) → TakenAs s.choices c asked.known asked.end t → AreFirstOf (entered c) (entered s.choices) → KeepsAbove s.choices c asked.known asked.end →
      ChoicesFit c asked.known asked.end (test_from s.choices asked) → Entered (start_of c) (entered c) → IsRunning (record s { choices = c }) asked Entered
  unfolding start_of_search labels_of_search MarksStand MemoStands
  running Entered t h cut keeps stands labels = record { searches = within s.memo cut stands; memo = remembers_on keeps; marks = less_on t h; entered = labels }

  pub answer_running : (Entered : ℕ → List Label → Type 0) (t : Taken) → IsAnswer t → TakenAs s.choices c asked.known asked.end t → Entered (start_of c) (entered c) → IsRunning (record s { choices = c }) asked Entered
  unfolding ChoicesStand
  answer_running Entered Row is h labels = absurd is
  answer_running Entered Split is h labels = absurd is
  answer_running Entered FullTaken is h labels = running Entered FullTaken h h.cut h.keeps (stands_full s.choices c _ _ _ r.searches.fits.stands whole_is h) labels
  answer_running Entered OpenTaken is h labels = running Entered OpenTaken h h.cut h.keeps (stands_open s.choices c _ _ _ r.searches.fits.stands whole_is h) labels
  answer_running Entered Nothing is h labels = running Entered Nothing h h.cut h.keeps (stands_nothing s.choices c _ _ _ r.searches.fits.stands whole_is h) labels

  took : (added : Choices → ℕ) (Counted Always : Type 0) (o : Outcome) → counted o ≡ 0 → Turned 1 s (record s { choices = c }) asked (left_by s asked) o → costs c ≤ costs s.choices → (o ≡ NoMatch → s.memo.marks ≡ []) →
      TookTurn added Counted Always s (record s { choices = c }) asked o
  took added Counted Always o last turned cost held = record {
    turned = turned;
    spent = λ counts decided. subst (λ k. SearchSpent k (added s.choices) s (record s { choices = c }) asked) (sym last) (same_spends s.choices c s.memo asked (added s.choices) plan whole_is.start cost);
    lasts = λ always all. all;
    held = held;
  }

  pub answer_took : (added : Choices → ℕ) (Counted Always : Type 0) (t : Taken) → IsAnswer t → TakenAs s.choices c asked.known asked.end t → Spends s.choices c t → TookTurn added Counted Always s (record s { choices = c }) asked (answer_of t)
  unfolding start_of_search labels_of_search words_from ChoicesStand MemoStands whole whole_from start_of
  answer_took added Counted Always Row is h cost = absurd is
  answer_took added Counted Always Split is h cost = absurd is
  answer_took added Counted Always FullTaken is h cost =
      took added Counted Always Match refl (finds_match s.choices c _ _ _ r.searches.fits.stands admitted h, fewer h.same) cost (λ e. absurd cc)
  answer_took added Counted Always OpenTaken is h cost =
      took added Counted Always Waits refl (finds_wait s.choices c _ _ _ r.searches.fits.stands admitted h, h.end, fewer h.same) cost (λ e. absurd cc)
  answer_took added Counted Always Nothing is h cost =
      took added Counted Always NoMatch refl (finds_none s.choices c _ _ _ r.searches.fits.stands h, fewer h.same) cost.0
      (λ e. none_high (height c) s.memo.marks cost.1 (remembered_high (height c) (Above c) s.memo c asked (remembers_on h.keeps)))
