-- How the choices of a search stand to its tests, step by step.
use Rattle.std.proofs.Common.{map, ◌≡◌, ◌↔◌, ℕ, ◌+◌, ◌<◌, ◌≤◌, List, [], ◌∷◌, ◌++◌, length, take, refl, sym, ap, ◌∙◌, subst, arith, length-append}
use Rattle.std.specs.List.{AllByRecursion}
use Rattle.std.proofs.lemmas.List.{length-take}
use Rattle.rp_words.specs.declared.word.Label.{Label}
use Rattle.rp_words.specs.declared.word.End.{End}
use Rattle.rp_words.specs.declared.word.Seen.TheVariants.{True, NotTrue, Open as OpenTest}
use Rattle.rp_words.specs.Mapping.{Mapping, preceded}
use Rattle.rp_pattern.specs.declared.choices.Choices.{Choices}
use Rattle.rp_pattern.specs.declared.outlook.Outlook.{Outlook}
use Rattle.rp_words.specs.Later.{IsLater}
use Rattle.rp_pattern.specs.Choices.{AtRow, start_of, entered, whole, whole_turns, remaining, turns_left, height, above, above_below, of_top, below, turns_left_below, after, turns_left_after, AreFirstOf, AreStrictlyFirstOf, IsSameWhole, IsSameRemaining, IsSplit, IsMappedRow as TakesRow, IsFullWord, IsOpenWord, IsNothing}
use Rattle.rp_search.specs.Found.{Test, tested, found, Match, NoMatch, Waits}
use Rattle.rp_search.specs.SeenStays.{SeenStays, TestsStay}
use Rattle.rp_search.specs.Asked.{rows_from}
use Rattle.rp_search.specs.Refused.{IsRefusedWithin, RefusedUpTo}
use Rattle.rp_search.specs.Fits.{ChoicesFit, StandsAtRow, Explores}
use Rattle.rp_search.specs.Turned.{Goes}
use Rattle.rp_search.proofs.FoundLaws.{tested_stays}
use Rattle.rp_search.proofs.Tested.{tested_take, refused_row, before_more, before_stays, found_before, full_matches, open_waits, begun_waits, last_decides, cut_admitted}

pub now_later : (n : ℕ) (e : End) → IsLater n e n e
now_later n e = (omega arith, λ h. (refl, h))

pub later_still : (n n' n'' : ℕ) (e e' e'' : End) → IsLater n e n' e' → IsLater n' e' n'' e'' → IsLater n e n'' e''
later_still n n' n'' e e' e'' a b =
    (omega (arith, a.0, b.0), λ h. ((b.1 (a.1 h).1).0 ∙ (a.1 h).0, (b.1 (a.1 h).1).1))

-- choices stand where those of before did, with what they are now
stands_from : (old new : Choices) (n : ℕ) (e : End) (test : Test) → IsSameWhole old new → 1 ≤ start_of old → length (entered new) ≤ rows_from (start_of old) n →
    ((n' : ℕ) (e' : End) → IsLater n e n' e' → RefusedUpTo (rows_from (start_of old) n) test (whole old n' e') (remaining new n' e')) →
    ((n' : ℕ) (e' : End) → IsLater n e n' e' → turns_left new n' e' ≤ whole_turns old n' e') → ChoicesFit new n e test
stands_from old new n e test keeps one known words turns =
    record {
      from_one = subst (λ s. 1 ≤ s) (sym keeps.start) one;
      known = subst (λ s. length (entered new) ≤ rows_from s n) (sym keeps.start) known;
      words = λ n' e' h.
          subst (λ s. RefusedUpTo (rows_from s n) test (whole new n' e') (remaining new n' e')) (sym keeps.start)
          (subst (λ ws. RefusedUpTo (rows_from (start_of old) n) test ws (remaining new n' e')) (sym (keeps.words n' e')) (words n' e' h));
      turns = λ n' e' h. subst (λ k. turns_left new n' e' ≤ k) (sym (keeps.left n' e')) (turns n' e' h);
    }

cut_known : (ls : List Label) (k r : ℕ) → length ls ≤ r → length (take k ls) ≤ r
cut_known ls k r h = omega (arith, length-take k ls)

-- the labels cut back, and the same words
pub stands_cut : (old new : Choices) (n : ℕ) (e : End) (test : Test) → ChoicesFit old n e test → IsSameWhole old new → AreFirstOf (entered new) (entered old) →
    ((n' : ℕ) (e' : End) → IsLater n e n' e' → remaining new n' e' ≡ remaining old n' e') →
    ((n' : ℕ) (e' : End) → IsLater n e n' e' → turns_left new n' e' ≤ turns_left old n' e') → ChoicesFit new n e test
stands_cut old new n e test s keeps cut same fewer =
    stands_from old new n e test keeps s.from_one
    (subst (λ ls. length ls ≤ rows_from (start_of old) n) (sym cut.1) (cut_known (entered old) cut.0 (rows_from (start_of old) n) s.known))
    (λ n' e' h. subst (λ ws. RefusedUpTo (rows_from (start_of old) n) test (whole old n' e') ws) (sym (same n' e' h)) (s.words n' e' h))
    (λ n' e' h. omega (arith, fewer n' e' h, s.turns n' e' h))

pub cut_true : (old new : Choices) (test : Test) → AreFirstOf (entered new) (entered old) → tested test (entered old) ≡ True → tested test (entered new) ≡ True
cut_true old new test cut h = subst (λ ls. tested test ls ≡ True) (sym cut.1) (tested_take (entered old) cut.0 test h)

pub stands_splits : (old new : Choices) (n : ℕ) (e : End) (test : Test) → ChoicesFit old n e test → IsSameWhole old new → IsSplit old new n e → ChoicesFit new n e test
stands_splits old new n e test s keeps t = stands_cut old new n e test s keeps t.cut t.same (λ n' e' h. omega (arith, t.less n' e' h))

-- the labels cut back, and the same words and turns
stands_same : (old new : Choices) (n : ℕ) (e : End) (test : Test) → ChoicesFit old n e test → IsSameWhole old new → AreFirstOf (entered new) (entered old) → IsSameRemaining old new n e → ChoicesFit new n e test
stands_same old new n e test s keeps cut same = stands_cut old new n e test s keeps cut same.words (λ n' e' h. omega (arith, same.turns n' e' h))

pub stands_full : (old new : Choices) (n : ℕ) (e : End) (test : Test) → ChoicesFit old n e test → IsSameWhole old new → IsFullWord old new n e → ChoicesFit new n e test
stands_full old new n e test s keeps t = stands_same old new n e test s keeps t.cut t.same

pub stands_open : (old new : Choices) (n : ℕ) (e : End) (test : Test) → ChoicesFit old n e test → IsSameWhole old new → IsOpenWord old new n e → ChoicesFit new n e test
stands_open old new n e test s keeps t = stands_same old new n e test s keeps t.cut t.same

pub stands_nothing : (old new : Choices) (n : ℕ) (e : End) (test : Test) → ChoicesFit old n e test → IsSameWhole old new → IsNothing old new n e → ChoicesFit new n e test
stands_nothing old new n e test s keeps t = stands_same old new n e test s keeps t.cut t.same

pub stands_row : (old new : Choices) (n : ℕ) (e : End) (test : Test) → ChoicesFit old n e test → IsSameWhole old new → TakesRow old new n e → ChoicesFit new n e test
stands_row old new n e test s keeps t =
    stands_from old new n e test keeps s.from_one (omega (arith, t.known, keeps.start))
    (λ n' e' h. subst (λ ws. RefusedUpTo (rows_from (start_of old) n) test (whole old n' e') ws) (sym (t.same.words n' e' h)) (s.words n' e' h))
    (λ n' e' h. omega (arith, t.same.turns n' e' h, s.turns n' e' h))

pub maps_row : (old new : Choices) (n : ℕ) (e : End) (test : Test) → tested test (entered old) ≡ True → TakesRow old new n e → StandsAtRow new n e test
maps_row old new n e test h t =
    record {
      at_row = t.at_row;
      has_top = t.has_top;
      before = take t.enters.depth (entered old);
      last = t.enters.label;
      labels = t.enters.is;
      admitted = tested_take (entered old) t.enters.depth test h;
      divides = t.divides;
    }

-- the last label's test decides
pub row_decides : (c : Choices) (n : ℕ) (e : End) (test : Test) → StandsAtRow c n e test → tested test (entered c) ≡ test (entered c)
row_decides c n e test r = last_decides r.before r.last (entered c) test r.labels r.admitted

-- where a row is admitted, the words above any height are divided at it
pub record Admits (old new : Choices) : Type 0 where
  pub fall : height old ≤ height new + 1
  pub over : (h n : ℕ) (e : End) → h < height old → above new h n e ≡ map (preceded (entered old)) (after old n e) ++ above_below old h n e

-- a row that is admitted
pub goes_admitted : (old new : Choices) (n : ℕ) (e : End) (test : Test) → ChoicesFit old n e test → StandsAtRow old n e test → test (entered old) ≡ True → IsSameWhole old new →
    Admits old new → entered new ≡ entered old → ((n' : ℕ) (e' : End) → remaining new n' e' ≡ map (preceded (entered old)) (after old n' e') ++ below old n' e') → ((n' : ℕ) (e' : End) → turns_left new n' e' ≡ turns_left_after old n' e' + turns_left_below old n' e') → Goes old new n e test
goes_admitted old new n e test s r seen keeps a labels words turns =
    record {
      stands = stands_from old new n e test keeps s.from_one
          (subst (λ ls. length ls ≤ rows_from (start_of old) n) (sym labels) s.known)
          (λ n' e' h. subst (λ ws. RefusedUpTo (rows_from (start_of old) n) test (whole old n' e') ws) (r.divides.words n' e' h ∙ sym (words n' e')) (s.words n' e' h))
          (λ n' e' h. omega (arith, turns n' e', r.divides.turns n' e' h, s.turns n' e' h));
      admitted = subst (λ ls. tested test ls ≡ True) (sym labels) (row_decides old n e test r ∙ seen);
      turns = omega (arith, turns n e, r.divides.turns n e (now_later n e));
      passes = λ h lt. (omega (arith, lt, a.fall), λ n' e' later. record { front = []; is = r.divides.over h lt n' e' later ∙ sym (a.over h n' e' lt); refused = tt });
    }

-- the preferred choice is given up
pub record GivesUp (old new : Choices) : Type 0 where
  pub cut : AreFirstOf (entered new) (entered old)
  pub cut_off : AtRow old → AreStrictlyFirstOf (entered new) (entered old)
  pub words : (n : ℕ) (e : End) → remaining new n e ≡ below old n e
  pub turns : (n : ℕ) (e : End) → turns_left new n e ≡ turns_left_below old n e
  pub fall : height new + 1 ≡ height old
  pub over : (h n : ℕ) (e : End) → above_below old h n e ≡ above new h n e

row_words : (old : Choices) (n : ℕ) (e : End) (test : Test) → ChoicesFit old n e test → StandsAtRow old n e test → (n' : ℕ) (e' : End) → IsLater n e n' e' →
    RefusedUpTo (rows_from (start_of old) n) test (whole old n' e') (map (preceded (entered old)) (after old n' e') ++ below old n' e')
row_words old n e test s r n' e' h = subst (λ ws. RefusedUpTo (rows_from (start_of old) n) test (whole old n' e') ws) (r.divides.words n' e' h) (s.words n' e' h)

-- a row whose choice is given up, where its words are refused or there are none
goes_without : (old new : Choices) (n : ℕ) (e : End) (test : Test) → ChoicesFit old n e test → StandsAtRow old n e test → IsSameWhole old new → GivesUp old new →
    ((n' : ℕ) (e' : End) → IsLater n e n' e' → AllByRecursion (IsRefusedWithin (rows_from (start_of old) n) test) (map (preceded (entered old)) (after old n' e'))) → Goes old new n e test
goes_without old new n e test s r keeps g refused =
    let off : AreStrictlyFirstOf (entered new) (entered old) = g.cut_off r.at_row in
    record {
      stands = stands_from old new n e test keeps s.from_one
          (subst (λ ls. length ls ≤ rows_from (start_of old) n) (sym g.cut.1) (cut_known (entered old) g.cut.0 (rows_from (start_of old) n) s.known))
          (λ n' e' h. subst (λ ws. RefusedUpTo (rows_from (start_of old) n) test (whole old n' e') ws) (sym (g.words n' e'))
          (before_more (rows_from (start_of old) n) test (whole old n' e') (map (preceded (entered old)) (after old n' e')) (below old n' e') (row_words old n e test s r n' e' h) (refused n' e' h)))
          (λ n' e' h. omega (arith, g.turns n' e', r.divides.turns n' e' h, s.turns n' e' h));
      admitted = subst (λ ls. tested test ls ≡ True) (sym off.2) (cut_admitted r.before r.last (entered old) off.0 test r.labels off.1 r.admitted);
      turns = omega (arith, g.turns n e, r.divides.turns n e (now_later n e));
      passes = λ h lt. (
        omega (arith, lt, g.fall),
        λ n' e' later. record {
          front = map (preceded (entered old)) (after old n' e');
          is = r.divides.over h lt n' e' later ∙ ap (λ ws. map (preceded (entered old)) (after old n' e') ++ ws) (g.over h n' e');
          refused = refused n' e' later;
        },
      );
    }

pub goes_refused : (old new : Choices) (n : ℕ) (e : End) (test : Test) → ChoicesFit old n e test → StandsAtRow old n e test → test (entered old) ≡ NotTrue → IsSameWhole old new → GivesUp old new → Goes old new n e test
goes_refused old new n e test s r seen keeps g =
    goes_without old new n e test s r keeps g
    (λ n' e' h. refused_row (entered old) (after old n' e') (rows_from (start_of old) n) test s.known (row_decides old n e test r ∙ seen))

pub goes_wordless : (old new : Choices) (n : ℕ) (e : End) (test : Test) → ChoicesFit old n e test → StandsAtRow old n e test → ((n' : ℕ) (e' : End) → IsLater n e n' e' → after old n' e' ≡ []) → IsSameWhole old new → GivesUp old new → Goes old new n e test
goes_wordless old new n e test s r none keeps g =
    goes_without old new n e test s r keeps g
    (λ n' e' h. subst (λ ws. AllByRecursion (IsRefusedWithin (rows_from (start_of old) n) test) (map (preceded (entered old)) ws)) (sym (none n' e' h)) tt)

-- a choice that is given up where its words are refused
pub goes_dead : (old new : Choices) (n : ℕ) (e : End) (test : Test) → ChoicesFit old n e test → tested test (entered old) ≡ True → IsSameWhole old new → GivesUp old new →
    ((n' : ℕ) (e' : End) → remaining old n' e' ≡ of_top old n' e' ++ remaining new n' e') → ((h n' : ℕ) (e' : End) → h < height old → above old h n' e' ≡ of_top old n' e' ++ above new h n' e') →
    ((n' : ℕ) (e' : End) → IsLater n e n' e' → AllByRecursion (IsRefusedWithin (rows_from (start_of old) n) test) (of_top old n' e')) → ((n' : ℕ) (e' : End) → turns_left_below old n' e' < turns_left old n' e') → Goes old new n e test
goes_dead old new n e test s true_ keeps g words over refused turns =
    record {
      stands = stands_from old new n e test keeps s.from_one
          (subst (λ ls. length ls ≤ rows_from (start_of old) n) (sym g.cut.1) (cut_known (entered old) g.cut.0 (rows_from (start_of old) n) s.known))
          (λ n' e' h. before_more (rows_from (start_of old) n) test (whole old n' e') (of_top old n' e') (remaining new n' e')
          (subst (λ ws. RefusedUpTo (rows_from (start_of old) n) test (whole old n' e') ws) (words n' e') (s.words n' e' h)) (refused n' e' h))
          (λ n' e' h. omega (arith, g.turns n' e', turns n' e', s.turns n' e' h));
      admitted = cut_true old new test g.cut true_;
      turns = omega (arith, g.turns n e, turns n e);
      passes = λ h lt. (omega (arith, lt, g.fall), λ n' e' later. record { front = of_top old n' e'; is = over h n' e' lt; refused = refused n' e' later });
    }

-- what a search finds, where its choices stand
found_remaining : (c : Choices) (n : ℕ) (e : End) (test : Test) → ChoicesFit c n e test → found test (whole c n e) ≡ found test (remaining c n e)
found_remaining c n e test s = found_before (rows_from (start_of c) n) test (whole c n e) (remaining c n e) (s.words n e (now_later n e))

pub finds_match : (old new : Choices) (n : ℕ) (e : End) (test : Test) → ChoicesFit old n e test → tested test (entered old) ≡ True → IsFullWord old new n e → found test (whole old n e) ≡ Match (entered new)
finds_match old new n e test s h t =
    found_remaining old n e test s ∙ ap (found test) (sym (t.same.words n e (now_later n e)) ∙ t.first n e (now_later n e)) ∙ full_matches (entered new) test (below new n e) (cut_true old new test t.cut h)

pub finds_wait : (old new : Choices) (n : ℕ) (e : End) (test : Test) → ChoicesFit old n e test → tested test (entered old) ≡ True → IsOpenWord old new n e → found test (whole old n e) ≡ Waits
finds_wait old new n e test s h t =
    found_remaining old n e test s ∙ ap (found test) (sym (t.same.words n e (now_later n e)) ∙ t.first) ∙ open_waits (entered new) test (t.more ++ below new n e) (cut_true old new test t.cut h)

pub finds_none : (old new : Choices) (n : ℕ) (e : End) (test : Test) → ChoicesFit old n e test → IsNothing old new n e → found test (whole old n e) ≡ NoMatch
finds_none old new n e test s t =
    found_remaining old n e test s ∙ ap (found test) (sym (t.same.words n e (now_later n e)) ∙ t.none n e (now_later n e))

-- where a row's test is open, and something would follow it
pub finds_begun : (c : Choices) (n : ℕ) (e : End) (test : Test) → ChoicesFit c n e test → StandsAtRow c n e test → test (entered c) ≡ OpenTest → 0 < length (after c n e) → found test (whole c n e) ≡ Waits
finds_begun c n e test s r seen some = go (after c n e) refl some
  where
    go : (ws : List Mapping) → after c n e ≡ ws → 0 < length ws → found test (whole c n e) ≡ Waits
    go [] follows h = absurd (omega (arith, h))
    go (w ∷ ws) follows h =
        found_remaining c n e test s
        ∙ ap (found test) (r.divides.words n e (now_later n e) ∙ ap (λ xs. map (preceded (entered c)) xs ++ below c n e) follows)
        ∙ begun_waits (entered c) w test (map (preceded (entered c)) ws ++ below c n e) (row_decides c n e test r ∙ seen)

-- there is a word exactly where a count says so, which is 0
pub no_words : (count : ℕ) (ws : List Mapping) → (0 < count) ↔ (0 < length ws) → count ≡ 0 → ws ≡ []
no_words count [] h none = refl
no_words count (w ∷ ws) h none = absurd (omega (arith, none, h.1 (omega arith)))

-- at its start again
pub stands_again : (old new : Choices) (n : ℕ) (e : End) (test : Test) → 1 ≤ start_of old → IsSameWhole old new →
    entered new ≡ [] → ((n' : ℕ) (e' : End) → remaining new n' e' ≡ whole old n' e') → ((n' : ℕ) (e' : End) → turns_left new n' e' ≡ whole_turns old n' e') → ChoicesFit new n e test
stands_again old new n e test one keeps labels words turns =
    stands_from old new n e test keeps one (subst (λ ls. length ls ≤ rows_from (start_of old) n) (sym labels) (omega arith))
    (λ n' e' h. record { front = []; is = sym (words n' e'); refused = tt })
    (λ n' e' h. omega (arith, turns n' e'))

-- LATER

module _ (n n' : ℕ) (e e' : End) (test test' : Test) (later : IsLater n e n' e') where
  pub stands_later : (c : Choices) → TestsStay (rows_from (start_of c) n) test test' → ChoicesFit c n e test → ChoicesFit c n' e' test'
  stands_later c stay s =
      record {
        from_one = s.from_one;
        known = omega (arith, s.known, later.0);
        words = λ m f h. before_stays (rows_from (start_of c) n) (rows_from (start_of c) n') test test' (whole c m f) (remaining c m f) stay (omega (arith, later.0)) (s.words m f (later_still n n' m e e' f later h));
        turns = λ m f h. s.turns m f (later_still n n' m e e' f later h);
      }

  pub true_later : (ls : List Label) (r : ℕ) → TestsStay r test test' → length ls ≤ r → tested test ls ≡ True → tested test' ls ≡ True
  true_later ls r stay le h = subst (λ z. SeenStays z (tested test' ls)) h (tested_stays ls test test' (λ ms k. stay ms (omega (arith, k, le))))

  pub maps_later : (c : Choices) → TestsStay (rows_from (start_of c) n) test test' → length (entered c) ≤ rows_from (start_of c) n → StandsAtRow c n e test → StandsAtRow c n' e' test'
  maps_later c stay known r =
      record {
        at_row = r.at_row;
        has_top = r.has_top;
        before = r.before;
        last = r.last;
        labels = r.labels;
        admitted = true_later r.before (rows_from (start_of c) n) stay (omega (arith, known, ap length r.labels, length-append r.before (r.last ∷ []))) r.admitted;
        divides = record {
          words = λ m f h. r.divides.words m f (later_still n n' m e e' f later h);
          turns = λ m f h. r.divides.turns m f (later_still n n' m e e' f later h);
          over = λ k lt m f h. r.divides.over k lt m f (later_still n n' m e e' f later h);
        };
      }

  pub explores_later : (c : Choices) (outlook : Outlook) → TestsStay (rows_from (start_of c) n) test test' → length (entered c) ≤ rows_from (start_of c) n → Explores c outlook n e test → Explores c outlook n' e' test'
  explores_later c outlook stay known x =
      record {
        row = maps_later c stay known x.row;
        words = λ m f h. x.words m f (later_still n n' m e e' f later h);
        turns = λ m f h. x.turns m f (later_still n n' m e e' f later h);
      }
