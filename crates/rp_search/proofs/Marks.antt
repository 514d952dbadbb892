-- What a turn does to what is remembered: each mark stays below the choices that it stood under, and what has failed stays so.
use Rattle.std.specs.List.{AllByRecursion}
use Rattle.std.proofs.Common.{map, ◌≡◌, ℕ, zero, suc, ◌+◌, ◌<◌, ◌≤◌, List, [], ◌∷◌, ◌++◌, length, take, Option, Some, None, ◌⊎◌, inl, inr, refl, sym, ap, ◌∙◌, subst, arith, append_assoc, min}
use Rattle.std.specs.Prelude.{IfSome, IsSome, OnSome, OnErr, OnOk, Result}
use Rattle.std.proofs.Common.{Ok, Err}
use Rattle.std.proofs.lemmas.List.{length-take}
use Rattle.std.proofs.Common.{length-append}
use Rattle.rp_words.specs.declared.form.Form.{Form}
use Rattle.rp_words.specs.declared.word.Label.{Label}
use Rattle.rp_words.specs.declared.word.End.{End}
use Rattle.rp_words.specs.declared.word.Seen.{Seen}
use Rattle.rp_words.specs.declared.word.Seen.TheVariants.{True, NotTrue}
use Rattle.rp_words.specs.Later.{IsLater}
use Rattle.rp_words.specs.Mapping.{Mapping, labels_of, preceded}
use Rattle.rp_words.specs.Words.{words}
use Rattle.rp_pattern.specs.declared.choices.Choices.{Choices}
use Rattle.rp_pattern.specs.Choices.{start_of, entered, whole, whole_from, height, above, above_below, of_top, below, before_top, after, place_words, IsAtPlace, IsSameWhole, IsSplit, KeepsAbove}
use Rattle.rp_search.specs.declared.memo.Mark.{Mark}
use Rattle.rp_search.specs.declared.memo.Memo.{Memo}
use Rattle.rp_search.specs.declared.search.Search.{Search}
use Rattle.rp_search.specs.declared.table.Table.{Table}
use Rattle.rp_search.specs.Found.{tested}
use Rattle.rp_search.specs.Asked.{Asked, AskedExtend, StayFromEach, rows_from}
use Rattle.rp_search.specs.Locality.{IsAmong}
use Rattle.rp_search.specs.Refused.{IsRefusedWithin}
use Rattle.rp_pattern.specs.declared.outlook.Outlook.{Outlook}
use Rattle.rp_pattern.specs.Outlooks.{words_ahead}
use Rattle.rp_search.specs.Fits.{ChoicesFit, Explores, StandsAtRow}
use Rattle.rp_search.specs.Search.{IsSearchFor, words_from}
use Rattle.rp_search.specs.Turned.{GoesOn, PassesNothing, PassesUntil, Settled, SettledUntil}
use Rattle.rp_search.specs.Lasting.{AreDead, FailsUpTo, Fails, IsMarked, IsPassed, LastsUntil, OfPattern, OpensAlike, WordsOver}
use Rattle.rp_search.specs.Table.{until_of}
use Rattle.rp_search.specs.Memo.{Above, AreFailures, AreMarksUnder, AreOfPattern, IsBlank, IsDeadTop, IsMarkIn, IsMarkOfTop, IsOf, MeantBy, Remembers, RemembersUnder, RemembersUpTo, StillRemembers, UpTo, failed_until, lessened, marked_on}
use Rattle.rp_search.proofs.ChoiceSteps.{GivesUp, later_still, no_words}
use Rattle.rp_search.proofs.Tested.{All-mapped, tested_take, labels_of-preceded}
use Rattle.rp_search.proofs.Failing.{alike_less, dead_less, dead_of_less, dead_stay, failing_is_refused, fails_again, fails_of_less, lasts_less, marked_is_dead, marks_stay_later, passed_less, refused_row_fails}

-- ---- what has failed

meant_same : (old new : Choices) → IsSameWhole old new → (s n : ℕ) (e : End) (w : Mapping) → MeantBy new s n e w → MeantBy old s n e w
meant_same old new keeps s n e w = subst (IsAmong w) (keeps.pattern.words n e s)

meant_back : (old new : Choices) → IsSameWhole old new → (s n : ℕ) (e : End) (w : Mapping) → MeantBy old s n e w → MeantBy new s n e w
meant_back old new keeps s n e w = subst (IsAmong w) (sym (keeps.pattern.words n e s))

failures_same : (table : Table) (old new : Choices) (asked : Asked) → IsSameWhole old new → AreFailures table old asked → AreFailures table new asked
failures_same table old new asked keeps f place row le lt =
    subst (λ s. AreDead (MeantBy new) (λ n e. place_words new place n e row) asked s (until_of table place row) row) (sym keeps.start)
    (dead_of_less (MeantBy old) (MeantBy new) (meant_same old new keeps) asked (λ n e. place_words old place n e row) (λ n e. place_words new place n e row) (start_of old) (until_of table place row) row
    (λ n e. keeps.pattern.places place n e row)
    (f place row (subst (λ s. s ≤ row) keeps.start le) (subst (λ s. s < until_of table place row) keeps.start lt)))

-- ---- marks

-- as to fewer start rows
marks_such : (Such Such' : ℕ → Type 0) (bound : ℕ) (c : Choices) (asked : Asked) (marks : List Mark) → ((u : ℕ) → Such' u → Such u) → AreMarksUnder bound c asked Such marks → AreMarksUnder bound c asked Such' marks
marks_such Such Such' bound c asked [] less h = tt
marks_such Such Such' bound c asked (mark ∷ marks) less h = (
  h.0,
  λ u such le. h.1 u (less u such) le,
  marks_such (λ u. Such u × (u ≤ mark.until)) (λ u. Such' u × (u ≤ mark.until)) (suc mark.height) c asked marks (λ u such. (less u such.0, such.1)) h.2,
)

marks_more : (Such : ℕ → Type 0) (a b : ℕ) (c : Choices) (asked : Asked) (marks : List Mark) → a ≤ b → AreMarksUnder a c asked Such marks → AreMarksUnder b c asked Such marks
marks_more Such a b c asked [] le h = tt
marks_more Such a b c asked (mark ∷ marks) le h = (omega (arith, h.0, le), h.1, h.2)

-- what was passed over is noted in the last mark
lessened_marks : (most bound : ℕ) (c : Choices) (asked : Asked) (marks : List Mark) → AreMarksUnder bound c asked (UpTo c most) marks → AreMarksUnder bound c asked (Above c) (lessened most marks)
lessened_marks most bound c asked [] h = tt
lessened_marks most bound c asked (mark ∷ marks) h = (
  h.0,
  λ u such le.
      let k = h.1 u (such, omega (arith, le)) (omega (arith, le)) in
      record { before = k.before; row = k.row; marked = k.marked; among = k.among },
  marks_such (λ u. UpTo c most u × (u ≤ mark.until)) (λ u. Above c u × (u ≤ min mark.until most)) (suc mark.height) c asked marks
      (λ u such. ((such.0, omega (arith, such.1)), omega (arith, such.1))) h.2,
)

-- a pattern is named, or none
none_named : (o : Option Form) → IsSome o → o ≡ None → ⊥
none_named None some none = cc
none_named (Some f) some none = cc

-- what is blank stays so
blank_again : (memo memo' : Memo) → memo'.marks ≡ [] → memo'.failed ≡ memo.failed → IsBlank memo → IsBlank memo'
blank_again memo memo' marks failed b = record { marks = marks; failures = λ place row. ap (λ t. until_of t place row) failed ∙ b.failures place row }

pub remembers_lessened : (most : ℕ) (memo memo' : Memo) (c : Choices) (asked : Asked) → memo'.marks ≡ lessened most memo.marks → memo'.failed ≡ memo.failed → RemembersUpTo most memo c asked → StillRemembers memo' c asked
remembers_lessened most memo memo' c asked marks failed r =
    record {
      marks = subst (λ ms. AreMarksUnder (suc (height c)) c asked (Above c) ms) (sym marks) (lessened_marks most (suc (height c)) c asked memo.marks r.marks);
      failures = subst (λ t. AreFailures t c asked) (sym failed) r.failures;
      unnamed = λ none. let b = r.unnamed none in blank_again memo memo' (marks ∙ ap (lessened most) b.marks) failed b;
    }

pub remembers_same : (memo memo' : Memo) (c : Choices) (asked : Asked) → memo'.marks ≡ memo.marks → memo'.failed ≡ memo.failed → Remembers memo c asked → Remembers memo' c asked
remembers_same memo memo' c asked marks failed r =
    record {
      marks = subst (λ ms. AreMarksUnder (height c) c asked (Above c) ms) (sym marks) r.marks;
      failures = subst (λ t. AreFailures t c asked) (sym failed) r.failures;
      unnamed = λ none. let b = r.unnamed none in blank_again memo memo' (marks ∙ b.marks) failed b;
    }

-- a turn that passes over words that fail
module _ (old new : Choices) (asked : Asked) (keeps : IsSameWhole old new) where
  mark_again : (u : ℕ) (mark : Mark) → start_of old < u → IsMarkIn old asked u mark →
      ((before : List Label) → tested (asked.outcome (start_of old)) before ≡ True → (n : ℕ) (e : End) → IsLater asked.known asked.end n e →
      AllByRecursion (λ w. MeantBy old (start_of old) n e (preceded before w)) (place_words old mark.place n e mark.row) →
      FailsUpTo (MeantBy old) asked (start_of old) u (start_of old + length before) before (place_words old mark.place n e mark.row) (above old mark.height n e) →
      FailsUpTo (MeantBy old) asked (start_of old) u (start_of old + length before) before (place_words old mark.place n e mark.row) (above new mark.height n e)) →
      IsMarkIn new asked u mark
  mark_again u mark lt k again =
      let row = start_of old + length k.before in
      let ws : WordsOver = λ n e. place_words new mark.place n e mark.row in
      let marked : IsMarked (MeantBy new) ws (above new mark.height) asked (start_of old) u k.before = record {
        admitted = k.marked.admitted;
        known = k.marked.known;
        from_one = k.marked.from_one;
        words = λ n e later.
            let f = again k.before k.marked.admitted n e later (k.among n e later) (k.marked.words n e later) in
            record {
              front = f.front;
              rest = f.rest;
              is = keeps.pattern.places mark.place n e mark.row ∙ f.is;
              over_is = f.over_is;
              fail = All-mapped (Fails (MeantBy old) asked (start_of old) u row) (Fails (MeantBy new) asked (start_of old) u row)
                  (λ w g. fails_of_less (MeantBy old) (MeantBy new) (meant_same old new keeps) asked (start_of old) u row w g) f.front f.fail;
            };
      } in
      record {
        before = k.before;
        row = k.row ∙ ap (λ s. s + length k.before) (sym keeps.start);
        marked = subst (λ s. IsMarked (MeantBy new) ws (above new mark.height) asked s u k.before) (sym keeps.start) marked;
        among = λ n e later.
            subst (λ xs. AllByRecursion (λ w. MeantBy new (start_of new) n e (preceded k.before w)) xs) (sym (keeps.pattern.places mark.place n e mark.row))
            (All-mapped (λ w. MeantBy old (start_of old) n e (preceded k.before w)) (λ w. MeantBy new (start_of new) n e (preceded k.before w))
            (λ w m. subst (λ s. MeantBy new s n e (preceded k.before w)) (sym keeps.start) (meant_back old new keeps (start_of old) n e (preceded k.before w) m))
            (place_words old mark.place n e mark.row) (k.among n e later));
      }

  -- nothing is passed over above the mark
  mark_kept : (u : ℕ) (mark : Mark) → start_of old < u → ((n : ℕ) (e : End) → IsLater asked.known asked.end n e → above new mark.height n e ≡ above old mark.height n e) → IsMarkIn old asked u mark → IsMarkIn new asked u mark
  mark_kept u mark lt same k =
      mark_again u mark lt k
      (λ before true_ n e later among f. record { front = f.front; rest = f.rest; is = f.is; over_is = f.over_is ∙ sym (same n e later); fail = f.fail })

  -- what is passed over fails from the mark's row
  mark_passed : (most u : ℕ) (mark : Mark) → start_of old < u → u ≤ most → PassesUntil most old new asked → mark.height < height old → IsMarkIn old asked u mark → IsMarkIn new asked u mark
  mark_passed most u mark lt le p high k =
      mark_again u mark lt k
      (λ before true_ n e later among f.
      let q = p.1 mark.height high n e later in
      fails_again (MeantBy old) asked (start_of old) u n e before p.0 lt true_
      (place_words old mark.place n e mark.row) (above old mark.height n e) q.front (above new mark.height n e) among f q.is
      (All-mapped (IsPassed (MeantBy old) asked (start_of old) most) (IsPassed (MeantBy old) asked (start_of old) u) (λ w h. passed_less (MeantBy old) asked (start_of old) most u w le h) q.front q.passed))

  -- each mark that is below the height stays one
  marks_again : (Such : ℕ → Type 0) (bound : ℕ) (marks : List Mark) → ((u : ℕ) (mark : Mark) → Such u → mark.height < height old → IsMarkIn old asked u mark → IsMarkIn new asked u mark) →
      bound ≤ height old → AreMarksUnder bound old asked Such marks → AreMarksUnder bound new asked Such marks
  marks_again Such bound [] again le h = tt
  marks_again Such bound (mark ∷ marks) again le h = (
    h.0,
    λ u such k. again u mark such (omega (arith, h.0, le)) (h.1 u such k),
    marks_again (λ u. Such u × (u ≤ mark.until)) (suc mark.height) marks (λ u m such. again u m such.0) (omega (arith, h.0, le)) h.2,
  )

  marks_at : (Such : ℕ → Type 0) (bound : ℕ) (marks : List Mark) → ((u : ℕ) (mark : Mark) → Such u → mark.height < height old → IsMarkIn old asked u mark → IsMarkIn new asked u mark) →
      ((h : ℕ) → h < height old → h < bound) → AreMarksUnder (height old) old asked Such marks → AreMarksUnder bound new asked Such marks
  marks_at Such bound [] again higher h = tt
  marks_at Such bound (mark ∷ marks) again higher h = (
    higher mark.height h.0,
    λ u such k. again u mark such h.0 (h.1 u such k),
    marks_again (λ u. Such u × (u ≤ mark.until)) (suc mark.height) marks (λ u m such. again u m such.0) (omega (arith, h.0)) h.2,
  )

  -- where nothing was passed over
  pub nothing_remembers : (memo : Memo) → ((h : ℕ) → h < height old → h ≤ height new) → PassesNothing old new asked → Remembers memo old asked → StillRemembers memo new asked
  nothing_remembers memo falls p r =
      record {
        marks = marks_such (Above old) (Above new) (suc (height new)) new asked memo.marks (λ u lt. subst (λ s. s < u) keeps.start lt)
            (marks_at (Above old) (suc (height new)) memo.marks (λ u mark lt high k. mark_kept u mark lt (p mark.height high) k) (λ h lt. omega (arith, falls h lt)) r.marks);
        failures = failures_same memo.failed old new asked keeps r.failures;
        unnamed = r.unnamed;
      }

  -- where words were passed over
  pub passed_remembers : (most : ℕ) (memo : Memo) → ((h : ℕ) → h < height old → h ≤ height new) → (start_of old < most → PassesUntil most old new asked) → Remembers memo old asked → RemembersUpTo most memo new asked
  passed_remembers most memo falls p r =
      record {
        marks = marks_such (UpTo old most) (UpTo new most) (suc (height new)) new asked memo.marks (λ u lt. (subst (λ s. s < u) keeps.start lt.0, lt.1))
            (marks_at (UpTo old most) (suc (height new)) memo.marks (λ u mark lt high k. mark_passed most u mark lt.0 lt.1 (p (omega (arith, lt.0, lt.1))) high k) (λ h lt. omega (arith, falls h lt))
            (marks_such (Above old) (UpTo old most) (height old) old asked memo.marks (λ u lt. lt.0) r.marks));
        failures = failures_same memo.failed old new asked keeps r.failures;
        unnamed = r.unnamed;
      }

  -- they are still above them
  pub kept_remembers : (memo : Memo) → KeepsAbove old new asked.known asked.end → Remembers memo old asked → Remembers memo new asked
  kept_remembers memo kept r =
      record {
        marks = marks_such (Above old) (Above new) (height new) new asked memo.marks (λ u lt. subst (λ s. s < u) keeps.start lt)
            (marks_at (Above old) (height new) memo.marks (λ u mark lt high k. mark_kept u mark lt (λ n e later. (kept mark.height high).1 n e later) k) (λ h lt. (kept h lt).0) r.marks);
        failures = failures_same memo.failed old new asked keeps r.failures;
        unnamed = r.unnamed;
      }

pub up_to_any : (most : ℕ) (memo : Memo) (c : Choices) (asked : Asked) → StillRemembers memo c asked → RemembersUpTo most memo c asked
up_to_any most memo c asked r =
    record { marks = marks_such (Above c) (UpTo c most) (suc (height c)) c asked memo.marks (λ u lt. lt.0) r.marks; failures = r.failures; unnamed = r.unnamed }

-- where nothing falls
pub still_above : (memo : Memo) (old new : Choices) (asked : Asked) → IsSameWhole old new → KeepsAbove old new asked.known asked.end → Remembers memo old asked → Remembers memo new asked
still_above memo old new asked same keeps r = kept_remembers old new asked same memo keeps r

-- where a row was settled
pub remembers_settled : (memo : Memo) (old new : Choices) (asked asked' : Asked) (seen : Seen) (until : ℕ) → asked ≡ asked' → IsSameWhole old new → (seen ≡ True) ⊎ (seen ≡ NotTrue) → Settled old new asked seen → SettledUntil until old new asked seen →
    Remembers memo old asked → RemembersUpTo until memo new asked'
remembers_settled memo old new asked asked' seen until e same (inl is_true) s p r =
    subst (λ a. RemembersUpTo until memo new a) e
    (let g : GoesOn old new asked = subst (λ z. Settled old new asked z) is_true s in
    up_to_any until memo new asked (nothing_remembers old new asked same memo (λ h lt. (g.goes.passes h lt).0) (subst (λ z. SettledUntil until old new asked z) is_true p) r))
remembers_settled memo old new asked asked' seen until e same (inr not) s p r =
    subst (λ a. RemembersUpTo until memo new a) e
    (let g : GoesOn old new asked = subst (λ z. Settled old new asked z) not s in
    passed_remembers old new asked same until memo (λ h lt. (g.goes.passes h lt).0) (subst (λ z. SettledUntil until old new asked z) not p) r)

-- ---- a row that is given up

cut_short : (k r : ℕ) (ls ms : List Label) → ls ≡ take k ms → length ms ≤ r → length ls ≤ r
cut_short k r ls ms cut le = omega (arith, ap length cut, length-take k ms, le)

-- the first words of some, and those behind others, are among them
among_first : (front ws rest whole : List Mapping) → whole ≡ front ++ (ws ++ rest) → AllByRecursion (λ w. IsAmong w whole) ws
among_first front [] rest whole e = tt
among_first front (w ∷ ws) rest whole e = (
  (front, ws ++ rest, e),
  among_first (front ++ w ∷ []) ws rest whole (e ∙ sym (append_assoc front (w ∷ []) (ws ++ rest))),
)

unmapped : (P : Mapping → Type 0) (ls : List Label) (ws : List Mapping) → AllByRecursion P (map (preceded ls) ws) → AllByRecursion (λ w. P (preceded ls w)) ws
unmapped P ls [] h = tt
unmapped P ls (w ∷ ws) h = (h.0, unmapped P ls ws h.1)

whole_is : (c : Choices) (n : ℕ) (e : End) → whole c n e ≡ whole_from c n e (start_of c)
unfolding whole whole_from start_of
whole_is c n e = refl

-- words of the pattern are meant, where it is the one that is asked of
pub of_pattern_meant : (o : Option Form) (c : Choices) → AreOfPattern o c → (s n : ℕ) (e : End) (w : Mapping) → MeantBy c s n e w → OfPattern o s n e w
of_pattern_meant None c of s n e w m = tt
of_pattern_meant (Some f) c of s n e w m = subst (IsAmong w) (of n e s) m

module _ (old new : Choices) (asked : Asked) (until : ℕ) (s : ChoicesFit old asked.known asked.end (asked.outcome (start_of old))) (r : StandsAtRow old asked.known asked.end (asked.outcome (start_of old))) (g : GivesUp old new) where
  row_meant : (n : ℕ) (e : End) → IsLater asked.known asked.end n e → AllByRecursion (λ w. MeantBy old (start_of old) n e w) (map (preceded (entered old)) (after old n e))
  row_meant n e later =
      let up = s.words n e later in
      subst (λ ws. AllByRecursion (λ w. IsAmong w ws) (map (preceded (entered old)) (after old n e))) (whole_is old n e)
      (among_first up.front (map (preceded (entered old)) (after old n e)) (below old n e) (whole old n e) (up.is ∙ ap (λ ws. up.front ++ ws) (r.divides.words n e later)))

  rows_passed : (n : ℕ) (e : End) → LastsUntil (MeantBy old) asked (start_of old) (entered old) until → (ws : List Mapping) → AllByRecursion (λ w. MeantBy old (start_of old) n e w) (map (preceded (entered old)) ws) →
      AllByRecursion (IsPassed (MeantBy old) asked (start_of old) until) (map (preceded (entered old)) ws)
  rows_passed n e lasts [] m = tt
  rows_passed n e lasts (w ∷ ws) m =
      let is : labels_of (preceded (entered old) w) ≡ r.before ++ r.last ∷ labels_of w =
      labels_of-preceded (entered old) w ∙ ap (λ ls. ls ++ labels_of w) r.labels ∙ append_assoc r.before (r.last ∷ []) (labels_of w) in (
        refused_row_fails (MeantBy old) asked (start_of old) until r.before r.last (labels_of w) (preceded (entered old) w) is r.admitted
            (omega (arith, s.known, ap length r.labels, length-append r.before (r.last ∷ [])))
            (lasts r.before r.last (labels_of w) n e (preceded (entered old) w) r.labels m.0 is),
        rows_passed n e lasts ws m.1,
      )

  pub row_passes : OpensAlike (MeantBy old) asked → LastsUntil (MeantBy old) asked (start_of old) (entered old) until → PassesUntil until old new asked
  row_passes alike lasts = (
    alike,
    λ h lt n e later. record {
      front = map (preceded (entered old)) (after old n e);
      is = r.divides.over h lt n e later ∙ ap (λ ws. map (preceded (entered old)) (after old n e) ++ ws) (g.over h n e);
      passed = rows_passed n e lasts (after old n e) (row_meant n e later);
    },
  )

  -- where no word follows the row
  pub wordless_passes : ((n : ℕ) (e : End) → IsLater asked.known asked.end n e → after old n e ≡ []) → PassesNothing old new asked
  wordless_passes none h lt n e later =
      sym (r.divides.over h lt n e later ∙ ap (λ ws. map (preceded (entered old)) ws ++ above_below old h n e) (none n e later) ∙ g.over h n e)

-- where nothing would follow a row whose test is open
pub explored_passes : (old new : Choices) (outlook : Outlook) (asked : Asked) (until : ℕ) → ChoicesFit old asked.known asked.end (asked.outcome (start_of old)) → Explores old outlook asked.known asked.end (asked.outcome (start_of old)) →
    ((n : ℕ) (e : End) → words_ahead outlook n e ≡ 0) → GivesUp old new → PassesNothing old new asked
explored_passes old new outlook asked until s x none g =
    wordless_passes old new asked until s x.row g (λ n e later. no_words (words_ahead outlook n e) (after old n e) (x.words n e later) (none n e))

-- as the tests tell it
pub told_passes : (o : Option Form) (old new : Choices) (asked : Asked) (until : ℕ) → AreOfPattern o old → ChoicesFit old asked.known asked.end (asked.outcome (start_of old)) → StandsAtRow old asked.known asked.end (asked.outcome (start_of old)) → GivesUp old new →
    OpensAlike (OfPattern o) asked × LastsUntil (OfPattern o) asked (start_of old) (entered old) until → PassesUntil until old new asked
told_passes o old new asked until of s r g told =
    row_passes old new asked until s r g
    (alike_less (OfPattern o) (MeantBy old) (of_pattern_meant o old of) asked told.0)
    (lasts_less (OfPattern o) (MeantBy old) (of_pattern_meant o old of) asked (start_of old) until (entered old) told.1)

-- ---- a mark of the preferred choice

-- the words of the preferred choice's place are among those of the pattern
top_among : (c : Choices) (asked : Asked) (place : ℕ) → IsAtPlace c place → ChoicesFit c asked.known asked.end (asked.outcome (start_of c)) → (n : ℕ) (e : End) → IsLater asked.known asked.end n e →
    AllByRecursion (λ w. MeantBy c (start_of c) n e (preceded (before_top c) w)) (place_words c place n e (start_of c + length (before_top c)))
top_among c asked place p s n e later =
    let up = s.words n e later in
    unmapped (λ w. MeantBy c (start_of c) n e w) (before_top c) (place_words c place n e (start_of c + length (before_top c)))
    (subst (λ ws. AllByRecursion (λ w. IsAmong w ws) (map (preceded (before_top c)) (place_words c place n e (start_of c + length (before_top c))))) (whole_is c n e)
    (among_first up.front (map (preceded (before_top c)) (place_words c place n e (start_of c + length (before_top c)))) (below c n e) (whole c n e)
    (up.is ∙ ap (λ ws. up.front ++ ws) (p.divides n e ∙ ap (λ ws. ws ++ below c n e) (p.words n e)))))

-- a mark of the preferred choice, as it stands
mark_of_top : (c : Choices) (asked : Asked) (u : ℕ) (mark : Mark) → IsMarkOfTop c mark → ChoicesFit c asked.known asked.end (asked.outcome (start_of c)) → tested (asked.outcome (start_of c)) (entered c) ≡ True → IsMarkIn c asked u mark
mark_of_top c asked u mark m s true_ =
    let cut = m.place.cut in
    record {
      before = before_top c;
      row = m.row;
      marked = record {
        admitted = subst (λ ls. tested (asked.outcome (start_of c)) ls ≡ True) (sym cut.1) (tested_take (entered c) cut.0 (asked.outcome (start_of c)) true_);
        known = cut_short cut.0 (rows_from (start_of c) asked.known) (before_top c) (entered c) cut.1 s.known;
        from_one = s.from_one;
        words = λ n e later. record {
          front = [];
          rest = place_words c mark.place n e mark.row;
          is = refl;
          over_is = ap (λ row. map (preceded (before_top c)) (place_words c mark.place n e row)) m.row ∙ sym (m.place.words n e) ∙ sym (m.words n e);
          fail = tt;
        };
      };
      among = λ n e later.
          subst (λ row. AllByRecursion (λ w. MeantBy c (start_of c) n e (preceded (before_top c) w)) (place_words c mark.place n e row)) (sym m.row)
          (top_among c asked mark.place m.place s n e later);
    }

module _ (old new : Choices) (asked : Asked) (same : IsSameWhole old new) (split : IsSplit old new asked.known asked.end) (s : ChoicesFit old asked.known asked.end (asked.outcome (start_of old))) (true_ : tested (asked.outcome (start_of old)) (entered old) ≡ True) where
  kept : (u : ℕ) (mark : Mark) → Above old u → mark.height < height old → IsMarkIn old asked u mark → IsMarkIn new asked u mark
  kept u mark lt high k = mark_kept old new asked same u mark lt (λ n e later. (split.keeps mark.height high).1 n e later) k

  set_on : (mark : Option Mark) (marks : List Mark) → IfSome mark (IsMarkOfTop old) → AreMarksUnder (height old) old asked (Above old) marks → AreMarksUnder (suc (height new)) new asked (Above old) (marked_on mark marks)
  set_on None marks m h = marks_at old new asked same (Above old) (suc (height new)) marks kept (λ k lt. omega (arith, (split.keeps k lt).0)) h
  set_on (Some mark) marks m h =
      let lt : mark.height < height old = omega (arith, m.top) in
      let under : AreMarksUnder (suc mark.height) old asked (Above old) marks = subst (λ b. AreMarksUnder b old asked (Above old) marks) (omega (arith, m.top)) h in (
        omega (arith, (split.keeps mark.height lt).0),
        λ u such le. kept u mark such lt (mark_of_top old asked u mark m s true_),
        marks_such (Above old) (λ u. Above old u × (u ≤ mark.until)) (suc mark.height) new asked marks (λ u such. such.0)
            (marks_again old new asked same (Above old) (suc mark.height) marks kept (omega (arith, lt)) under),
      )

  -- the mark was set, or memory for it was refused
  pub sets : {T E : Type 0} (mark : Option Mark) (memo memo' : Memo) (result : Result T E) → IfSome mark (IsMarkOfTop old) → OnSome mark (IsSome asked.pattern) → OnOk result (memo'.marks ≡ marked_on mark memo.marks) → OnErr result (memo'.marks ≡ memo.marks) → memo'.failed ≡ memo.failed →
      Remembers memo old asked → StillRemembers memo' new asked
  sets mark memo memo' result m named set refused failed r =
      record {
        marks = marks_such (Above old) (Above new) (suc (height new)) new asked memo'.marks (λ u lt. subst (λ z. z < u) same.start lt) (go result set refused);
        failures = subst (λ t. AreFailures t new asked) (sym failed) (failures_same memo.failed old new asked same r.failures);
        unnamed = λ none. let b = r.unnamed none in blank_again memo memo' (unmarked mark result named set refused none ∙ b.marks) failed b;
      }
    where
      unmarked : {T E : Type 0} (mark : Option Mark) (result : Result T E) → OnSome mark (IsSome asked.pattern) → OnOk result (memo'.marks ≡ marked_on mark memo.marks) → OnErr result (memo'.marks ≡ memo.marks) → asked.pattern ≡ None → memo'.marks ≡ memo.marks
      unmarked None (Ok u) n e f none = e
      unmarked None (Err u) n e f none = f
      unmarked (Some m') result n e f none = absurd (none_named asked.pattern n none)

      go : {T E : Type 0} (result : Result T E) → OnOk result (memo'.marks ≡ marked_on mark memo.marks) → OnErr result (memo'.marks ≡ memo.marks) → AreMarksUnder (suc (height new)) new asked (Above old) memo'.marks
      go (Ok u) e f = subst (λ ms. AreMarksUnder (suc (height new)) new asked (Above old) ms) (sym e) (set_on mark memo.marks m r.marks)
      go (Err u) e f = subst (λ ms. AreMarksUnder (suc (height new)) new asked (Above old) ms) (sym f) (set_on None memo.marks tt r.marks)

-- no mark is set, so none is left behind
pub none_marked : (c : Choices) (asked : Asked) (memo : Memo) (until : ℕ) → length memo.marks ≡ 0 → RemembersUpTo until memo c asked → Remembers memo c asked
none_marked c asked memo until none r = record { marks = go memo.marks none; failures = r.failures; unnamed = r.unnamed }
  where
    go : (marks : List Mark) → length marks ≡ 0 → AreMarksUnder (height c) c asked (Above c) marks
    go [] none = tt
    go (mark ∷ marks) none = absurd cc

-- ---- a choice whose place has failed

-- the words of the preferred choice are dead
module _ (c : Choices) (asked : Asked) (until place : ℕ) (p : IsAtPlace c place) (s : ChoicesFit c asked.known asked.end (asked.outcome (start_of c))) (true_ : tested (asked.outcome (start_of c)) (entered c) ≡ True) (lt : start_of c < until) where
  before_true : tested (asked.outcome (start_of c)) (before_top c) ≡ True
  before_true = subst (λ ls. tested (asked.outcome (start_of c)) ls ≡ True) (sym p.cut.1) (tested_take (entered c) p.cut.0 (asked.outcome (start_of c)) true_)

  before_known : length (before_top c) ≤ rows_from (start_of c) asked.known
  before_known = cut_short p.cut.0 (rows_from (start_of c) asked.known) (before_top c) (entered c) p.cut.1 s.known

  all_refused : (n : ℕ) (e : End) (ws : List Mapping) → AllByRecursion (Fails (MeantBy c) asked (start_of c) until (start_of c + length (before_top c))) ws → AllByRecursion (λ w. MeantBy c (start_of c) n e (preceded (before_top c) w)) ws →
      AllByRecursion (IsRefusedWithin (rows_from (start_of c) asked.known) (asked.outcome (start_of c))) (map (preceded (before_top c)) ws)
  all_refused n e [] f m = tt
  all_refused n e (w ∷ ws) f m =
      (failing_is_refused (MeantBy c) asked (start_of c) until (start_of c) n e (before_top c) w (omega arith) lt before_true before_known m.0 f.0, all_refused n e ws f.1 m.1)

  all_passed : (ws : List Mapping) → AllByRecursion (Fails (MeantBy c) asked (start_of c) until (start_of c + length (before_top c))) ws → AllByRecursion (IsPassed (MeantBy c) asked (start_of c) until) (map (preceded (before_top c)) ws)
  all_passed [] f = tt
  all_passed (w ∷ ws) f = (record { before = before_top c; rest = w; is = labels_of-preceded (before_top c) w; admitted = before_true; fails = f.0 }, all_passed ws f.1)

  pub is_dead : AreDead (MeantBy c) (λ n e. place_words c place n e (start_of c + length (before_top c))) asked (start_of c) until (start_of c + length (before_top c)) → IsDeadTop until c asked
  is_dead d =
      record {
        has_top = p.has_top;
        refused = λ n e later.
            subst (AllByRecursion (IsRefusedWithin (rows_from (start_of c) asked.known) (asked.outcome (start_of c)))) (sym (p.words n e))
            (all_refused n e (place_words c place n e (start_of c + length (before_top c))) (d n e later) (top_among c asked place p s n e later));
        passed = λ n e later.
            subst (AllByRecursion (IsPassed (MeantBy c) asked (start_of c) until)) (sym (p.words n e))
            (all_passed (place_words c place n e (start_of c + length (before_top c))) (d n e later));
        turns = p.turns;
      }

pub dead_top : (P : Mark → Type 0) (c : Choices) (asked : Asked) (memo : Memo) (mark : Option Mark) (until : ℕ) → until ≡ failed_until memo mark → IfSome mark (λ m. P m × IsMarkOfTop c m) → start_of c < until → Remembers memo c asked →
    ChoicesFit c asked.known asked.end (asked.outcome (start_of c)) → tested (asked.outcome (start_of c)) (entered c) ≡ True → IsDeadTop until c asked
dead_top P c asked memo None until e m lt r s true_ = absurd (omega (arith, e, lt))
dead_top P c asked memo (Some mark) until e m lt r s true_ =
    subst (λ u. IsDeadTop u c asked) (sym e)
    (is_dead c asked (until_of memo.failed mark.place mark.row) mark.place m.1.place s true_ (omega (arith, e, lt))
    (subst (λ row. AreDead (MeantBy c) (λ n e'. place_words c mark.place n e' row) asked (start_of c) (until_of memo.failed mark.place mark.row) row) m.1.row
    (r.failures mark.place mark.row (omega (arith, m.1.row)) (omega (arith, e, lt)))))

pub dead_alike : (P : Mark → Type 0) (o : Option Form) (c : Choices) (asked : Asked) (memo : Memo) (mark : Option Mark) (until : ℕ) → until ≡ failed_until memo mark → IfSome mark (λ m. OpensAlike (OfPattern o) asked × P m) → start_of c < until → AreOfPattern o c → OpensAlike (MeantBy c) asked
dead_alike P o c asked memo None until e m lt of = absurd (omega (arith, e, lt))
dead_alike P o c asked memo (Some mark) until e m lt of = alike_less (OfPattern o) (MeantBy c) (of_pattern_meant o c of) asked m.0

-- it is given up
pub dead_passes : (old new : Choices) (asked : Asked) (until : ℕ) → OpensAlike (MeantBy old) asked → IsDeadTop until old asked → ((h n : ℕ) (e : End) → h < height old → above old h n e ≡ of_top old n e ++ above new h n e) → PassesUntil until old new asked
dead_passes old new asked until alike d over =
    (alike, λ h lt n e later. record { front = of_top old n e; is = over h n e lt; passed = d.passed n e later })

-- ---- marks that are left

-- the marks below the last one, which no choice is above any more
pub marks_left : (c : Choices) (asked : Asked) (mark : Mark) (marks : List Mark) → AreMarksUnder (suc (height c)) c asked (Above c) (mark ∷ marks) → AreMarksUnder (suc (height c)) c asked (UpTo c mark.until) marks
marks_left c asked mark marks h = marks_more (UpTo c mark.until) (suc mark.height) (suc (height c)) c asked marks (omega (arith, h.0)) h.2

pub length-lessened : (until : ℕ) (marks : List Mark) → length (lessened until marks) ≡ length marks
length-lessened until [] = refl
length-lessened until (mark ∷ marks) = refl

-- the last mark was taken away, and its failure noted
pub noted : (c : Choices) (asked : Asked) (mark : Mark) (marks : List Mark) (failed : Table) (memo : Memo) → memo.marks ≡ lessened mark.until marks → memo.failed ≡ failed →
    AreMarksUnder (suc (height c)) c asked (Above c) (mark ∷ marks) → AreFailures failed c asked → (asked.pattern ≡ None → ⊥) → StillRemembers memo c asked
noted c asked mark marks failed memo is same h f named =
    record {
      marks = subst (λ ms. AreMarksUnder (suc (height c)) c asked (Above c) ms) (sym is) (lessened_marks mark.until (suc (height c)) c asked marks (marks_left c asked mark marks h));
      failures = subst (λ t. AreFailures t c asked) (sym same) f;
      unnamed = λ none. absurd (named none);
    }

-- where there is a mark, a pattern is named
pub marked_named : (bound : ℕ) (Such : ℕ → Type 0) (c : Choices) (asked : Asked) (mark : Mark) (marks : List Mark) (memo : Memo) → memo.marks ≡ mark ∷ marks → RemembersUnder bound Such memo c asked → asked.pattern ≡ None → ⊥
marked_named bound Such c asked mark marks memo is r none = let blank : mark ∷ marks ≡ [] = sym is ∙ (r.unnamed none).marks in cc

-- what was marked is dead
pub left_dead : (c : Choices) (asked : Asked) (until : ℕ) (mark : Mark) → IsMarkIn c asked until mark → ((n : ℕ) (e : End) → above c mark.height n e ≡ []) → AreDead (MeantBy c) (λ n e. place_words c mark.place n e mark.row) asked (start_of c) until mark.row
left_dead c asked until mark m none =
    subst (λ row. AreDead (MeantBy c) (λ n e. place_words c mark.place n e mark.row) asked (start_of c) until row) (sym m.row)
    (marked_is_dead (MeantBy c) (λ n e. place_words c mark.place n e mark.row) (above c mark.height) asked (start_of c) until m.before m.marked none)

pub failures_more : (old new : Table) (c : Choices) (asked : Asked) (mark : Mark) →
    ((q r : ℕ) → 0 < until_of new q r → (until_of new q r ≡ until_of old q r) ⊎ ((q ≡ mark.place) × (r ≡ mark.row) × (until_of new q r ≡ mark.until))) →
    AreDead (MeantBy c) (λ n e. place_words c mark.place n e mark.row) asked (start_of c) mark.until mark.row → AreFailures old c asked → AreFailures new c asked
failures_more old new c asked mark adds dead f place row le lt = go (adds place row (omega (arith, lt)))
  where
    go : (until_of new place row ≡ until_of old place row) ⊎ ((place ≡ mark.place) × (row ≡ mark.row) × (until_of new place row ≡ mark.until)) → AreDead (MeantBy c) (λ n e. place_words c place n e row) asked (start_of c) (until_of new place row) row
    go (inl h) =
        subst (λ u. AreDead (MeantBy c) (λ n e. place_words c place n e row) asked (start_of c) u row) (sym h) (f place row le (subst (λ u. start_of c < u) h lt))
    go (inr h) =
        subst (λ u. AreDead (MeantBy c) (λ n e. place_words c place n e row) asked (start_of c) u row) (sym h.2)
        (subst (λ q. AreDead (MeantBy c) (λ n e. place_words c q n e row) asked (start_of c) mark.until row) (sym h.0)
        (subst (λ r. AreDead (MeantBy c) (λ n e. place_words c mark.place n e r) asked (start_of c) mark.until r) (sym h.1) dead))

-- the choices stay those of a pattern
pub still_of_pattern : (o : Option Form) (old new : Choices) → IsSameWhole old new → AreOfPattern o old → AreOfPattern o new
still_of_pattern None old new keeps of = tt
still_of_pattern (Some f) old new keeps of = λ n e row. keeps.pattern.words n e row ∙ of n e row

pub of_pattern : (o : Option Form) (s : Search) → IfSome o (λ f. (n : ℕ) (e : End) (row : ℕ) → words_from s n e row ≡ words n e f row) → AreOfPattern o s.choices
unfolding words_from
of_pattern None s h = tt
of_pattern (Some f) s h = λ n e row. h n e row

pub of_searched : (o : Option Form) (s : Search) → IfSome o (λ f. IsSearchFor f s) → AreOfPattern o s.choices
of_searched None s h = tt
of_searched (Some f) s h = of_pattern (Some f) s h.same_words

pub of_searched_words : (o : Option Form) (s : Search) → IfSome o (λ f. IsSearchFor f s) → IfSome o (λ f. (n : ℕ) (e : End) (row : ℕ) → words_from s n e row ≡ words n e f row)
of_searched_words None s h = tt
of_searched_words (Some f) s h = h.same_words

-- ---- at a start row, and later

pub blank_remembers : (memo : Memo) (c : Choices) (asked : Asked) → IsBlank memo → Remembers memo c asked
blank_remembers memo c asked b =
    record {
      marks = subst (λ ms. AreMarksUnder (height c) c asked (Above c) ms) (sym b.marks) tt;
      failures = λ place row le lt. absurd (omega (arith, b.failures place row, lt));
      unnamed = λ none. b;
    }

none_new : (new old : ℕ) → old ≡ 0 → (0 < new → new ≡ old) → new ≡ 0
none_new zero old none same = refl
none_new (suc k) old none same = same (omega arith) ∙ none

pub moved_remembers : (memo memo' : Memo) (old new : Choices) (asked : Asked) → IsOf (start_of old) (start_of new) memo memo' → ((n : ℕ) (e : End) (row : ℕ) → whole_from new n e row ≡ whole_from old n e row) → ((place n : ℕ) (e : End) (row : ℕ) → place_words new place n e row ≡ place_words old place n e row) →
    Remembers memo old asked → Remembers memo' new asked
moved_remembers memo memo' old new asked m words same r =
    record {
      marks = subst (λ ms. AreMarksUnder (height new) new asked (Above new) ms) (sym m.marks) tt;
      failures = λ place row le lt.
          let h = m.failures place row (omega (arith, lt)) in
          subst (λ u. AreDead (MeantBy new) (λ n e. place_words new place n e row) asked (start_of new) u row) (sym h.1)
          (dead_less (MeantBy new) (λ n e. place_words new place n e row) asked (start_of old) (start_of new) (until_of memo.failed place row) row h.0
          (dead_of_less (MeantBy old) (MeantBy new) (λ s n e w. subst (IsAmong w) (words n e s)) asked (λ n e. place_words old place n e row) (λ n e. place_words new place n e row) (start_of old) (until_of memo.failed place row) row
          (λ n e. same place n e row) (r.failures place row (omega (arith, h.0, le)) (omega (arith, h.0, h.1, lt)))));
      unnamed = λ none. record {
        marks = m.marks;
        failures = λ place row. none_new (until_of memo'.failed place row) (until_of memo.failed place row) ((r.unnamed none).failures place row) (λ some. (m.failures place row some).1);
      };
    }

-- Where a pattern is named, more is told.
told_more : (o : Option Form) (P : Type 0) → OnSome o P → (o ≡ None) ⊎ P
told_more None P h = inl refl
told_more (Some f) P h = inr h

module _ (c : Choices) (old new : Asked) (x : AskedExtend (start_of c) old new) (stay : StayFromEach (start_of c) old new) where
  marks_later : (bound : ℕ) (Such : ℕ → Type 0) (marks : List Mark) → AreMarksUnder bound c old Such marks → AreMarksUnder bound c new Such marks
  marks_later bound Such [] h = tt
  marks_later bound Such (mark ∷ marks) h = (
    h.0,
    λ u such le.
        let k = h.1 u such le in
        record {
          before = k.before;
          row = k.row;
          marked = marks_stay_later (MeantBy c) (λ n e. place_words c mark.place n e mark.row) (above c mark.height) old new (start_of c) u k.before x stay k.marked;
          among = λ n e later. k.among n e (later_still old.known new.known n old.end new.end e x.later later);
        },
    marks_later (suc mark.height) (λ u. Such u × (u ≤ mark.until)) marks h.2,
  )

  named_later : (memo : Memo) → IsSome new.pattern → Remembers memo c old → Remembers memo c new
  named_later memo named r =
      record {
        marks = marks_later (height c) (Above c) memo.marks r.marks;
        failures = λ place row le lt. dead_stay (MeantBy c) (λ n e. place_words c place n e row) old new (start_of c) (until_of memo.failed place row) row x stay (r.failures place row le lt);
        unnamed = λ none. absurd (none_named new.pattern named none);
      }

-- What is remembered stays so: where no pattern is named, nothing is remembered.
pub remembers_later : (c : Choices) (old new : Asked) → AskedExtend (start_of c) old new → (memo : Memo) → Remembers memo c old → Remembers memo c new
remembers_later c old new x memo r = go (told_more old.pattern (IsSome new.pattern × StayFromEach (start_of c) old new) x.remembered)
  where
    go : (old.pattern ≡ None) ⊎ (IsSome new.pattern × StayFromEach (start_of c) old new) → Remembers memo c new
    go (inl none) = blank_remembers memo c new (r.unnamed none)
    go (inr more) = named_later c old new x more.1 memo more.0 r
