-- A search within a run, at the end of a turn.
use Rattle.std.specs.List.{AllByRecursion}
use Rattle.std.proofs.Common.{map, ◌≡◌, ℕ, zero, suc, ◌+◌, ◌<◌, ◌≤◌, List, [], ◌∷◌, ◌++◌, length, take, Option, Some, None, Bool, true, false, IsTrue, ◌↔◌, ◌⊎◌, inl, inr, refl, sym, ap, ◌∙◌, subst, arith, length-append}
use Rattle.std.proofs.lemmas.List.{take-append-le}
use Rattle.std.proofs.lemmas.List.Elements.{All-from_recursion, recursion_from_All, All-nil, All-take, All-push}
use Rattle.rp_words.specs.declared.word.Label.{Label}
use Rattle.rp_words.specs.declared.word.End.{End}
use Rattle.rp_words.specs.declared.word.End.TheVariants.{Open as OpenEnd, Closed as ClosedEnd}
use Rattle.rp_words.specs.declared.word.Seen.{Seen}
use Rattle.rp_words.specs.declared.word.Seen.TheVariants.{True, NotTrue, Open as OpenTest}
use Rattle.rp_pattern.specs.declared.choices.Choices.{Choices}
use Rattle.rp_pattern.specs.declared.outlook.Outlook.{Outlook}
use Rattle.rp_pattern.specs.Outlooks.{words_ahead, turns_ahead}
use Rattle.rp_search.specs.declared.search.Search.{Search}
use Rattle.rp_words.specs.Mapping.{Mapping, Full, Open}
use Rattle.rp_words.specs.Mapping.{preceded}
use Rattle.rp_words.specs.Later.{IsLater}
use Rattle.rp_words.specs.LabelLaws.{IsBelow}
use Rattle.rp_pattern.specs.Choices.{start_of, entered, whole, whole_from, whole_turns, whole_turns_from, remaining, turns_left, below, turns_left_below, after, turns_left_after, AreFirstOf, AreStrictlyFirstOf, IsSameWhole}
use Rattle.rp_search.specs.declared.search.Outcome.{Outcome}
use Rattle.rp_search.specs.declared.search.Outcome.TheVariants.{Match, NoMatch, Waits, Paused}
use Rattle.rp_search.specs.Found.{Test, tested, found, Waits as FoundWaits}
use Rattle.rp_search.specs.Asked.{Asked, AreBelow, rows_from}
use Rattle.rp_search.specs.Search.{HasMoved, IsAtStart, IsSameSearch, found_by, labels_of_search, start_of_search, words_from, turns_from, most_turns}
use Rattle.rp_search.specs.Fits.{ChoicesFit, StandsBy, StandsAtRow, StandsAtRowBy, Explores, AreAdmitted, ChoicesStand, LabelsStand, LabelsBelow, MarksStand, MemoStands, SearchFits, SearchStands, test_from, unless_open, left_given, left_by}
use Rattle.rp_search.specs.Memo.{IsBlank}
use Rattle.rp_search.specs.Work.{TakeLess}
use Rattle.rp_search.specs.Turned.{AddsLabel, AreCutBack, Goes, GoesOn, IsOpenAt, IsWithinRun, Settled, Turned}
use Rattle.rp_search.proofs.ChoiceSteps.{GivesUp, now_later, finds_begun, goes_wordless, no_words}
use Rattle.rp_search.proofs.Marks.{blank_remembers}

-- a fact at the rows and the end that were read is one at those of the tests
pub at_known : (P : ℕ → End → Type 0) (n n' : ℕ) (e e' : End) → n ≡ n' → e ≡ e' → P n e → P n' e'
at_known P n n' e e' h k p = subst (λ m. P m e') h (subst (λ f. P n f) k p)

-- a search stays the same where the whole of its choices does
pub same_search : (old new : Search) → IsSameWhole old.choices new.choices → IsSameSearch old new
unfolding start_of_search words_from turns_from whole whole_from whole_turns whole_turns_from start_of
same_search old new keeps = record {
  start = keeps.start;
  pattern = record { words = keeps.pattern.words; turns = keeps.pattern.left };
  words = keeps.words;
  turns = keeps.left;
}

pub same_itself : (c : Choices) → IsSameWhole c c
same_itself c = record {
  start = refl;
  words = λ n e. refl;
  left = λ n e. refl;
  pattern = record { words = λ n e row. refl; left = λ n e row. refl; places = λ place n e row. refl };
}

pub some_label : (ls before : List Label) (last : Label) → ls ≡ before ++ last ∷ [] → 0 < length ls
some_label ls before last is = subst (λ xs. 0 < length xs) (sym is) (omega (arith, length-append before (last ∷ [])))

pub open_end : (e : End) → (e ≡ ClosedEnd → ⊥) → e ≡ OpenEnd
open_end OpenEnd h = refl
open_end ClosedEnd h = absurd (h refl)

pub below_front : (k : ℕ) (ls ms : List Label) → AreFirstOf ls ms → AreBelow k ms → AreBelow k ls
below_front k ls ms cut h = subst (λ xs. AreBelow k xs) (sym cut.1) (All-take (λ l. l.var < k) cut.0 ms h)

pub below_added : (k : ℕ) (ls : List Label) (a : AddsLabel (λ ms. AreBelow k ms) ls) → a.label.var < k → AreBelow k ls
below_added k ls a h = subst (λ xs. AreBelow k xs) (sym a.added) (All-push (λ l. l.var < k) (take a.depth a.before) a.label (All-take (λ l. l.var < k) a.depth a.before a.entered_before) h)

-- where no row is explored, the labels are tested true
pub searches_plainly : (s : Search) (asked : Asked) (start : ℕ) → start_of s.choices ≡ start → s.outlook ≡ None → ChoicesFit s.choices asked.known asked.end (asked.outcome start) → tested (asked.outcome start) (entered s.choices) ≡ True → AreBelow asked.variables (entered s.choices) → IsWithinRun s asked
unfolding ChoicesStand LabelsStand LabelsBelow
searches_plainly s asked start from none stands h below =
    record {
      fits = record {
        stands = subst (λ i. ChoicesFit s.choices asked.known asked.end (asked.outcome i)) (sym from) stands;
        labels = subst (λ l. AreAdmitted l s.choices asked.known asked.end (asked.outcome (start_of s.choices))) (sym none)
            (subst (λ i. tested (asked.outcome i) (entered s.choices) ≡ True) (sym from) h);
        below = below;
      };
      is_open = subst (λ l. IsOpenAt l s.choices (asked.outcome (start_of s.choices))) (sym none) tt;
    }

pub goes_on : (old new : Choices) (asked : Asked) → start_of new ≡ start_of old → Goes old new asked.known asked.end (asked.outcome (start_of old)) → AreBelow asked.variables (entered new) → GoesOn old new asked
goes_on old new asked from g below = record { goes = subst (λ i. Goes old new asked.known asked.end (asked.outcome i)) (sym from) g; below = below }

settled_goes : (old new : Choices) (asked : Asked) (seen : Seen) → (seen ≡ True) ⊎ (seen ≡ NotTrue) → Settled old new asked seen → GoesOn old new asked
settled_goes old new asked seen (inl e) s = subst (Settled old new asked) e s
settled_goes old new asked seen (inr e) s = subst (Settled old new asked) e s

-- where a row was settled, by the same that is asked under another name
pub searches_settled : (s : Search) (old : Choices) (asked asked' : Asked) (seen : Seen) → s.outlook ≡ None → asked' ≡ asked → (seen ≡ True) ⊎ (seen ≡ NotTrue) → Settled old s.choices asked' seen → IsWithinRun s asked
searches_settled s old asked asked' seen none same is settled =
    let g : GoesOn old s.choices asked = subst (GoesOn old s.choices) same (settled_goes old s.choices asked' seen is settled) in
    searches_plainly s asked (start_of s.choices) refl none g.goes.stands g.goes.admitted g.below

pub admitted_plainly : (c : Choices) (p : Option Outlook) (n : ℕ) (e : End) (test : Test) → p ≡ None → AreAdmitted p c n e test → tested test (entered c) ≡ True
admitted_plainly c p n e test none h = subst (λ q. AreAdmitted q c n e test) none h

pub left_plainly : (c : Choices) (p : Option Outlook) (n : ℕ) (e : End) (test : Test) → p ≡ None → left_given p c n e test ≡ turns_left c n e
left_plainly c p n e test none = ap (λ q. left_given q c n e test) none

pub fewer_plainly : (old new : Choices) (p : Option Outlook) (n : ℕ) (e : End) (test test' : Test) → p ≡ None → turns_left new n e ≤ turns_left old n e → left_given p new n e test' ≤ left_given p old n e test
fewer_plainly old new p n e test test' none h = omega (arith, h, left_plainly old p n e test none, left_plainly new p n e test' none)

-- where fewer turns are left for the choices, so are for the search
pub left_lowered : (old new : Search) (asked : Asked) → old.outlook ≡ None → new.outlook ≡ None → turns_left new.choices asked.known asked.end < turns_left old.choices asked.known asked.end → left_by new asked + 1 ≤ left_by old asked
unfolding left_by
left_lowered old new asked none none' less =
    omega (arith, less, left_plainly old.choices old.outlook asked.known asked.end (test_from old.choices asked) none, left_plainly new.choices new.outlook asked.known asked.end (test_from new.choices asked) none')

pub settled_lowers : (old new : Choices) (asked asked' : Asked) (seen : Seen) → asked' ≡ asked → (seen ≡ True) ⊎ (seen ≡ NotTrue) → Settled old new asked' seen → turns_left new asked.known asked.end < turns_left old asked.known asked.end
settled_lowers old new asked asked' seen same is settled =
    let g : GoesOn old new asked = subst (GoesOn old new) same (settled_goes old new asked' seen is settled) in
    g.goes.turns

-- while a row is explored
pub left_exploring : (c : Choices) (outlook : Outlook) (n : ℕ) (e : End) (test : Test) → test (entered c) ≡ OpenTest → left_given (Some outlook) c n e test ≡ turns_left_below c n e + turns_ahead outlook n e
left_exploring c outlook n e test h = ap (λ z. unless_open z (turns_left c n e) (turns_left_below c n e + turns_ahead outlook n e)) h

pub fewer_exploring : (c : Choices) (old new : Outlook) (n : ℕ) (e : End) (test : Test) → test (entered c) ≡ OpenTest → turns_ahead new n e ≤ turns_ahead old n e → left_given (Some new) c n e test ≤ turns_left_below c n e + turns_ahead old n e
fewer_exploring c old new n e test seen h = omega (arith, h, left_exploring c new n e test seen)

pub left_stays : (old new : Search) (asked : Asked) → new.outlook ≡ old.outlook → new.choices ≡ old.choices → left_by new asked ≤ left_by old asked
unfolding left_by
left_stays old new asked outlook choices =
    let now : left_given new.outlook new.choices asked.known asked.end (test_from new.choices asked) ≡ left_given old.outlook old.choices asked.known asked.end (test_from old.choices asked) =
    ap (λ p. left_given p new.choices asked.known asked.end (test_from new.choices asked)) outlook ∙ ap (λ c. left_given old.outlook c asked.known asked.end (test_from c asked)) choices in
    omega (arith, now)

-- a search that fits what is asked is within a run, while the row that it explores is open
pub fits_within : (old new : Search) (asked : Asked) → new.outlook ≡ old.outlook → new.choices ≡ old.choices → SearchFits old asked → IsOpenAt new.outlook new.choices (test_from new.choices asked) → IsWithinRun new asked
unfolding ChoicesStand LabelsStand LabelsBelow
fits_within old new asked outlook choices fits is_open = record {
  fits = record {
    stands = subst (λ c. StandsBy c asked) (sym choices) fits.stands;
    labels = subst (λ c. AreAdmitted new.outlook c asked.known asked.end (test_from c asked)) (sym choices)
        (subst (λ p. AreAdmitted p old.choices asked.known asked.end (test_from old.choices asked)) (sym outlook) fits.labels);
    below = subst (λ c. AreBelow asked.variables (entered c)) (sym choices) fits.below;
  };
  is_open = is_open;
}

-- to explore a row takes its turn
pub explored_lowers : (old new : Search) (outlook : Outlook) (asked : Asked) → old.outlook ≡ None → new.outlook ≡ Some outlook → new.choices ≡ old.choices → StandsAtRowBy old.choices asked →
    turns_ahead outlook asked.known asked.end ≡ turns_left_after new.choices asked.known asked.end → test_from old.choices asked (entered old.choices) ≡ OpenTest → left_by new asked + 1 ≤ left_by old asked
unfolding left_by
explored_lowers old new outlook asked none some same row ahead seen =
    let n = asked.known in
    let e = asked.end in
    let now : left_given new.outlook new.choices n e (test_from new.choices asked) ≡ left_given (Some outlook) old.choices n e (test_from old.choices asked) =
    ap (λ p. left_given p new.choices n e (test_from new.choices asked)) some ∙ ap (λ c. left_given (Some outlook) c n e (test_from c asked)) same in
    omega (arith, now, left_exploring old.choices outlook n e (test_from old.choices asked) seen, ahead, ap (λ c. turns_left_after c n e) same, row.divides.turns n e (now_later n e), left_plainly old.choices old.outlook n e (test_from old.choices asked) none)

-- a row that is settled, in place of one that was explored
settled_in : (seen : Seen) (new standing exploring : ℕ) → (seen ≡ OpenTest → ⊥) → new < standing → new ≤ unless_open seen standing exploring
settled_in True new standing exploring h k = omega arith
settled_in NotTrue new standing exploring h k = omega arith
settled_in OpenTest new standing exploring h k = absurd (h refl)

pub left_settled : (old new : Choices) (outlook : Outlook) (p q : Option Outlook) (n : ℕ) (e : End) (test : Test) → p ≡ Some outlook → q ≡ None → (test (entered old) ≡ OpenTest → ⊥) → turns_left new n e < turns_left old n e → left_given q new n e test ≤ left_given p old n e test
left_settled old new outlook p q n e test some none decided h =
    let now : left_given q new n e test ≡ turns_left new n e = left_plainly new q n e test none in
    subst (λ k. k ≤ left_given p old n e test) (sym now)
    (subst (λ r. turns_left new n e ≤ left_given r old n e test) (sym some) (settled_in (test (entered old)) (turns_left new n e) (turns_left old n e) (turns_left_below old n e + turns_ahead outlook n e) decided h))

settled_decides : (seen told : Seen) → (seen ≡ True) ⊎ (seen ≡ NotTrue) → seen ≡ told → told ≡ OpenTest → ⊥
settled_decides seen told (inl is) same is_open = let no : True ≡ OpenTest = sym is ∙ same ∙ is_open in absurd (cc)
settled_decides seen told (inr is) same is_open = let no : NotTrue ≡ OpenTest = sym is ∙ same ∙ is_open in absurd (cc)

pub left_where_settled : (old new : Search) (outlook : Outlook) (asked : Asked) (seen : Seen) → old.outlook ≡ Some outlook → new.outlook ≡ None → (seen ≡ True) ⊎ (seen ≡ NotTrue) → seen ≡ test_from old.choices asked (entered old.choices) →
    Settled old.choices new.choices asked seen → left_by new asked ≤ left_by old asked
unfolding left_by
left_where_settled old new outlook asked seen some none is told settled =
    let n = asked.known in
    let e = asked.end in
    let test = test_from old.choices asked in
    let low = left_settled old.choices new.choices outlook old.outlook new.outlook n e test some none (settled_decides seen (test (entered old.choices)) is told) (settled_lowers old.choices new.choices asked asked seen refl is settled) in
    omega (arith, low, left_plainly new.choices new.outlook n e test none, left_plainly new.choices new.outlook n e (test_from new.choices asked) none)

-- a word would follow a row
pub explored_word : (c : Choices) (outlook : Outlook) (n : ℕ) (e : End) (test : Test) → ChoicesFit c n e test → Explores c outlook n e test → test (entered c) ≡ OpenTest → 0 < words_ahead outlook n e → found test (whole c n e) ≡ FoundWaits
explored_word c outlook n e test s x seen some = finds_begun c n e test s x.row seen ((x.words n e (now_later n e)).0 some)

-- nothing would follow it
pub explored_nothing : (c d : Choices) (outlook : Outlook) (n : ℕ) (e : End) (test : Test) → ChoicesFit c n e test → Explores c outlook n e test → ((n' : ℕ) (e' : End) → words_ahead outlook n' e' ≡ 0) → IsSameWhole c d → GivesUp c d → Goes c d n e test
explored_nothing c d outlook n e test s x none keeps g =
    goes_wordless c d n e test s x.row (λ n' e' h. no_words (words_ahead outlook n' e') (after c n' e') (x.words n' e' h) (none n' e')) keeps g

-- a turn that goes on from another search, which finds the same and has no more turns left
pub turned_after : (o : Outcome) (old mid new : Search) (asked : Asked) (fewer most : ℕ) → found_by mid asked ≡ found_by old asked → fewer ≤ most → Turned 1 mid new asked fewer o → Turned 1 old new asked most o
turned_after Match old mid new asked fewer most same le t = (sym same ∙ t.0, omega (arith, le, t.1))
turned_after NoMatch old mid new asked fewer most same le t = (sym same ∙ t.0, omega (arith, le, t.1))
turned_after Waits old mid new asked fewer most same le t = (sym same ∙ t.0, t.1, omega (arith, le, t.2))
turned_after Paused old mid new asked fewer most same le t = omega (arith, le, t)

-- ---- a label that is not tested

front_below : (k : ℕ) (ls ms : List Label) → AllByRecursion (λ l. l.var < k) (ls ++ ms) → AllByRecursion (λ l. l.var < k) ls
front_below k [] ms h = tt
front_below k (l ∷ ls) ms h = (h.0, front_below k ls ms h.1)

words_behind : (P : Mapping → Type 0) (xs ys : List Mapping) → AllByRecursion P (xs ++ ys) → AllByRecursion P ys
words_behind P [] ys h = h
words_behind P (x ∷ xs) ys h = words_behind P xs ys h.1

words_before : (P : Mapping → Type 0) (xs ys : List Mapping) → AllByRecursion P (xs ++ ys) → AllByRecursion P xs
words_before P [] ys h = tt
words_before P (x ∷ xs) ys h = (h.0, words_before P xs ys h.1)

none_begins : (k : ℕ) (ls : List Label) (ws : List Mapping) → (AreBelow k ls → ⊥) → AllByRecursion (IsBelow k) (map (preceded ls) ws) → ws ≡ []
none_begins k ls [] h a = refl
none_begins k ls (Full ms ∷ ws) h a = absurd (h (All-from_recursion (λ l. l.var < k) ls (front_below k ls ms a.0)))
none_begins k ls (Open ms ∷ ws) h a = absurd (h (All-from_recursion (λ l. l.var < k) ls (front_below k ls ms a.0)))

-- no word begins with labels of which one is not among the variables of the words
pub untested_none : (c : Choices) (n : ℕ) (e : End) (test : Test) (k : ℕ) → ChoicesFit c n e test → StandsAtRow c n e test → ((n' : ℕ) (e' : End) → AllByRecursion (IsBelow k) (whole c n' e')) → (AreBelow k (entered c) → ⊥) → (n' : ℕ) (e' : End) → IsLater n e n' e' → after c n' e' ≡ []
untested_none c n e test k s r small not n' e' later =
    let b = s.words n' e' later in
    none_begins k (entered c) (after c n' e') not
    (words_before (IsBelow k) (map (preceded (entered c)) (after c n' e')) (below c n' e')
    (subst (λ ws. AllByRecursion (IsBelow k) ws) (r.divides.words n' e' later)
    (words_behind (IsBelow k) b.front (remaining c n' e') (subst (λ ws. AllByRecursion (IsBelow k) ws) b.is (small n' e')))))

take_of_take : (k d : ℕ) (ls : List Label) → k ≤ length (take d ls) → take k (take d ls) ≡ take k ls
take_of_take zero d ls h = refl
take_of_take (suc k) zero ls h = absurd (omega arith)
take_of_take (suc k) (suc d) [] h = absurd (omega arith)
take_of_take (suc k) (suc d) (l ∷ ls) h = ap (λ z. l ∷ z) (take_of_take k d ls (omega arith))

-- labels that are cut back below the one that was added
pub cut_added : (Entered : List Label → Type 0) (ls ms : List Label) → AddsLabel Entered ms → AreStrictlyFirstOf ls ms → AreCutBack Entered ls
cut_added Entered ls ms a f =
    let short : f.0 ≤ length (take a.depth a.before) = omega (arith, f.1, ap length a.added, length-append (take a.depth a.before) (a.label ∷ [])) in
    record {
      before = a.before;
      entered_before = a.entered_before;
      depth = f.0;
      cut = f.2 ∙ ap (take f.0) a.added ∙ take-append-le f.0 (take a.depth a.before) (a.label ∷ []) short ∙ take_of_take f.0 a.depth a.before short;
    }

pub below_cut : (k : ℕ) (ls : List Label) → AreCutBack (λ ms. AreBelow k ms) ls → AreBelow k ls
below_cut k ls a = subst (λ xs. AreBelow k xs) (sym a.cut) (All-take (λ l. l.var < k) a.depth a.before a.entered_before)

last_below : (k : ℕ) (ls : List Label) (l : Label) → AllByRecursion (λ m. m.var < k) (ls ++ l ∷ []) → l.var < k
last_below k [] l h = h.0
last_below k (m ∷ ls) l h = last_below k ls l h.1

-- where the last label is not tested, no word begins with these labels
pub none_untested : (k : ℕ) (before : List Label) (last : Label) (ls : List Label) (is_tested : Bool) → ls ≡ before ++ last ∷ [] → (IsTrue is_tested ↔ (last.var < k)) → is_tested ≡ false → AreBelow k ls → ⊥
none_untested k before last ls is_tested e iff untested h =
    let tested_after : IsTrue is_tested = iff.1 (last_below k before last (recursion_from_All (λ l. l.var < k) (before ++ last ∷ []) (subst (λ xs. AreBelow k xs) e h))) in
    cc

pub yes_tested : (P : Type 0) (is_tested : Bool) → (IsTrue is_tested ↔ P) → is_tested ≡ true → P
yes_tested P is_tested iff h = iff.0 h

-- ---- where a search stands

-- a search that stands at its start row
module _ (s : Search) (none : s.outlook ≡ None) (one : 1 ≤ start_of s.choices) (labels : entered s.choices ≡ []) (words : (n : ℕ) (e : End) → remaining s.choices n e ≡ whole s.choices n e) (most : (n : ℕ) (e : End) → turns_left s.choices n e ≡ whole_turns s.choices n e) where
  pub start_stands : (asked : Asked) → SearchStands s asked
  unfolding ChoicesStand LabelsStand LabelsBelow
  start_stands asked = record {
    stands = record {
      from_one = one;
      known = subst (λ ls. length ls ≤ rows_from (start_of s.choices) asked.known) (sym labels) (omega arith);
      words = λ n' e' h. record { front = []; is = sym (words n' e'); refused = tt };
      turns = λ n' e' h. omega (arith, most n' e');
    };
    labels = subst (λ l. AreAdmitted l s.choices asked.known asked.end (asked.outcome (start_of s.choices))) (sym none)
        (subst (λ ls. tested (asked.outcome (start_of s.choices)) ls ≡ True) (sym labels) refl);
    below = subst (λ ls. AreBelow asked.variables ls) (sym labels) (All-nil (λ l. l.var < asked.variables));
  }

  pub start_left : (asked : Asked) → left_by s asked ≡ most_turns s asked.known asked.end
  unfolding start_of_search turns_from left_by whole_turns whole_turns_from start_of
  start_left asked = left_plainly s.choices s.outlook asked.known asked.end (asked.outcome (start_of s.choices)) none ∙ most asked.known asked.end

  pub start_labels : labels_of_search s ≡ []
  unfolding labels_of_search
  start_labels = labels

  pub at_start : IsBlank s.memo → IsAtStart s
  unfolding MemoStands MarksStand
  at_start blank = record {
    labels = start_labels;
    fits = λ asked.
        let s' = start_stands asked in
        record { stands = s'.stands; labels = s'.labels; below = s'.below; memo = blank_remembers s.memo s.choices asked blank; marks = subst (TakeLess s.choices asked) (sym blank.marks) tt };
    left = start_left;
  }

  pub moved : (old : Search) → s.memo.marks ≡ [] → ((asked : Asked) → MemoStands old asked → MemoStands s asked) → HasMoved old s
  unfolding MarksStand
  moved old unmarked memo = record {
    labels = start_labels;
    fits = λ asked f.
        let s' = start_stands asked in
        record { stands = s'.stands; labels = s'.labels; below = s'.below; memo = memo asked f.memo; marks = subst (TakeLess s.choices asked) (sym unmarked) tt };
    left = start_left;
  }

-- where a row's test is open, and what would follow it is explored
pub searches_exploring : (s : Search) (outlook : Outlook) (asked : Asked) → s.outlook ≡ Some outlook → StandsBy s.choices asked → StandsAtRowBy s.choices asked → AreBelow asked.variables (entered s.choices) → ((n : ℕ) (e : End) → words_ahead outlook n e ≡ length (after s.choices n e)) → ((n : ℕ) (e : End) → turns_ahead outlook n e ≡ turns_left_after s.choices n e) → test_from s.choices asked (entered s.choices) ≡ OpenTest → IsWithinRun s asked
unfolding ChoicesStand LabelsStand LabelsBelow
searches_exploring s outlook asked some stands row below words turns seen =
    record {
      fits = record {
        stands = stands;
        labels = subst (λ l. AreAdmitted l s.choices asked.known asked.end (asked.outcome (start_of s.choices))) (sym some)
            (record { row = row; words = λ n' e' h. (λ k. omega (arith, words n' e', k), λ k. omega (arith, words n' e', k)); turns = λ n' e' h. omega (arith, turns n' e') });
        below = below;
      };
      is_open = subst (λ l. IsOpenAt l s.choices (asked.outcome (start_of s.choices))) (sym some) seen;
    }
