-- Words that fail.
use Rattle.std.specs.List.{AllByRecursion}
use Rattle.std.specs.Prelude.{◌≢◌}
use Rattle.std.proofs.Common.{map, ◌≡◌, ℕ, zero, suc, ◌+◌, ◌<◌, ◌≤◌, List, [], ◌∷◌, ◌++◌, length, take, refl, sym, ap, ◌∙◌, subst, arith, append_assoc, length-append, ◌⊎◌, inl, inr}
use Rattle.rp_words.specs.declared.word.Label.{Label}
use Rattle.rp_words.specs.declared.word.End.{End}
use Rattle.rp_words.specs.declared.word.Seen.{Seen}
use Rattle.rp_words.specs.declared.word.Seen.TheVariants.{True, NotTrue, Open as OpenTest}
use Rattle.rp_words.specs.Mapping.{Mapping, Full, labels_of, preceded}
use Rattle.rp_search.specs.Found.{Test, first_not_true, tested}
use Rattle.rp_search.specs.SeenStays.{SeenStays}
use Rattle.rp_search.specs.Asked.{Asked, AskedExtend, StayFromEach, rows_from}
use Rattle.rp_search.specs.Refused.{IsRefusedWithin}
use Rattle.rp_search.specs.Lasting.{Says, RefusalLasts, IsDecided, AreDecided, OpensAlike, LastsUntil, Fails, AreDead, WordsOver, FailsUpTo, IsMarked, IsPassed}
use Rattle.rp_search.proofs.Tested.{All-mapped, labels_of-preceded}
use Rattle.rp_search.proofs.ChoiceSteps.{later_still, true_later}

-- ---- labels of which none before the refused one is open

-- none of these labels' tests is open, behind others
abbrev NoneOpen : Test → List Label → Type 0
NoneOpen t [] = Unit {0}
NoneOpen t (l ∷ ls) = (t (l ∷ []) ≢ OpenTest) × NoneOpen (λ ms. t (l ∷ ms)) ls

refuses : (ls rest : List Label) (l : Label) (t : Test) (r : ℕ) → length ls < r → NoneOpen t ls → t (ls ++ l ∷ []) ≡ NotTrue → tested t (take r (ls ++ l ∷ rest)) ≡ NotTrue
refuses ls rest l t zero lt d h = absurd (omega (arith, lt))
refuses [] rest l t (suc r) lt d h = ap (λ z. first_not_true z (tested (λ ms. t (l ∷ ms)) (take r rest))) h
refuses (m ∷ ls) rest l t (suc r) lt d h = go (t (m ∷ [])) d.0 (refuses ls rest l (λ ms. t (m ∷ ms)) r (omega (arith, lt)) d.1 h)
  where
    go : (x : Seen) → x ≢ OpenTest → tested (λ ms. t (m ∷ ms)) (take r (ls ++ l ∷ rest)) ≡ NotTrue → first_not_true x (tested (λ ms. t (m ∷ ms)) (take r (ls ++ l ∷ rest))) ≡ NotTrue
    go True n k = k
    go NotTrue n k = refl
    go OpenTest n k = absurd (n refl)

none-append : (xs ys : List Label) (t : Test) → NoneOpen t xs → NoneOpen (λ ms. t (xs ++ ms)) ys → NoneOpen t (xs ++ ys)
none-append [] ys t h k = k
none-append (x ∷ xs) ys t h k = (h.0, none-append xs ys (λ ms. t (x ∷ ms)) h.1 k)

first_head : (a x : Seen) → first_not_true a x ≡ True → a ≡ True
first_head True x h = refl
first_head NotTrue x h = h
first_head OpenTest x h = h

first_tail : (a x : Seen) → first_not_true a x ≡ True → x ≡ True
first_tail True x h = h
first_tail NotTrue x h = cc
first_tail OpenTest x h = cc

not_open : (x : Seen) → x ≡ True → x ≢ OpenTest
not_open x h e = cc

none-true : (ls : List Label) (t : Test) → tested t ls ≡ True → NoneOpen t ls
none-true [] t h = tt
none-true (l ∷ ls) t h =
    (not_open (t (l ∷ [])) (first_head (t (l ∷ [])) (tested (λ ms. t (l ∷ ms)) ls) h), none-true ls (λ ms. t (l ∷ ms)) (first_tail (t (l ∷ [])) (tested (λ ms. t (l ∷ ms)) ls) h))

-- each label that is tested true is so
true_in : (xs : List Label) (l : Label) (ys : List Label) (t : Test) → tested t (xs ++ l ∷ ys) ≡ True → t (xs ++ l ∷ []) ≡ True
true_in [] l ys t h = first_head (t (l ∷ [])) (tested (λ ms. t (l ∷ ms)) ys) h
true_in (x ∷ xs) l ys t h = true_in xs l ys (λ ms. t (x ∷ ms)) (first_tail (t (x ∷ [])) (tested (λ ms. t (x ∷ ms)) (xs ++ l ∷ ys)) h)

-- ---- a word that fails is refused

module _ (Meant : ℕ → ℕ → End → Mapping → Type 0) (asked : Asked) (from until start n : ℕ) (e : End) (le : from ≤ start) (lt : start < until) (w : Mapping) (meant : Meant start n e w) where
  decided_here : (before ls after : List Label) (row : ℕ) → start + length before ≡ row → labels_of w ≡ before ++ (ls ++ after) → AreDecided Meant asked from until row ls → NoneOpen (λ ms. asked.outcome start (before ++ ms)) ls
  decided_here before [] after row at is d = tt
  decided_here before (l ∷ ls) after row at is d = (
    d.0 start n e w before (ls ++ after) le lt at meant is,
    let same : (ms : List Label) → (before ++ l ∷ []) ++ ms ≡ before ++ l ∷ ms = λ ms. append_assoc before (l ∷ []) ms in
        subst (λ t. NoneOpen t ls) (λ i ms. asked.outcome start (same ms i))
        (decided_here (before ++ l ∷ []) ls after (suc row) (omega (arith, at, length-append before (l ∷ []))) (is ∙ sym (same (ls ++ after))) d.1),
  )

-- A word that fails is refused on known rows behind labels that are tested true.
pub failing_is_refused : (Meant : ℕ → ℕ → End → Mapping → Type 0) (asked : Asked) (from until start n : ℕ) (e : End) (before : List Label) (w : Mapping) → from ≤ start → start < until →
    tested (asked.outcome start) before ≡ True → length before ≤ rows_from start asked.known → Meant start n e (preceded before w) → Fails Meant asked from until (start + length before) w →
    IsRefusedWithin (rows_from start asked.known) (asked.outcome start) (preceded before w)
failing_is_refused Meant asked from until start n e before w le lt true_ within meant f =
    let t = asked.outcome start in
    let r = rows_from start asked.known in
    let is : labels_of (preceded before w) ≡ before ++ (f.front ++ f.label ∷ f.rest) = labels_of-preceded before w ∙ ap (λ ls. before ++ ls) f.is in
    let is' : labels_of (preceded before w) ≡ (before ++ f.front) ++ f.label ∷ f.rest = is ∙ sym (append_assoc before f.front (f.label ∷ f.rest)) in
    let none : NoneOpen t (before ++ f.front) =
    none-append before f.front t (none-true before t true_)
    (decided_here Meant asked from until start n e le lt (preceded before w) meant before f.front (f.label ∷ f.rest) (start + length before) refl is f.decided) in
    let not : t ((before ++ f.front) ++ f.label ∷ []) ≡ NotTrue =
    f.refused start n e (preceded before w) (before ++ f.front) f.rest le lt (omega (arith, length-append before f.front)) meant is' in
    subst (λ ls. tested t (take r ls) ≡ NotTrue) (sym is')
    (refuses (before ++ f.front) f.rest f.label t r (omega (arith, f.known, length-append before f.front)) none not)

-- ---- from fewer start rows, and later

less_decided : (Meant : ℕ → ℕ → End → Mapping → Type 0) (asked : Asked) (from from' until until' row : ℕ) (ls : List Label) → from ≤ from' → until' ≤ until → AreDecided Meant asked from until row ls → AreDecided Meant asked from' until' row ls
less_decided Meant asked from from' until until' row [] le le' d = tt
less_decided Meant asked from from' until until' row (l ∷ ls) le le' d = (
  λ start n e w before after a b. d.0 start n e w before after (omega (arith, le, a)) (omega (arith, le', b)),
  less_decided Meant asked from from' until until' (suc row) ls le le' d.1,
)

-- What fails, fails from fewer start rows.
pub fails_less : (Meant : ℕ → ℕ → End → Mapping → Type 0) (asked : Asked) (from from' until until' row : ℕ) (w : Mapping) → from ≤ from' → until' ≤ until → Fails Meant asked from until row w → Fails Meant asked from' until' row w
fails_less Meant asked from from' until until' row w le le' f =
    record {
      front = f.front;
      label = f.label;
      rest = f.rest;
      is = f.is;
      known = f.known;
      refused = λ start n e v before after a b. f.refused start n e v before after (omega (arith, le, a)) (omega (arith, le', b));
      decided = less_decided Meant asked from from' until until' row f.front le le' f.decided;
    }

decided_stays : (x y : Seen) → SeenStays x y → x ≢ OpenTest → y ≢ OpenTest
decided_stays True y s n e = cc
decided_stays NotTrue y s n e = cc
decided_stays OpenTest y s n e = n refl

refused_stays : (x y : Seen) → SeenStays x y → x ≡ NotTrue → y ≡ NotTrue
refused_stays True y s e = cc
refused_stays NotTrue y s e = s
refused_stays OpenTest y s e = cc

module _ (Meant : ℕ → ℕ → End → Mapping → Type 0) (old new : Asked) (from until : ℕ) (stay : StayFromEach from old new) where
  still : (Such : Seen → Type 0) (row : ℕ) (label : Label) → row ≤ old.known → ((a b : Seen) → SeenStays a b → Such a → Such b) → Says Meant old Such from until row label → Says Meant new Such from until row label
  still Such row label known keeps s start n e w before after le lt at meant is =
      keeps (old.outcome start (before ++ label ∷ [])) (new.outcome start (before ++ label ∷ []))
      (stay start le (before ++ label ∷ []) (omega (arith, known, at, length-append before (label ∷ []))))
      (s start n e w before after le lt at meant is)

  still_decided : (row : ℕ) (ls : List Label) → row + length ls ≤ suc old.known → AreDecided Meant old from until row ls → AreDecided Meant new from until row ls
  still_decided row [] known d = tt
  still_decided row (l ∷ ls) known d =
      (still (λ seen. seen ≢ OpenTest) row l (omega (arith, known)) decided_stays d.0, still_decided (suc row) ls (omega (arith, known)) d.1)

-- What fails, fails whatever comes later.
pub fails_still : (Meant : ℕ → ℕ → End → Mapping → Type 0) (old new : Asked) (from until row : ℕ) (w : Mapping) → AskedExtend from old new → StayFromEach from old new → Fails Meant old from until row w → Fails Meant new from until row w
fails_still Meant old new from until row w x stay f =
    record {
      front = f.front;
      label = f.label;
      rest = f.rest;
      is = f.is;
      known = omega (arith, f.known, x.later.0);
      refused = still Meant old new from until stay (λ seen. seen ≡ NotTrue) (row + length f.front) f.label f.known refused_stays f.refused;
      decided = still_decided Meant old new from until stay row f.front (omega (arith, f.known)) f.decided;
    }

-- ---- what was passed over

-- Where a row is refused and that lasts, the words behind the labels before it were passed over.
pub refused_row_fails : (Meant : ℕ → ℕ → End → Mapping → Type 0) (asked : Asked) (start until : ℕ) (before : List Label) (label : Label) (after : List Label) (w : Mapping) →
    labels_of w ≡ before ++ label ∷ after → tested (asked.outcome start) before ≡ True → start + length before ≤ asked.known →
    RefusalLasts Meant asked start until (start + length before) label → IsPassed Meant asked start until w
refused_row_fails Meant asked start until before label after w is true_ known lasts =
    record {
      before = before;
      rest = Full (label ∷ after);
      is = is;
      admitted = true_;
      fails = record {
        front = [];
        label = label;
        rest = after;
        is = refl;
        known = omega (arith, known);
        refused = subst (λ row. RefusalLasts Meant asked start until row label) (omega arith) lasts;
        decided = tt;
      };
    }

-- labels of known rows that are tested true are decided
admitted_decided : (Meant : ℕ → ℕ → End → Mapping → Type 0) (asked : Asked) (start until n : ℕ) (e : End) (w : Mapping) → OpensAlike Meant asked → Meant start n e w →
    (before ls after : List Label) (row : ℕ) → start + length before ≡ row → row + length ls ≤ suc asked.known → labels_of w ≡ before ++ (ls ++ after) → tested (λ ms. asked.outcome start (before ++ ms)) ls ≡ True → AreDecided Meant asked start until row ls
admitted_decided Meant asked start until n e w alike meant before [] after row at known is true_ = tt
admitted_decided Meant asked start until n e w alike meant before (l ∷ ls) after row at known is true_ =
    let t : Test = λ ms. asked.outcome start (before ++ ms) in
    let same : (ms : List Label) → (before ++ l ∷ []) ++ ms ≡ before ++ l ∷ ms = λ ms. append_assoc before (l ∷ []) ms in (
      subst (λ r. IsDecided Meant asked start until r l) at
          (alike start n e w before (ls ++ after) l meant is (omega (arith, at, known)) (first_head (t (l ∷ [])) (tested (λ ms. t (l ∷ ms)) ls) true_) start until),
      admitted_decided Meant asked start until n e w alike meant (before ++ l ∷ []) ls after (suc row) (omega (arith, at, length-append before (l ∷ []))) (omega (arith, known)) (is ∙ sym (same (ls ++ after)))
          (subst (λ u. tested u ls ≡ True) (λ i ms. asked.outcome start (sym (same ms) i)) (first_tail (t (l ∷ [])) (tested (λ ms. t (l ∷ ms)) ls) true_)),
    )

decided_append : (Meant : ℕ → ℕ → End → Mapping → Type 0) (asked : Asked) (from until row : ℕ) (xs ys : List Label) → AreDecided Meant asked from until row xs → AreDecided Meant asked from until (row + length xs) ys → AreDecided Meant asked from until row (xs ++ ys)
decided_append Meant asked from until row [] ys h k = subst (λ r. AreDecided Meant asked from until r ys) (omega arith) k
decided_append Meant asked from until row (x ∷ xs) ys h k = (h.0, decided_append Meant asked from until (suc row) xs ys h.1 (subst (λ r. AreDecided Meant asked from until r ys) (omega arith) k))

decided_after : (Meant : ℕ → ℕ → End → Mapping → Type 0) (asked : Asked) (from until row : ℕ) (xs ys : List Label) → AreDecided Meant asked from until row (xs ++ ys) → AreDecided Meant asked from until (row + length xs) ys
decided_after Meant asked from until row [] ys h = subst (λ r. AreDecided Meant asked from until r ys) (omega arith) h
decided_after Meant asked from until row (x ∷ xs) ys h = subst (λ r. AreDecided Meant asked from until r ys) (omega arith) (decided_after Meant asked from until (suc row) xs ys h.1)

-- Two fronts of the same labels: one is the other and more.
abbrev Splits : List Label → Label → List Label → List Label → List Label → Type 0
Splits xs l ys front bs = ((mid : List Label) × (xs ≡ front ++ mid) × (bs ≡ mid ++ l ∷ ys)) ⊎ ((mid : List Label) × (front ≡ xs ++ l ∷ mid))

head_same : (a b : Label) (xs ys : List Label) → a ∷ xs ≡ b ∷ ys → a ≡ b
head_same a b xs ys e = cc

tail_same : (a b : Label) (xs ys : List Label) → a ∷ xs ≡ b ∷ ys → xs ≡ ys
tail_same a b xs ys e = cc

splits : (xs : List Label) (l : Label) (ys front bs : List Label) → xs ++ l ∷ ys ≡ front ++ bs → Splits xs l ys front bs
splits xs l ys [] bs e = inl (xs, refl, sym e)
splits [] l ys (a ∷ front) bs e = inr (front, ap (λ m. m ∷ front) (sym (head_same l a ys (front ++ bs) e)))
splits (x ∷ xs) l ys (a ∷ front) bs e = go (splits xs l ys front bs (tail_same x a (xs ++ l ∷ ys) (front ++ bs) e))
  where
    same : x ≡ a
    same = head_same x a (xs ++ l ∷ ys) (front ++ bs) e

    go : Splits xs l ys front bs → Splits (x ∷ xs) l ys (a ∷ front) bs
    go (inl s) = inl (s.0, ap (λ m. m ∷ xs) same ∙ ap (λ ms. a ∷ ms) s.1, s.2)
    go (inr s) = inr (s.0, ap (λ m. m ∷ front) (sym same) ∙ ap (λ ms. x ∷ ms) s.1)

-- What was passed over fails from the row of each mark that it is above.
pub passed_fails : (Meant : ℕ → ℕ → End → Mapping → Type 0) (asked : Asked) (start until n : ℕ) (e : End) (before : List Label) (w : Mapping) → OpensAlike Meant asked → start < until →
    Meant start n e (preceded before w) → tested (asked.outcome start) before ≡ True →
    IsPassed Meant asked start until (preceded before w) → Fails Meant asked start until (start + length before) w
passed_fails Meant asked start until n e before w alike lt meant true_ p = go (splits (p.before ++ f.front) f.label f.rest before (labels_of w) (sym is' ∙ labels_of-preceded before w))
  where
    f : Fails Meant asked start until (start + length p.before) p.rest
    f = p.fails

    whole : Mapping
    whole = preceded before w

    is : labels_of whole ≡ p.before ++ (f.front ++ f.label ∷ f.rest)
    is = p.is ∙ ap (λ ls. p.before ++ ls) f.is

    is' : labels_of whole ≡ (p.before ++ f.front) ++ f.label ∷ f.rest
    is' = is ∙ sym (append_assoc p.before f.front (f.label ∷ f.rest))

    all_decided : AreDecided Meant asked start until start (p.before ++ f.front)
    all_decided =
        decided_append Meant asked start until start p.before f.front
        (admitted_decided Meant asked start until n e whole alike meant [] p.before (f.front ++ f.label ∷ f.rest) start (omega arith) (omega (arith, f.known)) is p.admitted)
        f.decided

    go : Splits (p.before ++ f.front) f.label f.rest before (labels_of w) → Fails Meant asked start until (start + length before) w
    go (inl s) =
        let size : length p.before + length f.front ≡ length before + length s.0 = sym (length-append p.before f.front) ∙ ap (λ ls. length ls) s.1 ∙ length-append before s.0 in
        record {
          front = s.0;
          label = f.label;
          rest = f.rest;
          is = s.2;
          known = omega (arith, f.known, size);
          refused = subst (λ row. RefusalLasts Meant asked start until row f.label) (omega (arith, size)) f.refused;
          decided = decided_after Meant asked start until start before s.0 (subst (λ ls. AreDecided Meant asked start until start ls) s.1 all_decided);
        }
    go (inr s) =
        let yes : asked.outcome start ((p.before ++ f.front) ++ f.label ∷ []) ≡ True = true_in (p.before ++ f.front) f.label s.0 (asked.outcome start) (subst (λ ls. tested (asked.outcome start) ls ≡ True) s.1 true_) in
        let no : asked.outcome start ((p.before ++ f.front) ++ f.label ∷ []) ≡ NotTrue =
        f.refused start n e whole (p.before ++ f.front) f.rest (omega arith) lt (omega (arith, length-append p.before f.front)) meant is' in
        absurd (let c : True ≡ NotTrue = sym yes ∙ no in cc)

-- ---- a mark above which nothing is left

no_more : (xs : List Mapping) → xs ++ [] ≡ xs
no_more [] = refl
no_more (x ∷ xs) = ap (λ ys. x ∷ ys) (no_more xs)

none_mapped : (before : List Label) (xs : List Mapping) → map (preceded before) xs ≡ [] → xs ≡ []
none_mapped before [] e = refl
none_mapped before (x ∷ xs) e = cc

-- Where no word is left above a mark, its words are dead.
pub marked_is_dead : (Meant : ℕ → ℕ → End → Mapping → Type 0) (ws over : WordsOver) (asked : Asked) (start until : ℕ) (before : List Label) → IsMarked Meant ws over asked start until before →
    ((n : ℕ) (e : End) → over n e ≡ []) → AreDead Meant ws asked start until (start + length before)
marked_is_dead Meant ws over asked start until before m none n e later =
    let u = m.words n e later in
    let gone : u.rest ≡ [] = none_mapped before u.rest (u.over_is ∙ none n e) in
    subst (AllByRecursion (Fails Meant asked start until (start + length before))) (sym (u.is ∙ ap (λ xs. u.front ++ xs) gone ∙ no_more u.front)) u.fail

-- ---- what is passed over above a mark

pub All-less : {X : Type 0} (P : X → Type 0) (xs ys : List X) → AllByRecursion P (xs ++ ys) → AllByRecursion P ys
All-less P [] ys h = h
All-less P (x ∷ xs) ys h = All-less P xs ys h.1

All-more : {X : Type 0} (P : X → Type 0) (xs ys : List X) → AllByRecursion P xs → AllByRecursion P ys → AllByRecursion P (xs ++ ys)
All-more P [] ys h k = k
All-more P (x ∷ xs) ys h k = (h.0, All-more P xs ys h.1 k)

-- Some words before the rest fail, so more of them do: those that were passed over next.
module _ (Meant : ℕ → ℕ → End → Mapping → Type 0) (asked : Asked) (start until n : ℕ) (e : End) (before : List Label) (alike : OpensAlike Meant asked) (lt : start < until) (true_ : tested (asked.outcome start) before ≡ True) where
  fails_next : (front rest : List Mapping) (passed over : List Mapping) → AllByRecursion (λ w. Meant start n e (preceded before w)) rest → AllByRecursion (Fails Meant asked start until (start + length before)) front →
      map (preceded before) rest ≡ passed ++ over → AllByRecursion (IsPassed Meant asked start until) passed → FailsUpTo Meant asked start until (start + length before) before (front ++ rest) over
  fails_next front rest [] over m f is p = record { front = front; rest = rest; is = refl; over_is = is; fail = f }
  fails_next front [] (v ∷ passed) over m f is p = absurd cc
  fails_next front (w ∷ rest) (v ∷ passed) over m f is p =
      let head : v ≡ preceded before w = cc in
      let tail : map (preceded before) rest ≡ passed ++ over = cc in
      let own : Fails Meant asked start until (start + length before) w =
      passed_fails Meant asked start until n e before w alike lt m.0 true_ (subst (IsPassed Meant asked start until) head p.0) in
      subst (λ ws. FailsUpTo Meant asked start until (start + length before) before ws over) (append_assoc front (w ∷ []) rest)
      (fails_next (front ++ w ∷ []) rest passed over m.1 (All-more (Fails Meant asked start until (start + length before)) front (w ∷ []) f (own, tt)) tail p.1)

  pub fails_again : (ws over passed over' : List Mapping) → AllByRecursion (λ w. Meant start n e (preceded before w)) ws → FailsUpTo Meant asked start until (start + length before) before ws over →
      over ≡ passed ++ over' → AllByRecursion (IsPassed Meant asked start until) passed → FailsUpTo Meant asked start until (start + length before) before ws over'
  fails_again ws over passed over' m u is p =
      subst (λ xs. FailsUpTo Meant asked start until (start + length before) before xs over') (sym u.is)
      (fails_next u.front u.rest passed over'
      (All-less (λ w. Meant start n e (preceded before w)) u.front u.rest (subst (AllByRecursion (λ w. Meant start n e (preceded before w))) u.is m))
      u.fail (u.over_is ∙ is) p)

pub passed_less : (Meant : ℕ → ℕ → End → Mapping → Type 0) (asked : Asked) (start until until' : ℕ) (w : Mapping) → until' ≤ until → IsPassed Meant asked start until w → IsPassed Meant asked start until' w
passed_less Meant asked start until until' w le p =
    record { before = p.before; rest = p.rest; is = p.is; admitted = p.admitted; fails = fails_less Meant asked start start until until' (start + length p.before) p.rest (omega arith) le p.fails }

-- what is dead stays so over whatever comes later
pub dead_stay : (Meant : ℕ → ℕ → End → Mapping → Type 0) (ws : WordsOver) (old new : Asked) (from until row : ℕ) → AskedExtend from old new → StayFromEach from old new → AreDead Meant ws old from until row → AreDead Meant ws new from until row
dead_stay Meant ws old new from until row x stay d n e h =
    All-mapped (Fails Meant old from until row) (Fails Meant new from until row) (λ w f. fails_still Meant old new from until row w x stay f) (ws n e)
    (d n e (later_still old.known new.known n old.end new.end e x.later h))

pub dead_less : (Meant : ℕ → ℕ → End → Mapping → Type 0) (ws : WordsOver) (asked : Asked) (from from' until row : ℕ) → from ≤ from' → AreDead Meant ws asked from until row → AreDead Meant ws asked from' until row
dead_less Meant ws asked from from' until row le d n e h =
    All-mapped (Fails Meant asked from until row) (Fails Meant asked from' until row) (λ w f. fails_less Meant asked from from' until until row w le (omega arith) f) (ws n e) (d n e h)

-- a mark stays over whatever comes later
pub marks_stay_later : (Meant : ℕ → ℕ → End → Mapping → Type 0) (ws over : WordsOver) (old new : Asked) (start until : ℕ) (before : List Label) → AskedExtend start old new → StayFromEach start old new → IsMarked Meant ws over old start until before → IsMarked Meant ws over new start until before
marks_stay_later Meant ws over old new start until before x stay m =
    record {
      admitted = true_later old.known new.known old.end new.end (old.outcome start) (new.outcome start) x.later before (rows_from start old.known) x.stay m.known m.admitted;
      known = omega (arith, m.known, x.later.0);
      from_one = m.from_one;
      words = λ n e h.
          let u = m.words n e (later_still old.known new.known n old.end new.end e x.later h) in
          record {
            front = u.front;
            rest = u.rest;
            is = u.is;
            over_is = u.over_is;
            fail = All-mapped (Fails Meant old start until (start + length before)) (Fails Meant new start until (start + length before)) (λ w f. fails_still Meant old new start until (start + length before) w x stay f) u.front u.fail;
          };
    }

-- ---- among fewer words that are meant

module _ (Meant Meant' : ℕ → ℕ → End → Mapping → Type 0) (less : (s n : ℕ) (e : End) (w : Mapping) → Meant' s n e w → Meant s n e w) (asked : Asked) where
  pub says_less : (Such : Seen → Type 0) (from until row : ℕ) (label : Label) → Says Meant asked Such from until row label → Says Meant' asked Such from until row label
  says_less Such from until row label s start n e w before after le lt at meant is = s start n e w before after le lt at (less start n e w meant) is

  pub alike_less : OpensAlike Meant asked → OpensAlike Meant' asked
  alike_less a start n e w before after label meant is known true_ from until =
      says_less (λ seen. seen ≢ OpenTest) from until (start + length before) label (a start n e w before after label (less start n e w meant) is known true_ from until)

  pub lasts_less : (start until : ℕ) (labels : List Label) → LastsUntil Meant asked start labels until → LastsUntil Meant' asked start labels until
  lasts_less start until labels l before label after n e w is meant begins =
      says_less (λ seen. seen ≡ NotTrue) start until (start + length before) label (l before label after n e w is (less start n e w meant) begins)

  decided_less : (from until row : ℕ) (ls : List Label) → AreDecided Meant asked from until row ls → AreDecided Meant' asked from until row ls
  decided_less from until row [] d = tt
  decided_less from until row (l ∷ ls) d = (says_less (λ seen. seen ≢ OpenTest) from until row l d.0, decided_less from until (suc row) ls d.1)

  pub fails_of_less : (from until row : ℕ) (w : Mapping) → Fails Meant asked from until row w → Fails Meant' asked from until row w
  fails_of_less from until row w f =
      record {
        front = f.front;
        label = f.label;
        rest = f.rest;
        is = f.is;
        known = f.known;
        refused = says_less (λ seen. seen ≡ NotTrue) from until (row + length f.front) f.label f.refused;
        decided = decided_less from until row f.front f.decided;
      }

  pub dead_of_less : (ws ws' : WordsOver) (from until row : ℕ) → ((n : ℕ) (e : End) → ws' n e ≡ ws n e) → AreDead Meant ws asked from until row → AreDead Meant' ws' asked from until row
  dead_of_less ws ws' from until row same d n e h =
      subst (AllByRecursion (Fails Meant' asked from until row)) (sym (same n e))
      (All-mapped (Fails Meant asked from until row) (Fails Meant' asked from until row) (λ w f. fails_of_less from until row w f) (ws n e) (d n e h))
