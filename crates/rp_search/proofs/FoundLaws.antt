-- What a search has found stays, and one that waits goes on from its word.
use Rattle.std.specs.List.{AllByRecursion}
use Rattle.std.proofs.Common.{◌≡◌, ℕ, ◌≤◌, List, [], ◌∷◌, ◌++◌, length, refl, sym, ap, ◌∙◌, subst, arith}
use Rattle.std.specs.Prelude.{◌≢◌}
use Rattle.rp_words.specs.declared.word.Label.{Label}
use Rattle.rp_words.specs.declared.word.Seen.{Seen}
use Rattle.rp_words.specs.declared.word.Seen.TheVariants.{True, NotTrue, Open as OpenTest}
use Rattle.rp_words.specs.Mapping.{Mapping, Full, Open, labels_of}
use Rattle.rp_words.specs.WordLaws.{IsFull, BeginsWith, Extends, done, stays, gone, grows}
use Rattle.rp_search.specs.Found.{Test, first_not_true, tested, status, status_from, Good, Refused, Found, Match, Waits, unless_refused, found}
use Rattle.rp_search.specs.FoundLaws.{AreShort, from_status, unrefused, Resumes, IsFirstMatch}
use Rattle.rp_search.specs.SeenStays.{SeenStays, TestsStay}

first_stays : (a b x y : Seen) → SeenStays a b → SeenStays x y → SeenStays (first_not_true a x) (first_not_true b y)
first_stays True b x y s t = subst (λ z. SeenStays x (first_not_true z y)) (sym s) t
first_stays NotTrue b x y s t = subst (λ z. first_not_true z y ≡ NotTrue) (sym s) refl
first_stays OpenTest b x y s t = tt

pub tested_stays : (ls : List Label) (old new : Test) → TestsStay (length ls) old new → SeenStays (tested old ls) (tested new ls)
tested_stays [] old new s = refl
tested_stays (l ∷ ls) old new s =
    first_stays (old (l ∷ [])) (new (l ∷ [])) (tested (λ ms. old (l ∷ ms)) ls) (tested (λ ms. new (l ∷ ms)) ls) (s (l ∷ []) (omega arith))
    (tested_stays ls (λ ms. old (l ∷ ms)) (λ ms. new (l ∷ ms)) (λ ms h. s (l ∷ ms) (omega arith)))

pub first_refused : (a b x y : Seen) → SeenStays a b → (x ≡ NotTrue → y ≡ NotTrue) → first_not_true a x ≡ NotTrue → first_not_true b y ≡ NotTrue
first_refused True b x y s h k = subst (λ z. first_not_true z y ≡ NotTrue) (sym s) (h k)
first_refused NotTrue b x y s h k = subst (λ z. first_not_true z y ≡ NotTrue) (sym s) refl
first_refused OpenTest b x y s h k = cc

-- labels that are refused are refused in every word that begins with them
pub tested_refused : (ls rest : List Label) (old new : Test) → TestsStay (length ls) old new → tested old ls ≡ NotTrue → tested new (ls ++ rest) ≡ NotTrue
tested_refused [] rest old new s h = cc
tested_refused (l ∷ ls) rest old new s h =
    first_refused (old (l ∷ [])) (new (l ∷ [])) (tested (λ ms. old (l ∷ ms)) ls) (tested (λ ms. new (l ∷ ms)) (ls ++ rest)) (s (l ∷ []) (omega arith))
    (tested_refused ls rest (λ ms. old (l ∷ ms)) (λ ms. new (l ∷ ms)) (λ ms k. s (l ∷ ms) (omega arith))) h

word_refused : (ls : List Label) (w : Mapping) (old new : Test) → TestsStay (length ls) old new → BeginsWith ls w → tested old ls ≡ NotTrue → tested new (labels_of w) ≡ NotTrue
word_refused ls w old new s b h = subst (λ ms. tested new ms ≡ NotTrue) b.begins (tested_refused ls b.rest old new s h)

pub passed_over : (w : Mapping) (y : Seen) (b : Found) → y ≡ NotTrue → unless_refused w (status_from w y) b ≡ b
passed_over (Full ls) y b e = ap (λ z. unless_refused (Full ls) (status_from (Full ls) z) b) e
passed_over (Open ls) y b e = ap (λ z. unless_refused (Open ls) (status_from (Open ls) z) b) e

full_stays : (ls : List Label) (x y : Seen) → SeenStays x y → (a b : Found) → (a ≢ Waits → b ≡ a) → unless_refused (Full ls) (status_from (Full ls) x) a ≢ Waits → unless_refused (Full ls) (status_from (Full ls) y) b ≡ unless_refused (Full ls) (status_from (Full ls) x) a
full_stays ls True y s a b h k = ap (λ z. unless_refused (Full ls) (status_from (Full ls) z) b) s
full_stays ls NotTrue y s a b h k = passed_over (Full ls) y b s ∙ h k
full_stays ls OpenTest y s a b h k = absurd (k refl)

open_gone : (ls : List Label) (x : Seen) (a b : Found) → (a ≢ Waits → b ≡ a) → unless_refused (Open ls) (status_from (Open ls) x) a ≢ Waits → b ≡ unless_refused (Open ls) (status_from (Open ls) x) a
open_gone ls True a b h k = absurd (k refl)
open_gone ls NotTrue a b h k = h k
open_gone ls OpenTest a b h k = absurd (k refl)

open_grows : (ls : List Label) (w : Mapping) (x y : Seen) → (x ≡ NotTrue → y ≡ NotTrue) → (a b : Found) → (unless_refused (Open ls) (status_from (Open ls) x) a ≢ Waits → b ≡ unless_refused (Open ls) (status_from (Open ls) x) a) → unless_refused (Open ls) (status_from (Open ls) x) a ≢ Waits → unless_refused w (status_from w y) b ≡ unless_refused (Open ls) (status_from (Open ls) x) a
open_grows ls w True y r a b h k = absurd (k refl)
open_grows ls w NotTrue y r a b h k = passed_over w y b (r refl) ∙ h k
open_grows ls w OpenTest y r a b h k = absurd (k refl)

module _ (rows : ℕ) (old new : Test) (s : TestsStay rows old new) where
  on_word : (ls : List Label) → length ls ≤ rows → TestsStay (length ls) old new
  on_word ls h ms k = s ms (omega arith)

  pub found_stays : {ws ws' : List Mapping} → AreShort rows ws → Extends ws ws' → found old ws ≢ Waits → found new ws' ≡ found old ws
  found_stays a done k = refl
  found_stays a (stays {ls = ls} {old = ws} {new = ws'} r) k = full_stays ls (tested old ls) (tested new ls) (tested_stays ls old new (on_word ls a.0)) (found old ws) (found new ws') (found_stays a.1 r) k
  found_stays a (gone {ls = ls} {old = ws} {new = ws'} r) k = open_gone ls (tested old ls) (found old ws) (found new ws') (found_stays a.1 r) k
  found_stays a (grows {ls = ls} {w = w} {old = ws} {new = ws'} b r) k =
      open_grows ls w (tested old ls) (tested new (labels_of w)) (word_refused ls w old new (on_word ls a.0) b) (found old ws) (found new ws') (found_stays a r) k

-- the words from which a search goes on
record Rest (new : Test) (left ws' : List Mapping) : Type 0 where
  rest : List Mapping
  extends : Extends left rest
  same : found new ws' ≡ found new rest

module _ (new : Test) where
  full_resumes : (ls : List Label) (ws ws' left : List Mapping) (x y : Seen) → SeenStays x y → tested new ls ≡ y → Extends ws ws' → Rest new left ws' → Rest new (from_status (status_from (Full ls) x) (Full ls ∷ ws) left) (Full ls ∷ ws')
  full_resumes ls ws ws' left True y s e r h = record { rest = Full ls ∷ ws'; extends = stays r; same = refl }
  full_resumes ls ws ws' left NotTrue y s e r h = record { rest = h.rest; extends = h.extends; same = passed_over (Full ls) (tested new ls) (found new ws') (e ∙ s) ∙ h.same }
  full_resumes ls ws ws' left OpenTest y s e r h = record { rest = Full ls ∷ ws'; extends = stays r; same = refl }

  open_resumes : (ls : List Label) (ws ws' left : List Mapping) (x : Seen) → Extends ws ws' → Rest new left ws' → Rest new (from_status (status_from (Open ls) x) (Open ls ∷ ws) left) ws'
  open_resumes ls ws ws' left True r h = record { rest = ws'; extends = gone r; same = refl }
  open_resumes ls ws ws' left NotTrue r h = h
  open_resumes ls ws ws' left OpenTest r h = record { rest = ws'; extends = gone r; same = refl }

  grown_resumes : (ls : List Label) (w : Mapping) (ws ws' left : List Mapping) (x : Seen) → BeginsWith ls w → (x ≡ NotTrue → tested new (labels_of w) ≡ NotTrue) → Extends (Open ls ∷ ws) ws' → Rest new (from_status (status_from (Open ls) x) (Open ls ∷ ws) left) ws' → Rest new (from_status (status_from (Open ls) x) (Open ls ∷ ws) left) (w ∷ ws')
  grown_resumes ls w ws ws' left True b n r h = record { rest = w ∷ ws'; extends = grows b r; same = refl }
  grown_resumes ls w ws ws' left NotTrue b n r h = record { rest = h.rest; extends = h.extends; same = passed_over w (tested new (labels_of w)) (found new ws') (n refl) ∙ h.same }
  grown_resumes ls w ws ws' left OpenTest b n r h = record { rest = w ∷ ws'; extends = grows b r; same = refl }

module _ (rows : ℕ) (old new : Test) (s : TestsStay rows old new) where
  rest_of : {ws ws' : List Mapping} → AreShort rows ws → Extends ws ws' → Rest new (unrefused old ws) ws'
  rest_of a done = record { rest = []; extends = done; same = refl }
  rest_of a (stays {ls = ls} {old = ws} {new = ws'} r) = full_resumes new ls ws ws' (unrefused old ws) (tested old ls) (tested new ls) (tested_stays ls old new (on_word rows old new s ls a.0)) refl r (rest_of a.1 r)
  rest_of a (gone {ls = ls} {old = ws} {new = ws'} r) = open_resumes new ls ws ws' (unrefused old ws) (tested old ls) r (rest_of a.1 r)
  rest_of a (grows {ls = ls} {w = w} {old = ws} {new = ws'} b r) = grown_resumes new ls w ws ws' (unrefused old ws) (tested old ls) b (word_refused ls w old new (on_word rows old new s ls a.0) b) r (rest_of a r)

  pub found_resumes : {ws ws' : List Mapping} → AreShort rows ws → Extends ws ws' → Resumes old new ws ws'
  found_resumes a r = let h = rest_of a r in record { rest = h.rest; extends = h.extends; same = h.same }

first_decided : (a x : Seen) → a ≢ OpenTest → x ≢ OpenTest → first_not_true a x ≢ OpenTest
first_decided True x h k = k
first_decided NotTrue x h k = λ e. cc
first_decided OpenTest x h k = absurd (h refl)

tested_decided : (ls : List Label) (test : Test) → ((ms : List Label) → test ms ≢ OpenTest) → tested test ls ≢ OpenTest
tested_decided [] test h = λ e. cc
tested_decided (l ∷ ls) test h = first_decided (test (l ∷ [])) (tested (λ ms. test (l ∷ ms)) ls) (h (l ∷ [])) (tested_decided ls (λ ms. test (l ∷ ms)) (λ ms. h (l ∷ ms)))

full_decided : (ls : List Label) (x : Seen) (a : Found) → x ≢ OpenTest → a ≢ Waits → unless_refused (Full ls) (status_from (Full ls) x) a ≢ Waits
full_decided ls True a h k = λ e. cc
full_decided ls NotTrue a h k = k
full_decided ls OpenTest a h k = absurd (h refl)

pub closed_decides : (test : Test) (ws : List Mapping) → ((ls : List Label) → test ls ≢ OpenTest) → AllByRecursion IsFull ws → found test ws ≢ Waits
closed_decides test [] h a = λ e. cc
closed_decides test (Full ls ∷ ws) h a = full_decided ls (tested test ls) (found test ws) (tested_decided ls test h) (closed_decides test ws h a.1)
closed_decides test (Open ls ∷ ws) h a = absurd a.0

pub refused_passed : (test : Test) (front rest : List Mapping) → AllByRecursion (λ w. tested test (labels_of w) ≡ NotTrue) front → found test (front ++ rest) ≡ found test rest
refused_passed test [] rest a = refl
refused_passed test (w ∷ ws) rest a = passed_over w (tested test (labels_of w)) (found test (ws ++ rest)) a.0 ∙ refused_passed test ws rest a.1

pub itself_stays : (s : Seen) → SeenStays s s
itself_stays True = refl
itself_stays NotTrue = refl
itself_stays OpenTest = tt

-- ---- what is refused or good, and what a match is

refused_by : (w : Mapping) (x : Seen) → status_from w x ≡ Refused → x ≡ NotTrue
refused_by (Full ls) True h = cc
refused_by (Full ls) NotTrue h = refl
refused_by (Full ls) OpenTest h = cc
refused_by (Open ls) True h = cc
refused_by (Open ls) NotTrue h = refl
refused_by (Open ls) OpenTest h = cc

refused_so : (w : Mapping) (x : Seen) → x ≡ NotTrue → status_from w x ≡ Refused
refused_so (Full ls) x h = ap (status_from (Full ls)) h
refused_so (Open ls) x h = ap (status_from (Open ls)) h

good_by : (w : Mapping) (x y : Seen) → SeenStays x y → status_from w x ≡ Good → status_from w y ≡ Good
good_by (Full ls) True y s h = ap (status_from (Full ls)) s
good_by (Full ls) NotTrue y s h = cc
good_by (Full ls) OpenTest y s h = cc
good_by (Open ls) True y s h = cc
good_by (Open ls) NotTrue y s h = cc
good_by (Open ls) OpenTest y s h = cc

pub refused_stays : (rows : ℕ) (old new : Test) (w w' : Mapping) → TestsStay rows old new → length (labels_of w) ≤ rows → BeginsWith (labels_of w) w' → status old w ≡ Refused → status new w' ≡ Refused
refused_stays rows old new w w' s a b h =
    refused_so w' (tested new (labels_of w')) (word_refused (labels_of w) w' old new (on_word rows old new s (labels_of w) a) b (refused_by w (tested old (labels_of w)) h))

pub good_stays : (rows : ℕ) (old new : Test) (w : Mapping) → TestsStay rows old new → length (labels_of w) ≤ rows → status old w ≡ Good → status new w ≡ Good
good_stays rows old new w s a h = good_by w (tested old (labels_of w)) (tested new (labels_of w)) (tested_stays (labels_of w) old new (on_word rows old new s (labels_of w) a)) h

match_labels : (a b : List Label) → Match a ≡ Match b → a ≡ b
match_labels a b h = cc

-- a word before the others
behind : (test : Test) (w : Mapping) (ws : List Mapping) (ls : List Label) → status test w ≡ Refused → IsFirstMatch test ws ls → IsFirstMatch test (w ∷ ws) ls
behind test w ws ls h m = record { before = w ∷ m.before; after = m.after; word = ap (λ vs. w ∷ vs) m.word; refused = (h, m.refused); admitted = m.admitted }

first_word : (test : Test) (w : Mapping) (ws : List Mapping) (ls : List Label) (x : Seen) → tested test (labels_of w) ≡ x → (found test ws ≡ Match ls → IsFirstMatch test ws ls) → unless_refused w (status_from w x) (found test ws) ≡ Match ls → IsFirstMatch test (w ∷ ws) ls
first_word test (Full ms) ws ls True t later h =
    let same : ms ≡ ls = match_labels ms ls h in
    record { before = []; after = ws; word = ap (λ ns. Full ns ∷ ws) same; refused = tt; admitted = subst (λ ns. tested test ns ≡ True) same t }
first_word test (Full ms) ws ls NotTrue t later h = behind test (Full ms) ws ls (refused_so (Full ms) (tested test ms) t) (later h)
first_word test (Full ms) ws ls OpenTest t later h = cc
first_word test (Open ms) ws ls True t later h = cc
first_word test (Open ms) ws ls NotTrue t later h = behind test (Open ms) ws ls (refused_so (Open ms) (tested test ms) t) (later h)
first_word test (Open ms) ws ls OpenTest t later h = cc

pub match_is_word : (test : Test) (ws : List Mapping) (ls : List Label) → found test ws ≡ Match ls → IsFirstMatch test ws ls
match_is_word test [] ls h = cc
match_is_word test (w ∷ ws) ls h = first_word test w ws ls (tested test (labels_of w)) refl (match_is_word test ws ls) h
