-- The tests of labels that are cut back, that go on, or that words begin with.
use Rattle.std.specs.List.{AllByRecursion}
use Rattle.std.proofs.Common.{map, ◌≡◌, ℕ, zero, suc, ◌<◌, ◌≤◌, List, [], ◌∷◌, ◌++◌, length, take, drop, refl, sym, ap, ◌∙◌, subst, arith, append_assoc, length-append}
use Rattle.std.proofs.lemmas.List.{take-append-le, take-append-drop}
use Rattle.std.proofs.Math.Seq.{take-append_seam}
use Rattle.rp_words.specs.declared.word.Label.{Label}
use Rattle.rp_words.specs.declared.word.Seen.{Seen}
use Rattle.rp_words.specs.declared.word.Seen.TheVariants.{True, NotTrue, Open as OpenTest}
use Rattle.rp_words.specs.Mapping.{Mapping, Full, Open, labels_of, preceded}
use Rattle.rp_search.specs.Found.{Test, first_not_true, tested, status_from, Match, Waits, unless_refused, found}
use Rattle.rp_search.specs.SeenStays.{TestsStay}
use Rattle.rp_search.specs.Refused.{IsRefusedWithin, RefusedUpTo}
use Rattle.rp_search.proofs.FoundLaws.{first_refused, tested_refused, itself_stays, refused_passed}

pub All-append : {X : Type 0} (P : X → Type 0) (xs ys : List X) → AllByRecursion P xs → AllByRecursion P ys → AllByRecursion P (xs ++ ys)
All-append P [] ys h k = k
All-append P (x ∷ xs) ys h k = (h.0, All-append P xs ys h.1 k)

pub All-mapped : {X : Type 0} (P Q : X → Type 0) → ((x : X) → P x → Q x) → (xs : List X) → AllByRecursion P xs → AllByRecursion Q xs
All-mapped P Q f [] h = tt
All-mapped P Q f (x ∷ xs) h = (f x h.0, All-mapped P Q f xs h.1)

first-true : (x : Seen) → first_not_true x True ≡ x
first-true True = refl
first-true NotTrue = refl
first-true OpenTest = refl

first-assoc : (a x y : Seen) → first_not_true (first_not_true a x) y ≡ first_not_true a (first_not_true x y)
first-assoc True x y = refl
first-assoc NotTrue x y = refl
first-assoc OpenTest x y = refl

pub tested-snoc : (ls : List Label) (l : Label) (test : Test) → tested test (ls ++ l ∷ []) ≡ first_not_true (tested test ls) (test (ls ++ l ∷ []))
tested-snoc [] l test = first-true (test (l ∷ []))
tested-snoc (m ∷ ls) l test =
    ap (first_not_true (test (m ∷ []))) (tested-snoc ls l (λ ms. test (m ∷ ms)))
    ∙ sym (first-assoc (test (m ∷ [])) (tested (λ ms. test (m ∷ ms)) ls) (test (m ∷ (ls ++ l ∷ []))))

first_head : (a x : Seen) → first_not_true a x ≡ True → a ≡ True
first_head True x h = refl
first_head NotTrue x h = h
first_head OpenTest x h = h

first_tail : (a x : Seen) → first_not_true a x ≡ True → x ≡ True
first_tail True x h = h
first_tail NotTrue x h = cc
first_tail OpenTest x h = cc

first_both : (a x : Seen) → a ≡ True → x ≡ True → first_not_true a x ≡ True
first_both a x h k = ap (λ z. first_not_true z x) h ∙ k

-- labels that are cut back stay true
pub tested_take : (ls : List Label) (k : ℕ) (test : Test) → tested test ls ≡ True → tested test (take k ls) ≡ True
tested_take ls zero test h = refl
tested_take [] (suc k) test h = refl
tested_take (l ∷ ls) (suc k) test h =
    first_both (test (l ∷ [])) (tested (λ ms. test (l ∷ ms)) (take k ls)) (first_head (test (l ∷ [])) (tested (λ ms. test (l ∷ ms)) ls) h)
    (tested_take ls k (λ ms. test (l ∷ ms)) (first_tail (test (l ∷ [])) (tested (λ ms. test (l ∷ ms)) ls) h))

-- what is refused within some rows is refused within more, by tests that keep what was decided
pub refused_within : (ls : List Label) (r r' : ℕ) (old new : Test) → TestsStay r old new → r ≤ r' → tested old (take r ls) ≡ NotTrue → tested new (take r' ls) ≡ NotTrue
refused_within ls zero r' old new s le h = cc
refused_within [] (suc r) r' old new s le h = cc
refused_within (l ∷ ls) (suc r) zero old new s le h = absurd (omega arith)
refused_within (l ∷ ls) (suc r) (suc r') old new s le h =
    first_refused (old (l ∷ [])) (new (l ∷ [])) (tested (λ ms. old (l ∷ ms)) (take r ls)) (tested (λ ms. new (l ∷ ms)) (take r' ls)) (s (l ∷ []) (omega arith))
    (refused_within ls r r' (λ ms. old (l ∷ ms)) (λ ms. new (l ∷ ms)) (λ ms k. s (l ∷ ms) (omega arith)) (omega arith)) h

pub refused_whole : (ls : List Label) (r : ℕ) (test : Test) → tested test (take r ls) ≡ NotTrue → tested test ls ≡ NotTrue
refused_whole ls r test h =
    subst (λ ms. tested test ms ≡ NotTrue) (take-append-drop r ls) (tested_refused (take r ls) (drop r ls) test test (λ ns k. itself_stays (test ns)) h)

first_open : (a b x y : Seen) → a ≡ b → (x ≡ OpenTest → y ≡ OpenTest) → first_not_true a x ≡ OpenTest → first_not_true b y ≡ OpenTest
first_open True b x y s h k = subst (λ z. first_not_true z y ≡ OpenTest) s (h k)
first_open NotTrue b x y s h k = cc
first_open OpenTest b x y s h k = subst (λ z. first_not_true z y ≡ OpenTest) s refl

-- labels whose tests are open are so in every word that begins with them
pub tested_open : (ls rest : List Label) (test : Test) → tested test ls ≡ OpenTest → tested test (ls ++ rest) ≡ OpenTest
tested_open [] rest test h = cc
tested_open (l ∷ ls) rest test h =
    first_open (test (l ∷ [])) (test (l ∷ [])) (tested (λ ms. test (l ∷ ms)) ls) (tested (λ ms. test (l ∷ ms)) (ls ++ rest)) refl (tested_open ls rest (λ ms. test (l ∷ ms))) h

pub labels_of-preceded : (ls : List Label) (w : Mapping) → labels_of (preceded ls w) ≡ ls ++ labels_of w
labels_of-preceded ls (Full ms) = refl
labels_of-preceded ls (Open ms) = refl

refused_begins : (ls ms : List Label) (r : ℕ) (test : Test) → length ls ≤ r → tested test ls ≡ NotTrue → tested test (take r (ls ++ ms)) ≡ NotTrue
refused_begins ls ms r test le h =
    refused_within (ls ++ ms) (length ls) r test test (λ ns k. itself_stays (test ns)) le
    (subst (λ ns. tested test ns ≡ NotTrue) (sym (take-append_seam ls ms)) h)

-- All words that begin with refused labels of known rows are refused within these rows.
pub refused_row : (ls : List Label) (ws : List Mapping) (r : ℕ) (test : Test) → length ls ≤ r → tested test ls ≡ NotTrue → AllByRecursion (IsRefusedWithin r test) (map (preceded ls) ws)
refused_row ls [] r test le h = tt
refused_row ls (Full ms ∷ ws) r test le h = (refused_begins ls ms r test le h, refused_row ls ws r test le h)
refused_row ls (Open ms ∷ ws) r test le h = (refused_begins ls ms r test le h, refused_row ls ws r test le h)

-- refused words before the rest, and some more of them
pub before_more : (r : ℕ) (test : Test) (ws more rest : List Mapping) → RefusedUpTo r test ws (more ++ rest) → AllByRecursion (IsRefusedWithin r test) more → RefusedUpTo r test ws rest
before_more r test ws more rest b h =
    record { front = b.front ++ more; is = b.is ∙ sym (append_assoc b.front more rest); refused = All-append (IsRefusedWithin r test) b.front more b.refused h }

-- refused words before the rest, and that again
pub before_again : (r : ℕ) (test : Test) (ws xs ys : List Mapping) → RefusedUpTo r test ws xs → RefusedUpTo r test xs ys → RefusedUpTo r test ws ys
before_again r test ws xs ys a b = before_more r test ws b.front ys (subst (λ zs. RefusedUpTo r test ws zs) b.is a) b.refused

pub before_stays : (r r' : ℕ) (old new : Test) (ws rest : List Mapping) → TestsStay r old new → r ≤ r' → RefusedUpTo r old ws rest → RefusedUpTo r' new ws rest
before_stays r r' old new ws rest s le b =
    record { front = b.front; is = b.is; refused = All-mapped (IsRefusedWithin r old) (IsRefusedWithin r' new) (λ w h. refused_within (labels_of w) r r' old new s le h) b.front b.refused }

-- what is found is found among the rest
pub found_before : (r : ℕ) (test : Test) (ws rest : List Mapping) → RefusedUpTo r test ws rest → found test ws ≡ found test rest
found_before r test ws rest b =
    ap (found test) b.is ∙ refused_passed test b.front rest (All-mapped (IsRefusedWithin r test) (λ w. tested test (labels_of w) ≡ NotTrue) (λ w h. refused_whole (labels_of w) r test h) b.front b.refused)

pub full_matches : (ls : List Label) (test : Test) (ws : List Mapping) → tested test ls ≡ True → found test (Full ls ∷ ws) ≡ Match ls
full_matches ls test ws h = ap (λ z. unless_refused (Full ls) (status_from (Full ls) z) (found test ws)) h

pub open_waits : (ls : List Label) (test : Test) (ws : List Mapping) → tested test ls ≡ True → found test (Open ls ∷ ws) ≡ Waits
open_waits ls test ws h = ap (λ z. unless_refused (Open ls) (status_from (Open ls) z) (found test ws)) h

-- a word that begins with labels whose last test is open is waited for
pub begun_waits : (ls : List Label) (w : Mapping) (test : Test) (ws : List Mapping) → tested test ls ≡ OpenTest → found test (preceded ls w ∷ ws) ≡ Waits
begun_waits ls (Full ms) test ws h = ap (λ z. unless_refused (Full (ls ++ ms)) (status_from (Full (ls ++ ms)) z) (found test ws)) (tested_open ls ms test h)
begun_waits ls (Open ms) test ws h = ap (λ z. unless_refused (Open (ls ++ ms)) (status_from (Open (ls ++ ms)) z) (found test ws)) (tested_open ls ms test h)

-- the last label decides, after labels that are tested true
pub last_decides : (before : List Label) (last : Label) (ls : List Label) (test : Test) → ls ≡ before ++ last ∷ [] → tested test before ≡ True → tested test ls ≡ test ls
last_decides before last ls test e h =
    subst (λ ms. tested test ms ≡ test ms) (sym e) (tested-snoc before last test ∙ ap (λ z. first_not_true z (test (before ++ last ∷ []))) h)

-- cut back below the last label, what is left is tested true
pub cut_admitted : (before : List Label) (last : Label) (ls : List Label) (k : ℕ) (test : Test) → ls ≡ before ++ last ∷ [] → k < length ls → tested test before ≡ True → tested test (take k ls) ≡ True
cut_admitted before last ls k test e lt h =
    let le : k ≤ length before = omega (arith, length-append before (last ∷ []), ap length e) in
    subst (λ ms. tested test (take k ms) ≡ True) (sym e) (subst (λ ms. tested test ms ≡ True) (sym (take-append-le k before (last ∷ []) le)) (tested_take before k test h))
