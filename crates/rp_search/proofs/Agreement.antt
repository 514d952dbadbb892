-- Tests that say the same find the same.
use Rattle.std.proofs.Common.{◌≡◌, ◌≢◌, ℕ, zero, suc, Bool, List, [], ◌∷◌, ◌++◌, take, refl, ap, ap₂, subst}
use Rattle.std.specs.List.{AllByRecursion}
use Rattle.rp_words.specs.declared.word.Label.{Label}
use Rattle.rp_words.specs.Leading.{stands_once, IsLedBy, IsFirstAlone, IsHeadedBy, LeadersHead}
use Rattle.rp_words.specs.Mapping.{Mapping, labels_of}
use Rattle.rp_words.specs.Words.{words}
use Rattle.rp_search.specs.Found.{Test, first_not_true, tested, status_from, unless_refused, found}
use Rattle.rp_search.specs.Locality.{IsAmong}
use Rattle.rp_search.specs.Agreement.{AgreeOn, SameIsTested, SameIsTestedFirst, HeadedAgree, SameStatus, SameIsFound, AgreeWhereHeaded, LeaderFindsSame, LeaderHeads}

tested_same : (ls : List Label) (test other : Test) → AgreeOn test other ls → tested test ls ≡ tested other ls
tested_same [] test other agree = refl
tested_same (l ∷ ls) test other agree =
    ap₂ first_not_true (agree [] l ls refl)
    (tested_same ls (λ ms. test (l ∷ ms)) (λ ms. other (l ∷ ms)) (λ before label after is. agree (l ∷ before) label after (ap (λ ms. l ∷ ms) is)))

pub same_is_tested : SameIsTested
same_is_tested test other labels agree = tested_same labels test other agree

tested_first : (ls : List Label) (test other : Test) → AgreeOn test other ls → (rows : ℕ) → tested test (take rows ls) ≡ tested other (take rows ls)
tested_first [] test other agree zero = refl
tested_first [] test other agree (suc rows) = refl
tested_first (l ∷ ls) test other agree zero = refl
tested_first (l ∷ ls) test other agree (suc rows) =
    ap₂ first_not_true (agree [] l ls refl)
    (tested_first ls (λ ms. test (l ∷ ms)) (λ ms. other (l ∷ ms)) (λ before label after is. agree (l ∷ before) label after (ap (λ ms. l ∷ ms) is)) rows)

pub same_is_tested_first : SameIsTestedFirst
same_is_tested_first test other labels agree rows = tested_first labels test other agree rows

pub same_status : SameStatus
same_status test other w agree = ap (status_from w) (tested_same (labels_of w) test other agree)

found_same : (test other : Test) (ws : List Mapping) → AllByRecursion (λ w. AgreeOn test other (labels_of w)) ws → found test ws ≡ found other ws
found_same test other [] agree = refl
found_same test other (w ∷ ws) agree = ap₂ (unless_refused w) (same_status test other w agree.0) (found_same test other ws agree.1)

pub same_is_found : SameIsFound
same_is_found test other ws agree = found_same test other ws agree

-- ---- the first labels of a word

module _ (v : ℕ) where
  led_first : (before : List Label) (label : Label) (after : List Label) → IsLedBy v (before ++ label ∷ after) → IsLedBy v (before ++ label ∷ [])
  led_first [] label after h = h
  led_first (l ∷ before) label after h = h

  absent_first : (before : List Label) (label : Label) (after : List Label) → AllByRecursion (λ m. m.var ≢ v) (before ++ label ∷ after) → AllByRecursion (λ m. m.var ≢ v) (before ++ label ∷ [])
  absent_first [] label after h = (h.0, tt)
  absent_first (l ∷ before) label after h = (h.0, absent_first before label after h.1)

  alone_first : (before : List Label) (label : Label) (after : List Label) → IsFirstAlone v (before ++ label ∷ after) → IsFirstAlone v (before ++ label ∷ [])
  alone_first [] label after h = tt
  alone_first (l ∷ before) label after h = absent_first before label after h

  headed_first : (alone : Bool) (before : List Label) (label : Label) (after : List Label) → IsHeadedBy v alone (before ++ label ∷ after) → IsHeadedBy v alone (before ++ label ∷ [])
  headed_first alone before label after h = record { led = led_first before label after h.led; alone = λ once. alone_first before label after (h.alone once) }

  agree_on : (alone : Bool) (test other : Test) → AgreeWhereHeaded v alone test other → (labels : List Label) → IsHeadedBy v alone labels → AgreeOn test other labels
  agree_on alone test other agree labels headed before label after is =
      agree before label (headed_first alone before label after (subst (IsHeadedBy v alone) is headed))

  agree_on_each : (alone : Bool) (test other : Test) → AgreeWhereHeaded v alone test other → (ws : List Mapping) →
      AllByRecursion (λ w. IsHeadedBy v alone (labels_of w)) ws → AllByRecursion (λ w. AgreeOn test other (labels_of w)) ws
  agree_on_each alone test other agree [] h = tt
  agree_on_each alone test other agree (w ∷ ws) h = (agree_on alone test other agree (labels_of w) h.0, agree_on_each alone test other agree ws h.1)

pub leader_finds_same : LeadersHead → LeaderFindsSame
leader_finds_same heads v f test other leading agree n e i =
    found_same test other (words n e f i) (agree_on_each v (stands_once v f) test other agree (words n e f i) (heads v f leading n e i))

pub headed_agree : HeadedAgree
headed_agree v alone test other labels agree headed = agree_on v alone test other agree labels headed

-- ---- fixed tests

among_holds : (P : Mapping → Type 0) (front rest : List Mapping) (w : Mapping) → AllByRecursion P (front ++ w ∷ rest) → P w
among_holds P [] rest w h = h.0
among_holds P (x ∷ front) rest w h = among_holds P front rest w h.1

module _ (v : ℕ) (alone : Bool) (ws : List Mapping) (headed : AllByRecursion (λ w. IsHeadedBy v alone (labels_of w)) ws) where
  among_headed : (w : Mapping) → IsAmong w ws → (before : List Label) (label : Label) (after : List Label) → labels_of w ≡ before ++ label ∷ after → IsHeadedBy v alone (before ++ label ∷ [])
  among_headed w own before label after is =
      headed_first v alone before label after
      (subst (IsHeadedBy v alone) is (among_holds (λ w. IsHeadedBy v alone (labels_of w)) own.0 own.1 w (subst (AllByRecursion (λ w. IsHeadedBy v alone (labels_of w))) own.2 headed)))

pub leader_heads : LeadersHead → LeaderHeads
leader_heads heads v f leading start n e w before label after meant is =
    among_headed v (stands_once v f) (words n e f start) (heads v f leading n e start) w meant before label after is
