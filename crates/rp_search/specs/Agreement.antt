-- Tests that say the same of the labels of words find the same. Own.
use Rattle.std.specs.Prelude.{◌≡◌, ℕ, Bool, true, List, [], ◌∷◌, ◌++◌, take, Some}
use Rattle.std.specs.List.{AllByRecursion}
use Rattle.rp_words.specs.declared.form.Form.{Form}
use Rattle.rp_words.specs.declared.word.End.{End}
use Rattle.rp_words.specs.declared.word.Label.{Label}
use Rattle.rp_words.specs.Leading.{leads, stands_once, IsHeadedBy}
use Rattle.rp_words.specs.Mapping.{Mapping, labels_of}
use Rattle.rp_words.specs.Words.{words}
use Rattle.rp_search.specs.Lasting.{OfPattern}
use Rattle.rp_search.specs.Found.{Test, tested, status, found}

-- the two tests say the same of each row of these labels
abbrev pub AgreeOn : Test → Test → List Label → Type 0
AgreeOn test other labels = (before : List Label) (label : Label) (after : List Label) →
    labels ≡ before ++ label ∷ after → test (before ++ label ∷ []) ≡ other (before ++ label ∷ [])

-- Tests that agree on some labels come to the same on them.
abbrev pub SameIsTested : Type 0
SameIsTested = (test other : Test) (labels : List Label) → AgreeOn test other labels → tested test labels ≡ tested other labels

-- They come to the same on the first of these labels too, so many of them.
abbrev pub SameIsTestedFirst : Type 0
SameIsTestedFirst = (test other : Test) (labels : List Label) → AgreeOn test other labels →
    (rows : ℕ) → tested test (take rows labels) ≡ tested other (take rows labels)

-- A word has the same status by tests that agree on its labels.
abbrev pub SameStatus : Type 0
SameStatus = (test other : Test) (w : Mapping) → AgreeOn test other (labels_of w) → status test w ≡ status other w

-- The same is found among words by tests that agree on the labels of each.
abbrev pub SameIsFound : Type 0
SameIsFound = (test other : Test) (ws : List Mapping) →
    AllByRecursion (λ w. AgreeOn test other (labels_of w)) ws → found test ws ≡ found other ws

-- the two tests say the same of a row where the labels up to it are headed by the variable
abbrev pub AgreeWhereHeaded : ℕ → Bool → Test → Test → Type 0
AgreeWhereHeaded v alone test other = (before : List Label) (label : Label) →
    IsHeadedBy v alone (before ++ label ∷ []) → test (before ++ label ∷ []) ≡ other (before ++ label ∷ [])

-- Such tests agree on labels that it heads.
abbrev pub HeadedAgree : Type 0
HeadedAgree = (v : ℕ) (alone : Bool) (test other : Test) (labels : List Label) →
    AgreeWhereHeaded v alone test other → IsHeadedBy v alone labels → AgreeOn test other labels

-- So the same is found among the words of a pattern by tests that agree where the variable that leads it heads the labels.
abbrev pub LeaderFindsSame : Type 0
LeaderFindsSame = (v : ℕ) (f : Form) (test other : Test) → leads v f ≡ true → AgreeWhereHeaded v (stands_once v f) test other →
    (n : ℕ) (e : End) (i : ℕ) → found test (words n e f i) ≡ found other (words n e f i)

-- The variable that leads a pattern heads the labels of its words, up to each of them.
abbrev pub LeaderHeads : Type 0
LeaderHeads = (v : ℕ) (f : Form) → leads v f ≡ true → (start n : ℕ) (e : End) (w : Mapping) (before : List Label) (label : Label) (after : List Label) →
    OfPattern (Some f) start n e w → labels_of w ≡ before ++ label ∷ after → IsHeadedBy v (stands_once v f) (before ++ label ∷ [])
