-- How long what is refused stays refused: from which start rows on the same words from a row fail again.
use Rattle.std.specs.Prelude.{◌≡◌, ◌≢◌, ℕ, suc, ◌+◌, ◌<◌, ◌≤◌, List, [], ◌∷◌, ◌++◌, map, length, Option, Some, None}
use Rattle.std.specs.List.{AllByRecursion}
use Rattle.rp_words.specs.declared.form.Form.{Form}
use Rattle.rp_words.specs.declared.word.Label.{Label}
use Rattle.rp_words.specs.declared.word.End.{End}
use Rattle.rp_words.specs.declared.word.Seen.{Seen}
use Rattle.rp_words.specs.declared.word.Seen.TheVariants.{True, NotTrue, Open as OpenTest}
use Rattle.rp_words.specs.Later.{AtEachLater}
use Rattle.rp_words.specs.Mapping.{Mapping, labels_of, preceded}
use Rattle.rp_words.specs.Words.{words}
use Rattle.rp_search.specs.Found.{tested}
use Rattle.rp_search.specs.Asked.{Asked, rows_from}
use Rattle.rp_search.specs.Locality.{IsAmong}

-- the words of the pattern, or any where none is given
abbrev pub OfPattern : Option Form → ℕ → ℕ → End → Mapping → Type 0
OfPattern None start n e w = Unit {0}
OfPattern (Some f) start n e w = IsAmong w (words n e f start)

-- What the test of a label at a row says is such, in each word that is meant from a start row among these: from the first on, and
-- below the second.
abbrev pub Says : (ℕ → ℕ → End → Mapping → Type 0) → Asked → (Seen → Type 0) → ℕ → ℕ → ℕ → Label → Type 0
Says Meant asked Such from until row label = (start n : ℕ) (e : End) (w : Mapping) (before after : List Label) →
    from ≤ start → start < until → start + length before ≡ row → Meant start n e w → labels_of w ≡ before ++ label ∷ after →
    Such (asked.outcome start (before ++ label ∷ []))

-- a label at a row is refused, from each of these start rows
abbrev pub RefusalLasts : (ℕ → ℕ → End → Mapping → Type 0) → Asked → ℕ → ℕ → ℕ → Label → Type 0
RefusalLasts Meant asked = Says Meant asked (λ seen. seen ≡ NotTrue)

-- its test isn't open, from each of these start rows
abbrev pub IsDecided : (ℕ → ℕ → End → Mapping → Type 0) → Asked → ℕ → ℕ → ℕ → Label → Type 0
IsDecided Meant asked = Says Meant asked (λ seen. seen ≢ OpenTest)

-- the same of each of these labels, whose first is at this row
abbrev pub AreDecided : (ℕ → ℕ → End → Mapping → Type 0) → Asked → ℕ → ℕ → ℕ → List Label → Type 0
AreDecided Meant asked from until row [] = Unit {0}
AreDecided Meant asked from until row (l ∷ ls) = IsDecided Meant asked from until row l × AreDecided Meant asked from until (suc row) ls

-- Whether the test of a label at a known row is open doesn't depend on the start row and the labels before: where it is true once, it
-- is open nowhere.
abbrev pub OpensAlike : (ℕ → ℕ → End → Mapping → Type 0) → Asked → Type 0
OpensAlike Meant asked = (start n : ℕ) (e : End) (w : Mapping) (before after : List Label) (label : Label) →
    Meant start n e w → labels_of w ≡ before ++ label ∷ after → start + length before ≤ asked.known →
    asked.outcome start (before ++ label ∷ []) ≡ True → (from until : ℕ) → IsDecided Meant asked from until (start + length before) label

-- Where a word that is meant begins with these labels, the last of them is refused at its row from each start row below that one.
abbrev pub LastsUntil : (ℕ → ℕ → End → Mapping → Type 0) → Asked → ℕ → List Label → ℕ → Type 0
LastsUntil Meant asked start labels until = (before : List Label) (label : Label) (after : List Label) (n : ℕ) (e : End) (w : Mapping) →
    labels ≡ before ++ label ∷ [] → Meant start n e w → labels_of w ≡ before ++ label ∷ after →
    RefusalLasts Meant asked start until (start + length before) label

-- A word from a row fails, from each of these start rows: a label of one of its known rows is refused, and those before it are
-- decided.
pub record Fails (Meant : ℕ → ℕ → End → Mapping → Type 0) (asked : Asked) (from until row : ℕ) (w : Mapping) : Type 0 where
  pub front : List Label
  pub label : Label
  pub rest : List Label
  pub is : labels_of w ≡ front ++ label ∷ rest
  pub known : row + length front ≤ asked.known
  pub refused : RefusalLasts Meant asked from until (row + length front) label
  pub decided : AreDecided Meant asked from until row front

-- words over so many known rows and either end, as those of a place of the pattern from a row
abbrev pub WordsOver : Type 0
WordsOver = ℕ → End → List Mapping

-- These words from a row are dead to these start rows: now and whatever comes later, each of them fails from there.
abbrev pub AreDead : (ℕ → ℕ → End → Mapping → Type 0) → WordsOver → Asked → ℕ → ℕ → ℕ → Type 0
AreDead Meant ws asked from until row = AtEachLater asked.known asked.end (λ n e. AllByRecursion (Fails Meant asked from until row) (ws n e))

-- some of these words fail, and the others are the rest, behind these labels
pub record FailsUpTo (Meant : ℕ → ℕ → End → Mapping → Type 0) (asked : Asked) (from until row : ℕ) (before : List Label) (ws over : List Mapping) : Type 0 where
  pub front : List Mapping
  pub rest : List Mapping
  pub is : ws ≡ front ++ rest
  pub over_is : map (preceded before) rest ≡ over
  pub fail : AllByRecursion (Fails Meant asked from until row) front

-- Words from a row are marked, after labels that are tested true: some of these words fail from the present start row on and below
-- another, and the others are those of the choices above the mark.
pub record IsMarked (Meant : ℕ → ℕ → End → Mapping → Type 0) (ws over : WordsOver) (asked : Asked) (start until : ℕ) (before : List Label) : Type 0 where
  pub admitted : tested (asked.outcome start) before ≡ True
  pub known : length before ≤ rows_from start asked.known
  pub from_one : 1 ≤ start
  pub words : AtEachLater asked.known asked.end (λ n e. FailsUpTo Meant asked start until (start + length before) before (ws n e) (over n e))

-- A word was passed over: behind labels that are tested true the rest of it fails.
pub record IsPassed (Meant : ℕ → ℕ → End → Mapping → Type 0) (asked : Asked) (start until : ℕ) (w : Mapping) : Type 0 where
  pub before : List Label
  pub rest : Mapping
  pub is : labels_of w ≡ before ++ labels_of rest
  pub admitted : tested (asked.outcome start) before ≡ True
  pub fails : Fails Meant asked start until (start + length before) rest
