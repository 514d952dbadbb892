-- What more rows, or the close, do to a list of words. These laws are this project's own.
use Rattle.std.specs.Prelude.{◌≡◌, ℕ, suc, ◌+◌, ◌-◌, ◌≤◌, Bool, length, List, [], ◌∷◌, ◌++◌, Some, None, ⊤}
use Rattle.std.specs.List.{AllByRecursion}
use Rattle.rp_words.specs.Mapping.{Mapping, Full, Open, labels_of}
use Rattle.rp_words.specs.declared.form.Form.{Form}
use Rattle.rp_words.specs.declared.word.Label.{Label}
use Rattle.rp_words.specs.declared.word.End.{End}
use Rattle.rp_words.specs.declared.word.End.TheVariants.{Closed as ClosedEnd}
use Rattle.rp_words.specs.Later.{IsLater}
use Rattle.rp_words.specs.Turns.{turns, optional_turns}
use Rattle.rp_words.specs.Words.{words, quantified, preferred, concatenation, moving}

-- ---- more rows, or the close

-- a word begins with these labels
pub record BeginsWith (ls : List Label) (w : Mapping) : Type 0 where
  pub rest : List Label
  pub begins : ls ++ rest ≡ labels_of w

-- A full word stays, and an open one is replaced in its own place by words that begin with its labels, none or more of
-- them.
pub data Extends : List Mapping → List Mapping → Type 0 where
  done : Extends [] []
  stays : {ls : List Label} {old new : List Mapping} → Extends old new → Extends (Full ls ∷ old) (Full ls ∷ new)
  gone : {ls : List Label} {old new : List Mapping} → Extends old new → Extends (Open ls ∷ old) new
  grows : {ls : List Label} {w : Mapping} {old new : List Mapping} →
      BeginsWith ls w → Extends (Open ls ∷ old) new → Extends (Open ls ∷ old) (w ∷ new)

-- More rows, or the close, extend the words of every pattern from every row.
abbrev pub WordsExtend : Type 0
WordsExtend = (f : Form) (n n' : ℕ) (e e' : End) (i : ℕ) → IsLater n e n' e' → Extends (words n e f i) (words n' e' f i)

-- ---- iterations without an upper bound

-- The equation of `*`: another iteration, which takes a row or may take one, and then again `*`; or to stop. The greedy
-- one prefers the first, the reluctant one the second.
abbrev pub StarEquation : Type 0
StarEquation = (f : Form) (n : ℕ) (e : End) (reluctant : Bool) (i : ℕ) →
    quantified n 0 None reluctant (words n e f) i ≡
    preferred reluctant (concatenation (moving (words n e f)) (quantified n 0 None reluctant (words n e f)) i) (Full [] ∷ [])

-- Over n known rows a quantifier from 0 to n + 2 or more iterations has the words of one from 0 without an upper bound.
-- Of a quantifier with a greater lower bound nothing is said.
abbrev pub GreatBoundsAgree : Type 0
GreatBoundsAgree = (f : Form) (n : ℕ) (e : End) (reluctant : Bool) (h i : ℕ) → n + 2 ≤ h →
    quantified n 0 (Some h) reluctant (words n e f) i ≡ quantified n 0 None reluctant (words n e f) i

-- Over n known rows n + 2 or more optional iterations take as many turns as n + 2, which is what `turns` counts without
-- an upper bound.
abbrev pub GreatBoundsTakeAsMany : Type 0
GreatBoundsTakeAsMany = (f : Form) (n : ℕ) (e : End) (h i : ℕ) → n + 2 ≤ h →
    optional_turns (words n e f, turns n e f) h i ≡ optional_turns (words n e f, turns n e f) (n + 2) i

-- ---- the rows of a word

-- no label of a word from row i lies past row n
abbrev pub EndsByRow : ℕ → ℕ → Mapping → Type 0
EndsByRow n i w = length (labels_of w) ≤ suc n - i

-- The labels of each word are of known rows.
abbrev pub WordsEnd : Type 0
WordsEnd = (f : Form) (n : ℕ) (e : End) (i : ℕ) → AllByRecursion (EndsByRow n i) (words n e f i)

-- where the word from row i is open, it has a label for each row from i to n
abbrev pub RunsToEnd : ℕ → ℕ → Mapping → Type 0
RunsToEnd n i (Full ls) = ⊤
RunsToEnd n i (Open ls) = length ls ≡ suc n - i

-- Each open word has a label for each row to the last known one: it waits for the row after that.
abbrev pub WordsWait : Type 0
WordsWait = (f : Form) (n : ℕ) (e : End) (i : ℕ) → AllByRecursion (RunsToEnd n i) (words n e f i)

-- a full mapping
abbrev pub IsFull : Mapping → Type 0
IsFull (Full ls) = ⊤
IsFull (Open ls) = ⊥

-- Over a closed end each word is full.
abbrev pub WordsClose : Type 0
WordsClose = (f : Form) (n i : ℕ) → AllByRecursion IsFull (words n ClosedEnd f i)
