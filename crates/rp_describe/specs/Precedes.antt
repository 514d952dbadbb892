-- The rows of a pattern's words, and which come before others, by the variables that they are mapped to.
use Rattle.std.specs.Prelude.{◌≡◌, ◌≢◌, ℕ, List, [], ◌∷◌, ◌++◌, ⊤, Contains}
use Rattle.std.specs.List.{AllByRecursion}
use Rattle.rp_words.specs.Mapping.{Mapping, labels_of}
use Rattle.rp_words.specs.Words.{words}
use Rattle.rp_words.specs.declared.form.Form.{Form}
use Rattle.rp_words.specs.declared.word.End.{End}
use Rattle.rp_words.specs.declared.word.Label.{Label}

-- no label is of the variable
abbrev pub NoneIsOf : ℕ → List Label → Type 0
NoneIsOf v labels = AllByRecursion (λ l. l.var ≢ v) labels

-- no label of the one variable comes before a label of the other
abbrev pub NoneComesBefore : ℕ → ℕ → List Label → Type 0
NoneComesBefore earlier later [] = ⊤
NoneComesBefore earlier later (l ∷ ls) = (l.var ≡ earlier → NoneIsOf later ls) × NoneComesBefore earlier later ls

-- no word of the pattern has a row of the variable
abbrev pub HasNoRow : ℕ → Form → Type 0
HasNoRow v f = (n : ℕ) (e : End) (i : ℕ) → AllByRecursion (λ w. NoneIsOf v (labels_of w)) (words n e f i)

-- in no word of the pattern does a row of the one variable come before a row of the other
abbrev pub NeverPrecedes : ℕ → ℕ → Form → Type 0
NeverPrecedes earlier later f =
    (n : ℕ) (e : End) (i : ℕ) → AllByRecursion (λ w. NoneComesBefore earlier later (labels_of w)) (words n e f i)

-- a word of the pattern from this row on, over some rows and their end, begins with these labels
pub record BeginsWord (f : Form) (start : ℕ) (labels : List Label) : Type 0 where
  pub rows : ℕ
  pub ending : End
  pub word : Mapping
  pub listed : Contains (words rows ending f start) word
  pub after : List Label
  pub labels_are : labels_of word ≡ labels ++ after
