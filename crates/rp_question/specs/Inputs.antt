-- What is known of inputs before they are read, and which texts theirs may be. Own.
use Rattle.std.specs.Prelude.{◌≡◌, ⊤, ℕ, List, Option, Some, None, length}

-- how many inputs there are, and their texts, in order, where these are known
pub record InputsSeen : Type 0 where
  pub count : ℕ
  pub texts : Option (List (List ℕ))

-- inputs that have these texts
abbrev pub of_texts : List (List ℕ) → InputsSeen
of_texts texts = record { count = length texts; texts = Some texts }

-- these are the texts that are known; where none are known they may be any
abbrev pub AreAsKnown : Option (List (List ℕ)) → List (List ℕ) → Type 0
AreAsKnown None texts = ⊤
AreAsKnown (Some known) texts = texts ≡ known

-- These may be the texts of the inputs: there is one of each, and they are those that are known.
pub record AreTextsOf (seen : InputsSeen) (texts : List (List ℕ)) : Type 0 where
  pub each : length texts ≡ seen.count
  pub known : AreAsKnown seen.texts texts
