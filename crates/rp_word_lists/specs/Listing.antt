-- Inside: one step of listing the words that choices stand for.
use Rattle.std.specs.Prelude.{◌≡◌, ℕ, ◌<◌, Bool, true, false, List, [], ◌++◌}
use Rattle.rp_words.specs.declared.word.End.{End}
use Rattle.rp_pattern.specs.declared.choices.Choices.{Choices}
use Rattle.rp_words.specs.Mapping.{Mapping}
use Rattle.rp_pattern.specs.Choices.{remaining, turns_left}

-- the words listed and those to come are as before, and fewer turns are left
pub record ListsMore (old new : Choices) (n : ℕ) (e : End) (listed list : List Mapping) : Type 0 where
  pub words : list ++ remaining new n e ≡ listed ++ remaining old n e
  pub turns : turns_left new n e < turns_left old n e

-- no words are to come
pub record ListsNone (old : Choices) (n : ℕ) (e : End) (listed list : List Mapping) : Type 0 where
  pub none : remaining old n e ≡ []
  pub same : list ≡ listed

-- what a step came to, by whether there was a word to come
abbrev pub ListsNext : Choices → Choices → ℕ → End → List Mapping → List Mapping → Bool → Type 0
ListsNext old new n e listed list true = ListsMore old new n e listed list
ListsNext old new n e listed list false = ListsNone old n e listed list
