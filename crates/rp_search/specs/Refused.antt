-- Words that tests refuse on known rows.
use Rattle.std.specs.Prelude.{◌≡◌, ℕ, List, ◌++◌, take}
use Rattle.std.specs.List.{AllByRecursion}
use Rattle.rp_words.specs.declared.word.Seen.TheVariants.{NotTrue}
use Rattle.rp_words.specs.Mapping.{Mapping, labels_of}
use Rattle.rp_search.specs.Found.{Test, tested}

-- the tests refuse a word on its first rows already, so many of them
abbrev pub IsRefusedWithin : ℕ → Test → Mapping → Type 0
IsRefusedWithin rows test w = tested test (take rows (labels_of w)) ≡ NotTrue

-- These words are refused up to the rest: some that are refused on known rows, and then the rest.
pub record RefusedUpTo (rows : ℕ) (test : Test) (ws rest : List Mapping) : Type 0 where
  pub front : List Mapping
  pub is : ws ≡ front ++ rest
  pub refused : AllByRecursion (IsRefusedWithin rows test) front
