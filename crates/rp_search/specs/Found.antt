-- The status of a word under tests, and the first word that is not refused.
use Rattle.std.specs.Prelude.{List, [], ◌∷◌}
use Rattle.rp_words.specs.declared.word.Label.{Label}
use Rattle.rp_words.specs.declared.word.Seen.{Seen}
use Rattle.rp_words.specs.declared.word.Seen.TheVariants.{True, NotTrue, Open as OpenTest}
use Rattle.rp_words.specs.Mapping.{Mapping, Full, Open, labels_of}

-- a test: what is seen of the last label's row, from the labels up to it
abbrev pub Test : Type 0
Test = List Label → Seen

-- what the first test says, unless that is true: then what the later ones say
abbrev pub first_not_true : Seen → Seen → Seen
first_not_true True later = later
first_not_true NotTrue later = NotTrue
first_not_true OpenTest later = OpenTest

-- Each label is tested in turn, with the labels before it. The first test that is not true decides.
abbrev pub tested : Test → List Label → Seen
tested test [] = True
tested test (l ∷ ls) = first_not_true (test (l ∷ [])) (tested (λ ms. test (l ∷ ms)) ls)

-- what the tests say of a word: it is good, refused, or not yet decided
pub data Status : Type 0 where
  Good : Status
  Refused : Status
  Undecided : Status

-- where every label is tested true, a full word is good and an open one undecided; else the first other test decides,
-- whatever the word is
abbrev pub status_from : Mapping → Seen → Status
status_from (Full ls) True = Good
status_from (Open ls) True = Undecided
status_from w NotTrue = Refused
status_from w OpenTest = Undecided

-- the status of a word: its labels are tested in turn
abbrev pub status : Test → Mapping → Status
status test w = status_from w (tested test (labels_of w))

-- what is found among words: a match with its labels, none, or that rows or the close must come first
pub data Found : Type 0 where
  Match : List Label → Found
  NoMatch : Found
  Waits : Found

-- by the status of a word: where it is good it is the match, where it is undecided it is waited for, and where it is
-- refused, the later ones decide
abbrev pub unless_refused : Mapping → Status → Found → Found
unless_refused w Good later = Match (labels_of w)
unless_refused w Undecided later = Waits
unless_refused w Refused later = later

-- what is found is by the first word that is not refused
abbrev pub found : Test → List Mapping → Found
found test [] = NoMatch
found test (w ∷ ws) = unless_refused w (status test w) (found test ws)
