-- Inside: how the choices and the outlook of a search stand to what is asked, and how many turns are left. A caller
-- needs no more of it than the names `SearchFits` and `left_by`.
use Rattle.std.specs.Prelude.{◌≡◌, ◌↔◌, ℕ, ◌+◌, ◌<◌, ◌≤◌, List, [], ◌∷◌, ◌++◌, length, Option, Some, None}
use Rattle.rp_words.specs.declared.word.Label.{Label}
use Rattle.rp_words.specs.declared.word.End.{End}
use Rattle.rp_words.specs.declared.word.Seen.{Seen}
use Rattle.rp_words.specs.declared.word.Seen.TheVariants.{True, NotTrue, Open as OpenTest}
use Rattle.rp_pattern.specs.declared.choices.Choices.{Choices}
use Rattle.rp_words.specs.Later.{AtEachLater}
use Rattle.rp_pattern.specs.Choices.{start_of, entered, whole, whole_turns, remaining, turns_left, turns_left_below, after, turns_left_after, HasTop, AtRow, DividesAtRow}
use Rattle.rp_pattern.specs.declared.outlook.Outlook.{Outlook}
use Rattle.rp_pattern.specs.Outlooks.{words_ahead, turns_ahead}
use Rattle.rp_search.specs.declared.search.Search.{Search}
use Rattle.rp_search.specs.Found.{Test, tested}
use Rattle.rp_search.specs.Asked.{Asked, AreBelow, rows_from}
use Rattle.rp_search.specs.Refused.{RefusedUpTo}
use Rattle.rp_search.specs.Memo.{Remembers}
use Rattle.rp_search.specs.Work.{TakeLess}

-- The choices fit: over the known rows and whatever comes later, the words of the pattern are some that are refused on
-- known rows, and then those of the choices not given up, for which no more turns are left than for all. The start row is
-- 1 or above, and every label is of a known row.
pub record ChoicesFit (c : Choices) (n : ℕ) (e : End) (test : Test) : Type 0 where
  pub from_one : 1 ≤ start_of c
  pub known : length (entered c) ≤ rows_from (start_of c) n
  pub words : AtEachLater n e (λ n' e'. RefusedUpTo (rows_from (start_of c) n) test (whole c n' e') (remaining c n' e'))
  pub turns : AtEachLater n e (λ n' e'. turns_left c n' e' ≤ whole_turns c n' e')

-- the tests of labels from the row on that the choices begin at
abbrev pub test_from : Choices → Asked → Test
test_from c asked = asked.outcome (start_of c)

-- the choices fit what is asked
abbrev pub StandsBy : Choices → Asked → Type 0
StandsBy c asked = ChoicesFit c asked.known asked.end (test_from c asked)

-- The preferred choice maps a row, whose label is the last. The labels before it are tested true. The remaining words are those
-- that may follow that row, and then those below.
pub record StandsAtRow (c : Choices) (n : ℕ) (e : End) (test : Test) : Type 0 where
  pub at_row : AtRow c
  pub has_top : HasTop c
  pub before : List Label
  pub last : Label
  pub labels : entered c ≡ before ++ last ∷ []
  pub admitted : tested test before ≡ True
  pub divides : DividesAtRow c n e

-- they stand at a row of what is asked
abbrev pub StandsAtRowBy : Choices → Asked → Type 0
StandsAtRowBy c asked = StandsAtRow c asked.known asked.end (test_from c asked)

-- The preferred choice maps a row, and an outlook has a word exactly where one would follow it, with no more turns left.
pub record Explores (c : Choices) (outlook : Outlook) (n : ℕ) (e : End) (test : Test) : Type 0 where
  pub row : StandsAtRow c n e test
  pub words : AtEachLater n e (λ n' e'. (0 < words_ahead outlook n' e') ↔ (0 < length (after c n' e')))
  pub turns : AtEachLater n e (λ n' e'. turns_ahead outlook n' e' ≤ turns_left_after c n' e')

-- without an outlook the labels are tested true; with one it explores what would follow the last label's row (`Explores`), and all
-- before that are tested true
abbrev pub AreAdmitted : Option Outlook → Choices → ℕ → End → Test → Type 0
AreAdmitted None c n e test = tested test (entered c) ≡ True
AreAdmitted (Some outlook) c n e test = Explores c outlook n e test

-- the choices of a search fit what is asked
unfoldable pub ChoicesStand : Search → Asked → Type 0
ChoicesStand s asked = StandsBy s.choices asked

-- the labels of a search are tested true: all, or where it has an outlook all but the last, whose row the outlook explores
unfoldable pub LabelsStand : Search → Asked → Type 0
LabelsStand s asked = AreAdmitted s.outlook s.choices asked.known asked.end (test_from s.choices asked)

-- the labels of a search are of variables that are tested
unfoldable pub LabelsBelow : Search → Asked → Type 0
LabelsBelow s asked = AreBelow asked.variables (entered s.choices)

-- what a search remembers of where it failed is so
unfoldable pub MemoStands : Search → Asked → Type 0
MemoStands s asked = Remembers s.memo s.choices asked

-- marks of a search are left before their place is come to again
unfoldable pub MarksStand : Search → Asked → Type 0
MarksStand s asked = TakeLess s.choices asked s.memo.marks

-- A search stands by what is asked: the words that it has passed over are refused, its choices stand for all others, and
-- its labels are tested true and of variables that are tested. Where it has an outlook, all labels but the last are tested
-- true, and the outlook has a word exactly where one would follow the last one's row, with no more turns left.
pub record SearchStands (s : Search) (asked : Asked) : Type 0 where
  pub stands : ChoicesStand s asked
  pub labels : LabelsStand s asked
  pub below : LabelsBelow s asked

-- A search fits what is asked: it stands by it, what it remembers of where it failed is so, and its marks are left in time.
pub record SearchFits (s : Search) (asked : Asked) : Type 0 where
  pub stands : ChoicesStand s asked
  pub labels : LabelsStand s asked
  pub below : LabelsBelow s asked
  pub memo : MemoStands s asked
  pub marks : MarksStand s asked

-- by what the test of the last label says: while it is open the turns for exploring, and else those of the choices as
-- they stand
abbrev pub unless_open : Seen → ℕ → ℕ → ℕ
unless_open True standing exploring = standing
unless_open NotTrue standing exploring = standing
unless_open OpenTest standing exploring = exploring

-- how many turns are left at most: those of the choices; with an outlook, while its row's test is open, those below and
-- the outlook's
abbrev pub left_given : Option Outlook → Choices → ℕ → End → Test → ℕ
left_given None c n e test = turns_left c n e
left_given (Some outlook) c n e test =
    unless_open (test (entered c)) (turns_left c n e) (turns_left_below c n e + turns_ahead outlook n e)

-- how many turns are left at most, while this is asked
unfoldable pub left_by : Search → Asked → ℕ
left_by s asked = left_given s.outlook s.choices asked.known asked.end (test_from s.choices asked)
