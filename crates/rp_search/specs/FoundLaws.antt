-- What is found stays over whatever comes later. These laws are this project's own.
use Rattle.std.specs.Prelude.{◌≡◌, ◌≢◌, ℕ, ◌≤◌, List, [], ◌∷◌, ◌++◌, length}
use Rattle.std.specs.List.{AllByRecursion}
use Rattle.rp_words.specs.declared.word.Label.{Label}
use Rattle.rp_words.specs.declared.word.Seen.TheVariants.{True, Open as OpenTest}
use Rattle.rp_words.specs.Mapping.{Mapping, Full, labels_of}
use Rattle.rp_words.specs.WordLaws.{BeginsWith, Extends, IsFull}
use Rattle.rp_search.specs.SeenStays.{TestsStay}
use Rattle.rp_search.specs.Found.{Test, tested, Status, Good, Refused, Undecided, status, Match, Waits, found}

-- no word maps more rows than that
abbrev pub AreShort : ℕ → List Mapping → Type 0
AreShort rows ws = AllByRecursion (λ w. length (labels_of w) ≤ rows) ws

-- What is found stays over whatever comes later, unless it waits: a match is the same match, and where there is none
-- there is none later.
abbrev pub FoundStays : Type 0
FoundStays = (rows : ℕ) (old new : Test) (ws ws' : List Mapping) →
    TestsStay rows old new → AreShort rows ws → Extends ws ws' → found old ws ≢ Waits → found new ws' ≡ found old ws

-- by the status of a word: where it is refused what is made of the later ones, and else the words from here on
abbrev pub from_status : Status → List Mapping → List Mapping → List Mapping
from_status Refused here later = later
from_status Good here later = here
from_status Undecided here later = here

-- the words from the first one that isn't refused on
abbrev pub unrefused : Test → List Mapping → List Mapping
unrefused test [] = []
unrefused test (w ∷ ws) = from_status (status test w) (w ∷ ws) (unrefused test ws)

-- What is found later is found among words that extend those from the first unrefused one on: the words before it are
-- not needed again.
pub record Resumes (old new : Test) (ws ws' : List Mapping) : Type 0 where
  pub rest : List Mapping
  pub extends : Extends (unrefused old ws) rest
  pub same : found new ws' ≡ found new rest

-- So it is over whatever comes later: a search goes on from the word where it waited.
abbrev pub FoundResumes : Type 0
FoundResumes = (rows : ℕ) (old new : Test) (ws ws' : List Mapping) →
    TestsStay rows old new → AreShort rows ws → Extends ws ws' → Resumes old new ws ws'

-- Where each word is full, as over a closed end, and no test is open, no search waits.
abbrev pub ClosedDecides : Type 0
ClosedDecides = (test : Test) (ws : List Mapping) →
    ((ls : List Label) → test ls ≢ OpenTest) → AllByRecursion IsFull ws → found test ws ≢ Waits

-- A match is one of the words: it is full, its rows are admitted, and each word before it is refused.
pub record IsFirstMatch (test : Test) (ws : List Mapping) (ls : List Label) : Type 0 where
  pub before : List Mapping
  pub after : List Mapping
  pub word : ws ≡ before ++ Full ls ∷ after
  pub refused : AllByRecursion (λ w. status test w ≡ Refused) before
  pub admitted : tested test ls ≡ True

-- Each match that is found is such a word.
abbrev pub MatchIsWord : Type 0
MatchIsWord = (test : Test) (ws : List Mapping) (ls : List Label) → found test ws ≡ Match ls → IsFirstMatch test ws ls

-- What is refused stays refused, with every word that begins with its labels.
abbrev pub RefusedStays : Type 0
RefusedStays = (rows : ℕ) (old new : Test) (w w' : Mapping) →
    TestsStay rows old new → length (labels_of w) ≤ rows → BeginsWith (labels_of w) w' → status old w ≡ Refused →
    status new w' ≡ Refused

-- What is good stays good.
abbrev pub GoodStays : Type 0
GoodStays = (rows : ℕ) (old new : Test) (w : Mapping) →
    TestsStay rows old new → length (labels_of w) ≤ rows → status old w ≡ Good → status new w ≡ Good
