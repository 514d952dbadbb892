-- What was seen of rows stays when more come: own.
use Rattle.std.specs.Prelude.{◌≡◌, ℕ, ◌≤◌, List, length, ⊤}
use Rattle.rp_words.specs.declared.word.Label.{Label}
use Rattle.rp_words.specs.declared.word.Seen.{Seen}
use Rattle.rp_words.specs.declared.word.Seen.TheVariants.{True, NotTrue, Open as OpenTest}
use Rattle.rp_search.specs.Found.{Test}

-- what was seen stays: what is true or not true is so later, and what is open may become anything
abbrev pub SeenStays : Seen → Seen → Type 0
SeenStays True new = new ≡ True
SeenStays NotTrue new = new ≡ NotTrue
SeenStays OpenTest new = ⊤

-- what was seen stays, on labels of at most `rows` rows
abbrev pub TestsStay : ℕ → Test → Test → Type 0
TestsStay rows old new = (ls : List Label) → length ls ≤ rows → SeenStays (old ls) (new ls)
