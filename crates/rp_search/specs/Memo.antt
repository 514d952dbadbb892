-- Inside: what a search remembers of where it failed, and how that stands to its choices and to what is asked.
use Rattle.std.specs.Prelude.{◌≡◌, ℕ, suc, ◌+◌, ◌<◌, ◌≤◌, min, List, [], ◌∷◌, length, Option, Some, None, IfSome}
use Rattle.std.specs.List.{AllByRecursion}
use Rattle.rp_words.specs.declared.form.Form.{Form}
use Rattle.rp_words.specs.declared.word.End.{End}
use Rattle.rp_words.specs.declared.word.Label.{Label}
use Rattle.rp_words.specs.Later.{AtEachLater}
use Rattle.rp_words.specs.Mapping.{Mapping, preceded}
use Rattle.rp_words.specs.Words.{words}
use Rattle.rp_pattern.specs.declared.choices.Choices.{Choices}
use Rattle.rp_pattern.specs.Choices.{start_of, whole_from, height, above, of_top, before_top, place_words, turns_left, turns_left_below, HasTop, IsAtPlace}
use Rattle.rp_search.specs.declared.memo.Mark.{Mark}
use Rattle.rp_search.specs.declared.memo.Memo.{Memo}
use Rattle.rp_search.specs.declared.table.Table.{Table}
use Rattle.rp_search.specs.Asked.{Asked, rows_from}
use Rattle.rp_search.specs.Lasting.{AreDead, IsMarked, IsPassed}
use Rattle.rp_search.specs.Locality.{IsAmong}
use Rattle.rp_search.specs.Refused.{IsRefusedWithin}
use Rattle.rp_search.specs.Table.{until_of}

-- the mark that the preferred choice leaves when it is split: its place and row, above the choices below it
pub record IsMarkOfTop (c : Choices) (mark : Mark) : Type 0 where
  pub place : IsAtPlace c mark.place
  pub row : mark.row ≡ start_of c + length (before_top c)
  pub top : mark.height + 1 ≡ height c
  pub words : (n : ℕ) (e : End) → above c mark.height n e ≡ of_top c n e

-- the words of the choices' pattern, from any row
abbrev pub MeantBy : Choices → ℕ → ℕ → End → Mapping → Type 0
MeantBy c start n e w = IsAmong w (whole_from c n e start)

-- The words of a mark's place from its row are marked below the choices above it: those of them that are not above it any more fail
-- from each start row below that one.
pub record IsMarkIn (c : Choices) (asked : Asked) (until : ℕ) (mark : Mark) : Type 0 where
  pub before : List Label
  pub row : mark.row ≡ start_of c + length before
  pub marked : IsMarked (MeantBy c) (λ n e. place_words c mark.place n e mark.row) (above c mark.height) asked (start_of c) until before
  -- behind these labels they are among the words of the choices' pattern
  pub among : AtEachLater asked.known asked.end
      (λ n e. AllByRecursion (λ w. MeantBy c (start_of c) n e (preceded before w)) (place_words c mark.place n e mark.row))

-- Marks, the last one first: each is below that height, and no higher than the one after it. What failed above it fails from each
-- start row that is below what it says, below what each mark after it says, and such.
abbrev pub AreMarksUnder : ℕ → Choices → Asked → (ℕ → Type 0) → List Mark → Type 0
AreMarksUnder bound c asked Such [] = Unit {0}
AreMarksUnder bound c asked Such (mark ∷ marks) =
    (mark.height < bound)
    × ((until : ℕ) → Such until → until ≤ mark.until → IsMarkIn c asked until mark)
    × AreMarksUnder (suc mark.height) c asked (λ until. Such until × (until ≤ mark.until)) marks

-- From each start row below what the table has for a place and a row, the words of the place from that row are dead.
abbrev pub AreFailures : Table → Choices → Asked → Type 0
AreFailures table c asked = (place row : ℕ) → start_of c ≤ row → start_of c < until_of table place row →
    AreDead (MeantBy c) (λ n e. place_words c place n e row) asked (start_of c) (until_of table place row) row

-- nothing is remembered
pub record IsBlank (memo : Memo) : Type 0 where
  pub marks : memo.marks ≡ []
  pub failures : (place row : ℕ) → until_of memo.failed place row ≡ 0

-- What is remembered is so, with marks below that height, as to start rows that are such. Where no pattern is named, nothing is.
pub record RemembersUnder (bound : ℕ) (Such : ℕ → Type 0) (memo : Memo) (c : Choices) (asked : Asked) : Type 0 where
  pub marks : AreMarksUnder bound c asked Such memo.marks
  pub failures : AreFailures memo.failed c asked
  pub unnamed : asked.pattern ≡ None → IsBlank memo

-- the start rows above the present one
abbrev pub Above : Choices → ℕ → Type 0
Above c until = start_of c < until

-- those of them that are no higher than that one
abbrev pub UpTo : Choices → ℕ → ℕ → Type 0
UpTo c most until = (start_of c < until) × (until ≤ most)

-- The choices are for the pattern that is asked of, if one is.
abbrev pub AreOfPattern : Option Form → Choices → Type 0
AreOfPattern pattern c = IfSome pattern (λ f. (n : ℕ) (e : End) (row : ℕ) → whole_from c n e row ≡ words n e f row)

-- What is remembered is so: above each mark there is a choice, and what has failed is dead. Only of tests that name their
-- pattern anything is remembered.
abbrev pub Remembers : Memo → Choices → Asked → Type 0
Remembers memo c asked = RemembersUnder (height c) (Above c) memo c asked

-- a choice was given up: what is remembered is so, but there may be no choice above some marks any more
abbrev pub StillRemembers : Memo → Choices → Asked → Type 0
StillRemembers memo c asked = RemembersUnder (suc (height c)) (Above c) memo c asked

-- the same, as to start rows no higher than that one: what was given up fails from those below it
abbrev pub RemembersUpTo : ℕ → Memo → Choices → Asked → Type 0
RemembersUpTo most memo c asked = RemembersUnder (suc (height c)) (UpTo c most) memo c asked

-- nothing but failures is remembered, and none that was not: none at all where the rows go back
pub record IsOf (from to : ℕ) (old new : Memo) : Type 0 where
  pub marks : new.marks ≡ []
  pub failures : (place row : ℕ) → 0 < until_of new.failed place row → (from ≤ to) × (until_of new.failed place row ≡ until_of old.failed place row)

-- below which start row the place of a mark has failed at its row
abbrev pub failed_until : Memo → Option Mark → ℕ
failed_until memo None = 0
failed_until memo (Some mark) = until_of memo.failed mark.place mark.row

-- what failed above the last mark fails from start rows below that one
abbrev pub lessened : ℕ → List Mark → List Mark
lessened until [] = []
lessened until (mark ∷ marks) = (record mark { until = min mark.until until }) ∷ marks

-- a mark on others, if there is one
abbrev pub marked_on : Option Mark → List Mark → List Mark
marked_on None marks = marks
marked_on (Some mark) marks = mark ∷ marks

-- The preferred choice is dead to start rows below that one: each of its words is refused on known rows, from the present start row
-- and from those, and it takes a turn at least.
pub record IsDeadTop (until : ℕ) (c : Choices) (asked : Asked) : Type 0 where
  pub has_top : HasTop c
  pub refused : AtEachLater asked.known asked.end (λ n e.
      AllByRecursion (IsRefusedWithin (rows_from (start_of c) asked.known) (asked.outcome (start_of c))) (of_top c n e))
  pub passed : AtEachLater asked.known asked.end (λ n e. AllByRecursion (IsPassed (MeantBy c) asked (start_of c) until) (of_top c n e))
  pub turns : (n : ℕ) (e : End) → turns_left_below c n e < turns_left c n e
