-- The rows of a text of objects, one a line, and its first fault. Blank lines are passed over.
use Rattle.std.specs.Prelude.{◌≡◌, ◌<◌, ◌≤◌, ◌+◌, ⊤, ℕ, Bool, true, false, List, [], ◌∷◌, ◌++◌, length, MatchBool, MatchOption, Some, is_some, Ok, Err}
use Rattle.std.specs.List.{AllByRecursion, list_all}
use Rattle.std.specs.Str.{IsUtf8}
use Rattle.json.specs.Find.{as_object}
use Rattle.json.specs.declared.error.Error.{Error}
use Rattle.json.specs.declared.error.Error.TheVariants as error
use Rattle.json.specs.Json.{Json, document}
use Rattle.json.specs.Strict.{HasUniqueKeys}
use Rattle.json.specs.Word.{is_space}
use Rattle.rp_value.specs.declared.value.Value.{Value}
use Rattle.rp_io.specs.Lines.{lines_of}
use Rattle.rp_columns.specs.declared.columns.InputColumn.{InputColumn}
use Rattle.rp_objects.specs.Cells.{cells_from}
use Rattle.rp_objects.specs.declared.fault.FieldFault.{FieldFault}
use Rattle.rp_objects.specs.declared.fault.ObjectsFault.{ObjectsFault}
use Rattle.rp_objects.specs.declared.fault.ObjectsFault.TheVariants.{NotObject, DoubleKey, Field, TooMany, OutOfMemory}

-- The most objects that a text may have: own, as many as a CSV may have records.
abbrev pub most_objects : ℕ
most_objects = 1099511627776

-- a line of spaces, tabs and carriage returns alone
abbrev pub is_blank : List ℕ → Bool
is_blank line = list_all is_space line

-- the line is this object, and no object in it has a key twice
pub record IsObject (line : List ℕ) (j : Json) : Type 0 where
  pub text : IsUtf8 line
  pub read : document line ≡ Some j
  pub is : is_some (as_object j) ≡ true
  pub unique : HasUniqueKeys j

-- the line is the object of this number, and its cells are this row
abbrev pub IsRowBy : List (List ℕ) → List InputColumn → ℕ → List ℕ → List Value → Type 0
IsRowBy words columns number line row = (j : Json) × IsObject line j × (cells_from 0 words number j columns ≡ Ok row)

-- the lines that aren't blank, numbered from this one on, are these rows
abbrev pub AreRowsBy : List (List ℕ) → List InputColumn → ℕ → List (List ℕ) → List (List Value) → Type 0
AreRowsBy words columns number [] [] = ⊤
AreRowsBy words columns number [] (row ∷ rows) = ⊥
AreRowsBy words columns number (l ∷ ls) [] = (is_blank l ≡ true) × AreRowsBy words columns number ls []
AreRowsBy words columns number (l ∷ ls) (row ∷ rows) = MatchBool (is_blank l) (AreRowsBy words columns number ls (row ∷ rows))
    (IsRowBy words columns number l row × AreRowsBy words columns (number + 1) ls rows)

-- the objects of the text, numbered from 1, are these rows
pub record AreRowsByObjects (words : List (List ℕ)) (columns : List InputColumn) (text : List ℕ) (rows : List (List Value)) : Type 0 where
  pub are : AreRowsBy words columns 1 (lines_of text) rows
  pub few : length rows ≤ most_objects

-- why a line is no row, by its number among the objects
abbrev pub Reason : Type 1
Reason = ℕ → List ℕ → Type 0

-- the first line of a text that is neither blank nor a row, by its number from 1
pub record IsFirstBad (words : List (List ℕ)) (columns : List InputColumn) (text : List ℕ) (place : ℕ) (Why : Reason) : Type 0 where
  pub before : List (List ℕ)
  pub line : List ℕ
  pub after : List (List ℕ)
  pub rows : List (List Value)
  pub all : lines_of text ≡ before ++ line ∷ after
  pub are : AreRowsBy words columns 1 before rows
  pub is : place ≡ length before + 1
  pub full : is_blank line ≡ false
  pub few : length rows ≤ most_objects
  pub why : Why (length rows + 1) line

-- the line isn't UTF-8, or JSON, or is another value than an object
abbrev pub IsNoObject : List ℕ → Type 0
IsNoObject line = IsUtf8 line → MatchOption (document line) ⊤ (λ j. is_some (as_object j) ≡ false)

-- it is JSON, and an object in it has a key twice
abbrev pub HasKeyTwice : List ℕ → Type 0
HasKeyTwice line = (j : Json) × (document line ≡ Some j) × (HasUniqueKeys j → ⊥)

-- it is an object that has no value for the column of this index
abbrev pub HasNoCell : List (List ℕ) → List InputColumn → ℕ → FieldFault → ℕ → List ℕ → Type 0
HasNoCell words columns index why number line = (j : Json) × IsObject line j × (cells_from 0 words number j columns ≡ Err (index, why))

-- The first fault of a text.
abbrev pub IsByObjectsFault : List (List ℕ) → List InputColumn → List ℕ → ObjectsFault → Type 0
IsByObjectsFault words columns text (NotObject place) = IsFirstBad words columns text place (λ number line. IsNoObject line)
IsByObjectsFault words columns text (DoubleKey place) = IsFirstBad words columns text place (λ number line. HasKeyTwice line)
IsByObjectsFault words columns text (Field place index why) = IsFirstBad words columns text place (HasNoCell words columns index why)
IsByObjectsFault words columns text (TooMany place) = IsFirstBad words columns text place (λ number line. most_objects < number)
IsByObjectsFault words columns text OutOfMemory = ⊤

-- ---- inside

-- why the line of this number, the object of that one, is no row
abbrev pub IsLineFault : List (List ℕ) → List InputColumn → ℕ → List ℕ → ℕ → ObjectsFault → Type 0
IsLineFault words columns number line at (NotObject place) = (place ≡ at) × IsNoObject line
IsLineFault words columns number line at (DoubleKey place) = (place ≡ at) × HasKeyTwice line
IsLineFault words columns number line at (Field place index why) = (place ≡ at) × HasNoCell words columns index why number line
IsLineFault words columns number line at (TooMany place) = ⊥
IsLineFault words columns number line at OutOfMemory = ⊤

-- how an error of reading JSON is told, of the line of this place
abbrev pub fault_told : Error → ℕ → ObjectsFault
fault_told error.DuplicateKey place = DoubleKey place
fault_told error.OutOfMemory place = OutOfMemory
fault_told error.Invalid place = NotObject place
fault_told error.TooLong place = NotObject place

-- why the text of the line of this place is no object
abbrev pub IsTextFault : List ℕ → ℕ → ObjectsFault → Type 0
IsTextFault text at (NotObject place) = (place ≡ at) × IsNoObject text
IsTextFault text at (DoubleKey place) = (place ≡ at) × HasKeyTwice text
IsTextFault text at OutOfMemory = ⊤
IsTextFault text at _ = ⊥

-- one more line was taken, as the next of these rows
abbrev pub TakesRow : List (List ℕ) → List InputColumn → ℕ → List ℕ → List (List Value) → List (List Value) → Type 0
TakesRow words columns number line old new = (row : List Value) × IsRowBy words columns number line row × (new ≡ old ++ row ∷ [])

-- lines that are blank
abbrev pub AreBlank : List (List ℕ) → Type 0
AreBlank lines = AllByRecursion (λ l. is_blank l ≡ true) lines

-- The next line that isn't blank was taken of those left, and those before it: by how many were taken before and after.
pub record TakesFull (old : List ℕ) (taken : ℕ) (new : List ℕ) (taken' : ℕ) (line : List ℕ) : Type 0 where
  pub blank : List (List ℕ)
  pub are : lines_of old ≡ blank ++ line ∷ lines_of new
  pub skipped : AreBlank blank
  pub full : is_blank line ≡ false
  pub place : taken' ≡ taken + length blank + 1
