-- The text of a drawing.
use Rattle.std.specs.Prelude.{◌≡◌, ℕ, ◌<◌, ◌^◌, ◌-◌, ◌==◌, max, false, List, [], ◌∷◌, ◌++◌, codes, decimal, encode_utf8_all, length, replicate, if◌then◌else◌}
use Rattle.std.specs.List.{flat_map}
use Rattle.std.specs.Str.Lines.{lines}
use Rattle.unicode_width.specs.Width.{str_width}
use Rattle.rp_place.specs.Lines.{column, line_feeds}
use Rattle.rp_place.specs.Shown.{blank, caret, shown_front, shown_part, shown_rest}
use Rattle.rp_place.specs.declared.place.Place.{Place}

-- so many columns a line's number takes
abbrev pub number_columns : ℕ
number_columns = 4

-- a number behind so many blanks that it takes its columns, or more of them where it has more digits
abbrev pub right_aligned : ℕ → List ℕ
right_aligned number = replicate (number_columns - length (decimal number)) blank ++ decimal number

-- the first line: what the text is called, and the numbers of the line and of the character in it
abbrev pub heading : List ℕ → Place → List ℕ
heading name place =
    codes "  " ++ name ++ codes ", line " ++ decimal place.line ++ codes ", column " ++ decimal (column place.front.now) ++ codes "\n"

-- in the second line, before the place: the number of the line, a bar, and the line's front
abbrev pub before_place : ℕ → List ℕ → List ℕ
before_place line front = right_aligned line ++ codes " | " ++ shown_front front

-- in the third line, before the first mark: blanks under the number, the bar, a blank under each column of the front
abbrev pub before_marks : ℕ → List ℕ → List ℕ
before_marks line front =
    replicate (length (right_aligned line)) blank ++ codes " | " ++ replicate (str_width false (shown_front front)) blank

-- a mark under each column of what is meant, and one where that takes none
abbrev pub marks : List ℕ → List ℕ
marks part = replicate (max 1 (str_width false (shown_part part))) caret

-- what is said of the place, behind the marks
abbrev pub said : List ℕ → List ℕ
said what = if length what == 0 then [] else blank ∷ what

-- the second line: the line of the place, as far as it is shown
abbrev pub place_line : Place → List ℕ
place_line place =
    encode_utf8_all (before_place place.line place.front.now ++ shown_rest place.part.now place.behind.now) ++ codes "\n"

-- the third line: the marks, and what is said
abbrev pub marks_line : Place → List ℕ → List ℕ
marks_line place what =
    encode_utf8_all (before_marks place.line place.front.now ++ marks place.part.now) ++ said what ++ codes "\n"

-- the three lines of a drawing
abbrev pub drawing : List ℕ → Place → List ℕ → List ℕ
drawing name place what = heading name place ++ place_line place ++ marks_line place what

-- a line of a help, behind the word that tells what it is
abbrev pub help_line : List ℕ → List ℕ
help_line line = codes "  help: " ++ line ++ codes "\n"

-- each line of a help
abbrev pub help_lines : List ℕ → List ℕ
help_lines help = flat_map help_line (lines help)

-- A drawing has three line feeds, the ends of its lines, whatever text is shown in it, where neither what the text is called
-- nor what is said has one.
abbrev pub HasThreeLines : Type 0
HasThreeLines = (name : List ℕ) (place : Place) (what : List ℕ) → place.line < 2 ^ 64 → column place.front.now < 2 ^ 64
    → line_feeds name ≡ 0 → line_feeds what ≡ 0 → line_feeds (drawing name place what) ≡ 3
