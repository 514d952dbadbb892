-- Characters as they are shown.
use Rattle.std.specs.Prelude.{ℕ, ◌-◌, ◌==◌, nat_lt, List, ◌++◌, chars, codes, drop, length, map, take, if◌then◌else◌}
use Rattle.std.specs.Char.{is_control}

-- a front of so many characters or more is cut, so that a line stays within a window
abbrev pub long_front : ℕ
long_front = 70

-- so many characters of a front that is cut are shown
abbrev pub kept_front : ℕ
kept_front = 50

-- so many characters are shown from the place on
abbrev pub longest_rest : ℕ
longest_rest = 80

-- what stands for nothing
abbrev pub blank : ℕ
blank = 32

-- a mark: `^`
abbrev pub caret : ℕ
caret = 94

-- a tab is shown as a blank, any other control character as a question mark, and each other one as it is
abbrev pub shown_character : ℕ → ℕ
shown_character c = if c == 9 then blank else if is_control c then 63 else c

-- the characters of a text, as they are shown
abbrev pub shown : List ℕ → List ℕ
shown text = map shown_character (chars text)

-- the front of a line: as a whole where it is short, else two dots and its last characters
abbrev pub shown_front : List ℕ → List ℕ
shown_front front =
    if nat_lt (length (shown front)) long_front then shown front
    else codes ".." ++ drop (length (shown front) - kept_front) (shown front)

-- what is meant, as far as it is shown
abbrev pub shown_part : List ℕ → List ℕ
shown_part part = take longest_rest (shown part)

-- what is meant and what stands behind it, as far as they are shown
abbrev pub shown_rest : List ℕ → List ℕ → List ℕ
shown_rest part behind = take longest_rest (shown part ++ shown behind)
