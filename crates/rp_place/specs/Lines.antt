-- The lines of a text.
use Rattle.std.specs.Prelude.{ℕ, ◌+◌, ◌==◌, Bool, List, chars, length}
use Rattle.std.specs.List.{after_last, before_first, count_by}
use Rattle.std.specs.Str.Lines.{strip_carriage_return}

-- whether a byte ends a line
abbrev pub is_line_feed : ℕ → Bool
is_line_feed byte = byte == 10

-- how many line feeds a text has
abbrev pub line_feeds : List ℕ → ℕ
line_feeds text = count_by is_line_feed text

-- the number of the line in which a text ends: one more than it has line feeds
abbrev pub line_number : List ℕ → ℕ
line_number text = line_feeds text + 1

-- what stands before the first line feed of a text, without a carriage return at its end
abbrev pub first_line : List ℕ → List ℕ
first_line text = strip_carriage_return (before_first is_line_feed text)

-- what stands behind the last line feed of a text
abbrev pub last_line : List ℕ → List ℕ
last_line text = after_last is_line_feed text

-- the number of the character behind this front of a line, from 1
abbrev pub column : List ℕ → ℕ
column front = length (chars front) + 1
