-- The limits of `trace`: own.
use Rattle.std.specs.Prelude.{ℕ}

-- The longest line whose match is looked for, in bytes. A search may take exponentially many turns, and of a line this much and one
-- byte is held at once.
abbrev pub longest_line : ℕ
longest_line = 4096

-- the variables of a pattern are the letters A to Z
abbrev pub letter_count : ℕ
letter_count = 26
