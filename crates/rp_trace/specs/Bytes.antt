-- Bytes that definitions name, each by its character.
use Rattle.std.specs.Prelude.{ℕ, codes, slice_index}

-- the letters of rows
abbrev pub lower_a : ℕ
lower_a = slice_index (codes "a") 0

abbrev pub lower_z : ℕ
lower_z = slice_index (codes "z") 0

-- the letters of variables
abbrev pub upper_a : ℕ
upper_a = slice_index (codes "A") 0

abbrev pub upper_z : ℕ
upper_z = slice_index (codes "Z") 0

-- the marks of a pattern
abbrev pub vertical_bar : ℕ
vertical_bar = slice_index (codes "|") 0

abbrev pub asterisk : ℕ
asterisk = slice_index (codes "*") 0

abbrev pub left_parenthesis : ℕ
left_parenthesis = slice_index (codes "(") 0

-- what may stand between them
abbrev pub space : ℕ
space = slice_index (codes " ") 0
