-- The line that says what was saved.
use Rattle.std.specs.Prelude.{ℕ, List, ◌++◌, codes, decimal}

-- `{"saved":N}`: what N lines of this connection did is saved
abbrev pub saved_line : ℕ → List ℕ
saved_line count = codes "{\"saved\":" ++ decimal count ++ codes "}\n"
