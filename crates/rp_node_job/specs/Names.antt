-- The names of what lies beside a node's file.
use Rattle.std.specs.Prelude.{◌||◌, ℕ, Bool, List, [], ◌∷◌, ◌++◌, codes, cond, decimal, nat_eq}
use Rattle.std.specs.Char.{is_ascii_digit}
use Rattle.std.specs.List.{ends_with}

-- of the file that takes its place
abbrev pub new_name : List ℕ → List ℕ
new_name path = path ++ codes ".new"

-- by which the file is locked
abbrev pub lock_name : List ℕ → List ℕ
lock_name path = path ++ codes ".lock"

-- under which the refused file of this number is kept: the first without a number
abbrev pub refused_name : List ℕ → ℕ → List ℕ
refused_name path number = path ++ codes ".refused" ++ cond (nat_eq number 1) [] (codes "." ++ decimal number)

-- ---- how these names end

abbrev pub is_digit : ℕ → Bool
is_digit byte = is_ascii_digit byte

-- A byte before a name that has no digit at its end: it stays, unless it is a digit and nothing follows it.
abbrev pub before_name : ℕ → List ℕ → List ℕ
before_name byte [] = cond (is_digit byte) [] (byte ∷ [])
before_name byte (next ∷ rest) = byte ∷ next ∷ rest

-- the name without the digits at its end
abbrev pub without_digits_end : List ℕ → List ℕ
without_digits_end [] = []
without_digits_end (byte ∷ bytes) = before_name byte (without_digits_end bytes)

abbrev pub ends_in : List ℕ → List ℕ → Bool
ends_in end name = ends_with nat_eq name end

-- A name ends as those above do, whatever file it lies beside: in .new, .lock, .refused, or .refused. and digits.
abbrev pub ends_beside : List ℕ → Bool
ends_beside name = ends_in (codes ".new") name || (ends_in (codes ".lock") name
    || (ends_in (codes ".refused") name || ends_in (codes ".refused.") (without_digits_end name)))
