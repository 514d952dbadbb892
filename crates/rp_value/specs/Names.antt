-- Which texts have the form of a name, and the upper-case form of one: ISO/IEC 9075-2:2016, 5.2, <regular identifier>.
-- Letters and digits are those of ASCII. That a name may begin with `_` is this project's own.
use Rattle.std.specs.Prelude.{◌≡◌, ℕ, Bool, true, ◌||◌, ◌==◌, List, codes, map, slice_index, All}
use Rattle.std.specs.Char.{is_ascii_alphabetic, is_ascii_alphanumeric, to_ascii_uppercase}

abbrev pub underscore : ℕ
underscore = slice_index (codes "_") 0

-- a letter or `_`
abbrev pub is_name_start : ℕ → Bool
is_name_start b = is_ascii_alphabetic b || b == underscore

-- a letter, a digit or `_`
abbrev pub is_name_byte : ℕ → Bool
is_name_byte b = is_ascii_alphanumeric b || b == underscore

-- a letter or `_`, and then letters, digits and `_`
pub record IsIdentifier (bytes : List ℕ) : Type 0 where
  pub start : is_name_start (slice_index bytes 0) ≡ true
  pub each : All (λ b. is_name_byte b ≡ true) bytes

-- the text has the form of a name, be it a reserved word or not, and this is its upper-case form
abbrev pub IsUpperCaseName : List ℕ → List ℕ → Type 0
IsUpperCaseName text name = IsIdentifier text × (name ≡ map to_ascii_uppercase text)
