-- Which bytes have the form of a token of each kind. Letters and digits are those of ASCII.
use Rattle.std.specs.Prelude.{◌≡◌, ◌≢◌, ℕ, ◌<◌, Bool, true, ◌||◌, ◌==◌, if◌then◌else◌, List, [], ◌∷◌, ◌++◌, length, map, slice_index, All}
use Rattle.std.specs.Char.{is_ascii_digit, to_ascii_lowercase}
pub use Rattle.rp_value.specs.Names.{is_name_start, is_name_byte, IsIdentifier}
pub use Rattle.rp_lexer.specs.Bytes.{single_quote, double_quote}
use Rattle.rp_lexer.specs.Spelling.{keyword_spelling, mark_spelling}
use Rattle.rp_lexer.specs.declared.kind.Keyword.{Keyword}
use Rattle.rp_lexer.specs.declared.kind.TokenKind.{TokenKind}
use Rattle.rp_lexer.specs.declared.kind.TokenKind.TheVariants as kinds

-- the same word, but for the case of its ASCII letters
abbrev pub SpellsAlike : List ℕ → List ℕ → Type 0
SpellsAlike a b = map to_ascii_lowercase a ≡ map to_ascii_lowercase b

-- the bytes, with two quotes in a row for each quote among them
abbrev pub doubled : ℕ → List ℕ → List ℕ
doubled quote [] = []
doubled quote (b ∷ bytes) =
    if b == quote then quote ∷ quote ∷ doubled quote bytes else b ∷ doubled quote bytes

-- the bytes between quotes, with two quotes in a row for each quote among them
abbrev pub enclosed : ℕ → List ℕ → List ℕ
enclosed quote inside = quote ∷ (doubled quote inside ++ quote ∷ [])

-- one or more digits
pub record IsDigits (bytes : List ℕ) : Type 0 where
  pub some : 0 < length bytes
  pub each : All (λ b. is_ascii_digit b ≡ true) bytes

-- the bytes have the form of a token of the kind
abbrev pub HasForm : TokenKind → List ℕ → Type 0
HasForm kinds.Name bytes = IsIdentifier bytes × ((word : Keyword) → SpellsAlike bytes (keyword_spelling word) → ⊥)
HasForm (kinds.Keyword word) bytes = IsIdentifier bytes × SpellsAlike bytes (keyword_spelling word)
HasForm kinds.Quoted bytes = (inside : List ℕ) × (inside ≢ []) × (bytes ≡ enclosed double_quote inside)
HasForm kinds.Text bytes = (inside : List ℕ) × (bytes ≡ enclosed single_quote inside)
HasForm kinds.Number bytes = IsDigits bytes
HasForm (kinds.Mark mark) bytes = bytes ≡ mark_spelling mark

-- a token of some kind begins with these bytes, or is these bytes
pub record BeginsToken (bytes : List ℕ) : Type 0 where
  pub kind : TokenKind
  pub more : List ℕ
  pub form : HasForm kind (bytes ++ more)
