-- What is wrong with a text that has no token list.
use Rattle.std.specs.Prelude.{◌≡◌, ◌≢◌, ℕ, ◌+◌, ◌<◌, ◌⊎◌, false, List, ◌∷◌, length, drop, slice_index, slice_range}
use Rattle.rp_lexer.specs.Forms.{HasForm, doubled, single_quote, double_quote}
use Rattle.rp_lexer.specs.Lexes.{is_separator, IsLongest, IsInRange, LexesUpTo}
use Rattle.rp_lexer.specs.declared.fault.LexFault.{LexFault}
use Rattle.rp_lexer.specs.declared.fault.LexFault.TheVariants.{BadChar, OpenText, OpenName, NumberRange, OutOfMemory}
use Rattle.rp_lexer.specs.declared.kind.TokenKind.{TokenKind}
use Rattle.rp_lexer.specs.declared.kind.TokenKind.TheVariants as kinds
use Rattle.rp_lexer.specs.declared.token.Token.{Token}

-- the byte is no separator, and no token begins with it
abbrev pub IsStray : ℕ → Type 0
IsStray b = (is_separator b ≡ false) × ((kind : TokenKind) (more : List ℕ) → HasForm kind (b ∷ more) → ⊥)

-- `""` stands at the place, and no third `"` directly follows
abbrev pub IsEmptyQuoted : List ℕ → ℕ → Type 0
IsEmptyQuoted text at =
    (slice_index text at ≡ double_quote)
    × (slice_index text (at + 1) ≡ double_quote)
    × (slice_index text (at + 2) ≢ double_quote)

-- a quote stands at the place and is never closed: behind it quotes stand only two in a row, for one quote inside
abbrev pub IsUnclosed : ℕ → List ℕ → ℕ → Type 0
IsUnclosed quote text at = (inside : List ℕ) × (drop at text ≡ quote ∷ doubled quote inside)

-- What a fault says is so at its offset: there stands a stray byte or an empty quoted name, the quote of a text literal or of a name
-- that is never closed, or a number that is out of range. Being out of memory is no fault of a text.
abbrev pub IsFault : List ℕ → LexFault → Type 0
IsFault text (BadChar at) = (at < length text) × (IsStray (slice_index text at) ⊎ IsEmptyQuoted text at)
IsFault text (OpenText at) = IsUnclosed single_quote text at
IsFault text (OpenName at) = IsUnclosed double_quote text at
IsFault text (NumberRange at) =
    (end : ℕ) × IsLongest text kinds.Number at end × (IsInRange (slice_range text at end) → ⊥)
IsFault text OutOfMemory = ⊥

-- the offset of a fault; 0 for being out of memory, which has none
abbrev pub offset : LexFault → ℕ
offset (BadChar at) = at
offset (OpenText at) = at
offset (OpenName at) = at
offset (NumberRange at) = at
offset OutOfMemory = 0

-- the first fault of the text: up to its offset stand tokens, separators and comments alone
pub record IsFirstFault (text : List ℕ) (fault : LexFault) : Type 0 where
  pub tokens : List Token
  pub before : LexesUpTo text 0 tokens (offset fault)
  pub cause : IsFault text fault
