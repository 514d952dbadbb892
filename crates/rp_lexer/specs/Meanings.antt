-- What names, text literals and numbers mean. Where a token is meant, the text that it stands in comes first.
use Rattle.std.specs.Prelude.{◌≡◌, ℕ, List, map, slice_range}
use Rattle.std.specs.Char.{to_ascii_uppercase}
use Rattle.std.specs.Str.Parse.{digits_value}
use Rattle.rp_lexer.specs.Forms.{enclosed, single_quote, double_quote}
use Rattle.rp_lexer.specs.declared.kind.TokenKind.{TokenKind}
use Rattle.rp_lexer.specs.declared.kind.TokenKind.TheVariants as kinds
use Rattle.rp_lexer.specs.declared.token.Token.{Token}

-- the bytes of a token
abbrev pub bytes_of : List ℕ → Token → List ℕ
bytes_of text token = slice_range text token.start token.end

-- The bytes of a token of this kind mean the name: those of a name its upper-case form, those of a quoted name what stands inside its
-- quotes, where two in a row stand for one. Those of another kind mean none.
abbrev pub MeansName : TokenKind → List ℕ → List ℕ → Type 0
MeansName kinds.Name bytes name = name ≡ map to_ascii_uppercase bytes
MeansName kinds.Quoted bytes name = bytes ≡ enclosed double_quote name
MeansName _ bytes name = ⊥

-- The bytes of a text literal mean what stands inside its quotes, where two in a row stand for one.
abbrev pub MeansText : List ℕ → List ℕ → Type 0
MeansText bytes inside = bytes ≡ enclosed single_quote inside

-- the token means the name
abbrev pub IsNameOf : List ℕ → Token → List ℕ → Type 0
IsNameOf text token name = MeansName token.kind (bytes_of text token) name

-- the token, a text literal, means what stands inside
abbrev pub IsTextOf : List ℕ → Token → List ℕ → Type 0
IsTextOf text token inside = MeansText (bytes_of text token) inside

-- the value of a token that is a number
abbrev pub number_of : List ℕ → Token → ℕ
number_of text token = digits_value 10 (bytes_of text token)
