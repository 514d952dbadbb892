-- The one token list of a text.
use Rattle.std.specs.Prelude.{◌≡◌, ◌≢◌, ℕ, suc, ◌+◌, ◌<◌, ◌≤◌, ◌^◌, Bool, ◌||◌, true, ◌==◌, ◌⊎◌, List, [], ◌∷◌, length, slice_index, slice_range}
use Rattle.std.specs.Str.Parse.{digits_value}
use Rattle.rp_lexer.specs.Bytes.{space, tab, carriage_return, line_feed, minus_sign}
use Rattle.rp_lexer.specs.Forms.{HasForm, BeginsToken}
use Rattle.rp_lexer.specs.declared.kind.TokenKind.{TokenKind}
use Rattle.rp_lexer.specs.declared.kind.TokenKind.TheVariants as kinds
use Rattle.rp_lexer.specs.declared.token.Token.{Token}

-- space, tab, CR and LF
abbrev pub is_separator : ℕ → Bool
is_separator b = b == space || b == tab || b == carriage_return || b == line_feed

-- `--` stands at the place
abbrev pub CommentBegins : List ℕ → ℕ → Type 0
CommentBegins text at = (slice_index text at ≡ minus_sign) × (slice_index text (at + 1) ≡ minus_sign)

-- a comment goes from `--` up to the next LF, or to the end of the text
pub record IsComment (text : List ℕ) (start end : ℕ) : Type 0 where
  pub begins : CommentBegins text start
  pub order : start + 2 ≤ end
  pub within : end ≤ length text
  pub inside : (at : ℕ) → start + 2 ≤ at → at < end → slice_index text at ≢ line_feed
  pub ends : (end ≡ length text) ⊎ (slice_index text end ≡ line_feed)

-- separators and comments alone stand from one place up to another
pub data IsGap : List ℕ → ℕ → ℕ → Type 0 where
  nothing : {text : List ℕ} {at : ℕ} → IsGap text at at
  separator : {text : List ℕ} {at end : ℕ} → is_separator (slice_index text at) ≡ true → IsGap text (suc at) end → IsGap text at end
  comment : {text : List ℕ} {at end : ℕ} (next : ℕ) → IsComment text at next → IsGap text next end → IsGap text at end

-- From start to end stands the form of a token of the kind, and no token begins with more of the text than that.
pub record IsLongest (text : List ℕ) (kind : TokenKind) (start end : ℕ) : Type 0 where
  pub order : start < end
  pub within : end ≤ length text
  pub form : HasForm kind (slice_range text start end)
  pub longest : (more : ℕ) → end < more → more ≤ length text → BeginsToken (slice_range text start more) → ⊥

-- the value of the digits is at most 9223372036854775807, which is 2^63 - 1
abbrev pub IsInRange : List ℕ → Type 0
IsInRange digits = digits_value 10 digits < 2 ^ 63

-- The token stands in the text: it is the longest at its place, where no comment begins, and a number is in range.
pub record IsToken (text : List ℕ) (token : Token) : Type 0 where
  pub longest : IsLongest text token.kind token.start token.end
  pub no_comment : CommentBegins text token.start → ⊥
  pub in_range : token.kind ≡ kinds.Number → IsInRange (slice_range text token.start token.end)

-- From one place up to another stand these tokens in order, none within another, with separators and comments alone round them.
abbrev pub LexesUpTo : List ℕ → ℕ → List Token → ℕ → Type 0
LexesUpTo text at [] end = IsGap text at end
LexesUpTo text at (token ∷ tokens) end = IsGap text at token.start × IsToken text token × LexesUpTo text token.end tokens end

-- the tokens are those of the text
abbrev pub Lexes : List ℕ → List Token → Type 0
Lexes text tokens = LexesUpTo text 0 tokens (length text)
