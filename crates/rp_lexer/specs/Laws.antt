-- A text has at most one reading: at most one token list, at most one first fault, and not both.
use Rattle.std.specs.Prelude.{◌≡◌, ℕ, List, All}
use Rattle.rp_lexer.specs.Lexes.{IsToken, Lexes}
use Rattle.rp_lexer.specs.Faults.{IsFirstFault}
use Rattle.rp_lexer.specs.Meanings.{MeansName, MeansText}
use Rattle.rp_lexer.specs.declared.kind.TokenKind.{TokenKind}
use Rattle.rp_lexer.specs.declared.fault.LexFault.{LexFault}
use Rattle.rp_lexer.specs.declared.token.Token.{Token}

-- no text has two token lists
abbrev pub OneTokenList : Type 0
OneTokenList =
    (text : List ℕ) (tokens others : List Token) → Lexes text tokens → Lexes text others → tokens ≡ others

-- no text has two first faults
abbrev pub OneFirstFault : Type 0
OneFirstFault =
    (text : List ℕ) (fault other : LexFault) → IsFirstFault text fault → IsFirstFault text other → fault ≡ other

-- no text that has a fault has a token list
abbrev pub NoTokensWithFault : Type 0
NoTokensWithFault =
    (text : List ℕ) (tokens : List Token) (fault : LexFault) → Lexes text tokens → IsFirstFault text fault → ⊥

-- each token of the list stands in the text
abbrev pub EachStands : Type 0
EachStands = (text : List ℕ) (tokens : List Token) → Lexes text tokens → All (IsToken text) tokens

-- bytes mean at most one name, as a token of one kind
abbrev pub OneNameMeaning : Type 0
OneNameMeaning =
    (kind : TokenKind) (bytes name other : List ℕ) → MeansName kind bytes name → MeansName kind bytes other → name ≡ other

-- bytes mean at most one text
abbrev pub OneTextMeaning : Type 0
OneTextMeaning = (bytes inside other : List ℕ) → MeansText bytes inside → MeansText bytes other → inside ≡ other
