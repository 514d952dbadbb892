-- What a whole text derives, and where one stops that derives nothing.
use Rattle.std.specs.Prelude.{ℕ, List, []}
use Rattle.rp_lexer.specs.Lexes.{Lexes}
use Rattle.rp_lexer.specs.declared.token.Token.{Token}
use Rattle.rp_grammar.specs.Reading.{IsPlace}
use Rattle.rp_grammar.specs.Grammar.{Grammar}

-- all tokens of the text derive this
pub record TextDerives {A : Type 0} (grammar : Grammar A) (text : List ℕ) (x : A) : Type 0 where
  pub tokens : List Token
  pub lexed : Lexes text tokens
  pub derived : grammar.derives text tokens x []

-- they derive nothing, and the offset is the start of one of them or the length of the text
pub record IsMisplaced {A : Type 0} (grammar : Grammar A) (text : List ℕ) (at : ℕ) : Type 0 where
  pub tokens : List Token
  pub lexed : Lexes text tokens
  pub place : IsPlace text tokens at
  pub none : (x : A) → TextDerives grammar text x → ⊥
