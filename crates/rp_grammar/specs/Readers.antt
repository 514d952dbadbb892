-- What a reader of a grammar returns: what the front of some tokens stands for, and the tokens that are left.
use Rattle.std.specs.Prelude.{ℕ, List, [], ◌∷◌, Result, Ok, Err, false, ◌<◌, ◌≤◌, length, All}
use Rattle.std.specs.Borrow.{Bor}
use Rattle.rp_lexer.specs.Lexes.{IsToken}
use Rattle.rp_lexer.specs.declared.kind.TokenKind.{TokenKind}
use Rattle.rp_lexer.specs.declared.token.Token.{Token}
use Rattle.rp_grammar.specs.declared.fault.ParseFault.{ParseFault}
use Rattle.rp_grammar.specs.Grammar.{Grammar, Stands}
use Rattle.rp_grammar.specs.Reading.{Gives, take_at}

-- one token of this kind, as it is
abbrev pub token : TokenKind → Grammar Token
token kind = record {
  derives = λ text. Stands (kind ∷ []) (λ t. t);
  read = take_at (kind ∷ []);
  first = kind ∷ [];
  empty = false;
  more = [];
}

-- a value that is seen as it is
abbrev pub itself : {A : Type 0} → A → A
itself x = x

-- the tokens that are left are so, where a front of them was read
abbrev pub Leaves : {X : Type 0} → Result (X × Bor (List Token)) ParseFault → (List Token → Type 0) → Type 0
Leaves (Ok x) is = is x.1.now
Leaves (Err e) is = Unit {0}

-- What is returned, seen by view, is what the grammar reads, unless memory ran out. Tokens of the text are left, fewer than there
-- were.
pub record Reads {X Y : Type 0} (grammar : Grammar Y) (view : X → Y) (text : List ℕ) (tokens : List Token) (result : Result (X × Bor (List Token)) ParseFault) : Type 0 where
  pub exact : Gives (λ x. (view x.0, x.1.now)) result (grammar.read text tokens)
  pub stands : Leaves result (All (IsToken text))
  pub shorter : Leaves result (λ rest. length rest < length tokens)

-- the same of a grammar that no token at all may meet
pub record ReadsSome {X Y : Type 0} (grammar : Grammar Y) (view : X → Y) (text : List ℕ) (tokens : List Token) (result : Result (X × Bor (List Token)) ParseFault) : Type 0 where
  pub exact : Gives (λ x. (view x.0, x.1.now)) result (grammar.read text tokens)
  pub stands : Leaves result (All (IsToken text))
  pub no_longer : Leaves result (λ rest. length rest ≤ length tokens)
