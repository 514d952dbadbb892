-- Tokens whose bytes decide what they stand for, as the names of kinds do.
use Rattle.std.specs.Prelude.{◌≡◌, ℕ, List, [], ◌∷◌, Option, Some, None, Result, Ok, Err, true, false}
use Rattle.rp_lexer.specs.declared.kind.TokenKind.{TokenKind}
use Rattle.rp_lexer.specs.declared.token.Token.{Token}
use Rattle.rp_grammar.specs.declared.fault.ParseFault.{ParseFault}
use Rattle.rp_grammar.specs.declared.fault.ParseFault.TheVariants as fault
use Rattle.rp_grammar.specs.Reading.{◌>>=◌, among, take_at}
use Rattle.rp_grammar.specs.Grammar.{Grammar}

-- one token of one of these kinds that means something
pub record Means {A : Type 0} (kinds : List TokenKind) (meaning : Token → Option A) (tokens : List Token) (x : A) (rest : List Token) : Type 0 where
  pub token : Token
  pub kind : among kinds token.kind ≡ true
  pub tokens_are : tokens ≡ token ∷ rest
  pub means : meaning token ≡ Some x

abbrev pub meant : {A : Type 0} → Token → Option A → List Token → Result (A × List Token) ParseFault
meant token None rest = Err (fault.Expected token.start)
meant token (Some x) rest = Ok (x, rest)

abbrev pub meaning_of : {A : Type 0} → List TokenKind → (List ℕ → Token → Option A) → Grammar A
meaning_of kinds meaning = record {
  derives = λ text. Means kinds (meaning text);
  read = λ text s. take_at kinds text s >>= λ t. meant t.0 (meaning text t.0) t.1;
  first = kinds;
  empty = false;
  more = [];
}
