-- Grammars over the tokens of a text: what a front of some tokens stands for.
use Rattle.std.specs.Prelude.{◌≡◌, ℕ, zero, suc, ◌≤◌, List, [], ◌∷◌, ◌++◌, length, Option, Some, None, Result, Ok, Err, Bool, true, false, ◌&&◌, ◌⊎◌, not, if◌then◌else◌}
use Rattle.rp_lexer.specs.declared.kind.TokenKind.{TokenKind}
use Rattle.rp_lexer.specs.declared.kind.TokenKind.TheVariants as kind
use Rattle.rp_lexer.specs.declared.kind.Mark.TheVariants as mark
use Rattle.rp_lexer.specs.declared.token.Token.{Token}
use Rattle.rp_lexer.specs.Meanings.{number_of}
use Rattle.rp_grammar.specs.declared.fault.ParseFault.{ParseFault}
use Rattle.rp_grammar.specs.declared.fault.ParseFault.TheVariants as fault
use Rattle.rp_grammar.specs.Reading.{◌>>=◌, among, take_at, starts, place}

-- A reader of a grammar checks `derives` alone. `derives text tokens x rest`: the tokens before the rest stand for x.
-- The other fields serve to find it: `read` goes by the next token alone, `first` are the kinds that it may begin
-- with, `empty` says that it may be no token, and `more` are the kinds with which it may go on.
pub record Grammar (A : Type 0) : Type 1 where
  pub derives : List ℕ → List Token → A → List Token → Type 0
  pub read : List ℕ → List Token → Result (A × List Token) ParseFault
  pub first : List TokenKind
  pub empty : Bool
  pub more : List TokenKind

-- none of the first kinds is one of the others
abbrev pub apart : List TokenKind → List TokenKind → Bool
apart [] js = true
apart (k ∷ ks) js = not (among js k) && apart ks js

-- one token of one of these kinds
pub record Stands {A : Type 0} (kinds : List TokenKind) (value : Token → A) (tokens : List Token) (x : A) (rest : List Token) : Type 0 where
  pub token : Token
  pub kind : among kinds token.kind ≡ true
  pub tokens_are : tokens ≡ token ∷ rest
  pub means : value token ≡ x

abbrev pub one_of : {A : Type 0} → List TokenKind → (List ℕ → Token → A) → Grammar A
one_of kinds value = record {
  derives = λ text. Stands kinds (value text);
  read = λ text s. take_at kinds text s >>= λ t. Ok (value text t.0, t.1);
  first = kinds;
  empty = false;
  more = [];
}

-- a reserved word or a mark, with its offset
abbrev pub word : TokenKind → Grammar ℕ
word k = one_of (k ∷ []) (λ text t. t.start)

-- a number, with its value
abbrev pub number : Grammar ℕ
number = one_of (kind.Number ∷ []) number_of

-- no token
abbrev pub nothing : {A : Type 0} → A → Grammar A
nothing x = record {
  derives = λ text s y r. (s ≡ r) × (x ≡ y);
  read = λ text s. Ok (x, s);
  first = [];
  empty = true;
  more = [];
}

-- no token, with the offset of the next one, or of the end of the text
abbrev pub here : Grammar ℕ
here = record {
  derives = λ text s x r. (s ≡ r) × (place text s ≡ x);
  read = λ text s. Ok (place text s, s);
  first = [];
  empty = true;
  more = [];
}

-- one and then the other
pub record Both {A B : Type 0} (g : List Token → A → List Token → Type 0) (h : List Token → B → List Token → Type 0) (tokens : List Token) (x : A × B) (rest : List Token) : Type 0 where
  pub middle : List Token
  pub left : g tokens x.0 middle
  pub right : h middle x.1 rest

infixr 30 ◌then◌
abbrev pub ◌then◌ : {A B : Type 0} → Grammar A → Grammar B → Grammar (A × B)
g then h = record {
  derives = λ text. Both (g.derives text) (h.derives text);
  read = λ text s. g.read text s >>= λ x. h.read text x.1 >>= λ y. Ok ((x.0, y.0), y.1);
  first = if g.empty then g.first ++ h.first else g.first;
  empty = g.empty && h.empty;
  more = if h.empty then h.more ++ g.more else h.more;
}

-- one or the other
infixr 20 ◌or◌
abbrev pub ◌or◌ : {A : Type 0} → Grammar A → Grammar A → Grammar A
g or h = record {
  derives = λ text s x r. g.derives text s x r ⊎ h.derives text s x r;
  read = λ text s. if starts g.first s then g.read text s else h.read text s;
  first = g.first ++ h.first;
  empty = h.empty;
  more = if h.empty then (g.more ++ h.more) ++ g.first else g.more ++ h.more;
}

-- what stands for x stands for f x
pub record Image {A B : Type 0} (f : A → B) (g : List Token → A → List Token → Type 0) (tokens : List Token) (y : B) (rest : List Token) : Type 0 where
  pub of : A
  pub derived : g tokens of rest
  pub is : f of ≡ y

abbrev pub gives : {A B : Type 0} → (A → B) → Grammar A → Grammar B
gives f g = record {
  derives = λ text. Image f (g.derives text);
  read = λ text s. g.read text s >>= λ x. Ok (f x.0, x.1);
  first = g.first;
  empty = g.empty;
  more = g.more;
}

-- it or nothing
abbrev pub optional : {A : Type 0} → Grammar A → Grammar (Option A)
optional g = gives Some g or nothing None

-- any number of times
pub data Many {A : Type 0} (g : List Token → A → List Token → Type 0) : List Token → List A → List Token → Type 0 where
  done : {s : List Token} → Many g s [] s
  next : {s m r : List Token} {x : A} {xs : List A} → g s x m → Many g m xs r → Many g s (x ∷ xs) r

abbrev pub many_at : {A : Type 0} → List TokenKind → (List Token → Result (A × List Token) ParseFault) → ℕ → List Token → Result (List A × List Token) ParseFault
many_at kinds read zero s = Ok ([], s)
many_at kinds read (suc n) s = if starts kinds s then (read s >>= λ x. many_at kinds read n x.1 >>= λ xs. Ok (x.0 ∷ xs.0, xs.1)) else Ok ([], s)

abbrev pub many : {A : Type 0} → Grammar A → Grammar (List A)
many g = record {
  derives = λ text. Many (g.derives text);
  read = λ text s. many_at g.first (g.read text) (length s) s;
  first = g.first;
  empty = true;
  more = g.first ++ g.more;
}

-- no tokens at all
abbrev pub never : {A : Type 0} → Grammar A
never = record {
  derives = λ text s x r. ⊥;
  read = λ text s. Err (fault.Expected (place text s));
  first = [];
  empty = false;
  more = [];
}

-- an opening bracket, where so many may still be opened
pub record Opens (room : ℕ) (kinds : List TokenKind) (tokens : List Token) (at : ℕ) (rest : List Token) : Type 0 where
  pub has_room : 1 ≤ room
  pub stands : Stands kinds (λ t. t.start) tokens at rest

abbrev pub opened : ℕ → Result (ℕ × List Token) ParseFault → Result (ℕ × List Token) ParseFault
opened zero (Ok x) = Err (fault.Deep x.0)
opened zero (Err e) = Err e
opened (suc left) read = read

abbrev pub opening : ℕ → TokenKind → Grammar ℕ
opening room k = record {
  derives = λ text. Opens room (k ∷ []);
  read = λ text s. opened room ((word k).read text s);
  first = k ∷ [];
  empty = false;
  more = [];
}

-- the second of two parts
abbrev pub second : {A B : Type 0} → A × B → B
second x = x.1

abbrev pub listing : {A : Type 0} → A × List A → List A
listing x = x.0 ∷ x.1

-- one or more, with commas between
abbrev pub listed : {A : Type 0} → Grammar A → Grammar (List A)
listed g = gives listing (g then many (gives second (word (kind.Mark mark.Comma) then g)))

-- a grammar under wider lists of kinds, which are known where its own aren't
abbrev pub under : {A : Type 0} → List TokenKind → List TokenKind → Grammar A → Grammar A
under first more g = record { derives = g.derives; read = g.read; first = first; empty = false; more = more }
