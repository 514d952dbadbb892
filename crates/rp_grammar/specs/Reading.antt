-- Reading from the front of a list of tokens, and what a reader that may run out of memory returns.
use Rattle.std.specs.Prelude.{◌≡◌, ℕ, List, [], ◌∷◌, Result, Ok, Err, Bool, false, ◌||◌, ◌⊎◌, if◌then◌else◌, length}
use Rattle.rp_lexer.specs.declared.kind.TokenKind.{TokenKind}
use Rattle.rp_lexer.specs.declared.token.Token.{Token}
use Rattle.rp_lexer.specs.contracts.kind.TokenKindPartialEq.TheImpl.{ghosts}
use Rattle.rp_grammar.specs.declared.fault.ParseFault.{ParseFault}
use Rattle.rp_grammar.specs.declared.fault.ParseFault.TheVariants as fault

infixl 10 ◌>>=◌
abbrev pub ◌>>=◌ : {A B : Type 0} → Result A ParseFault → (A → Result B ParseFault) → Result B ParseFault
(Ok x) >>= f = f x
(Err e) >>= f = Err e

-- the fault is the one that is read, unless memory ran out
abbrev pub Refuses : {Y : Type 0} → ParseFault → Result Y ParseFault → Type 0
Refuses fault.OutOfMemory read = Unit {0}
Refuses (fault.Expected at) read = read ≡ Err (fault.Expected at)
Refuses (fault.Deep at) read = read ≡ Err (fault.Deep at)

-- what a function returned, seen by view, is what is read, unless memory ran out
abbrev pub Gives : {X Y : Type 0} → (X → Y) → Result X ParseFault → Result Y ParseFault → Type 0
Gives view (Ok x) read = read ≡ Ok (view x)
Gives view (Err e) read = Refuses e read

abbrev pub same_kind : TokenKind → TokenKind → Bool
same_kind = ghosts.eq

-- the kind is one of these
abbrev pub among : List TokenKind → TokenKind → Bool
among [] k = false
among (j ∷ js) k = same_kind k j || among js k

-- the offset of the next token, or of the end of the text
abbrev pub place : List ℕ → List Token → ℕ
place text [] = length text
place text (t ∷ rest) = t.start

-- the tokens begin with one of these kinds
abbrev pub starts : List TokenKind → List Token → Bool
starts kinds [] = false
starts kinds (t ∷ rest) = among kinds t.kind

-- the first token, where it is of one of these kinds, and what follows it
abbrev pub take_at : List TokenKind → List ℕ → List Token → Result (Token × List Token) ParseFault
take_at kinds text [] = Err (fault.Expected (length text))
take_at kinds text (t ∷ rest) = if among kinds t.kind then Ok (t, rest) else Err (fault.Expected t.start)

-- the offset is the start of one of the tokens, or the length of the text
abbrev pub IsPlace : List ℕ → List Token → ℕ → Type 0
IsPlace text [] at = at ≡ length text
IsPlace text (t ∷ rest) at = (at ≡ t.start) ⊎ IsPlace text rest at

-- a fault tells such an offset
abbrev pub IsFaultIn : List ℕ → List Token → ParseFault → Type 0
IsFaultIn text tokens (fault.Expected at) = IsPlace text tokens at
IsFaultIn text tokens (fault.Deep at) = IsPlace text tokens at
IsFaultIn text tokens fault.OutOfMemory = Unit {0}
