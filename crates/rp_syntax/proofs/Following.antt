-- Reading behind a token that the tokens begin with.
use Rattle.std.proofs.Common.{◌≡◌, ℕ, ◌<◌, ◌≤◌, List, [], ◌∷◌, length, All, Option, Some, Result, Ok, Err, Bool, true, false, ◌||◌, refl, ap, ◌∙◌, arith}
use Rattle.std.specs.Borrow.{Bor}
use Rattle.std.proofs.lemmas.List.Elements.{All-rest}
use Rattle.rp_lexer.specs.declared.token.Token.{Token}
use Rattle.rp_lexer.specs.declared.kind.TokenKind.{TokenKind}
use Rattle.rp_grammar.specs.declared.fault.ParseFault.{ParseFault}
use Rattle.rp_grammar.specs.Reading.{◌>>=◌, place, same_kind, starts}
use Rattle.rp_grammar.specs.Grammar.{Grammar, Stands, ◌then◌, gives, optional, second, word}
use Rattle.rp_grammar.specs.Readers.{Leaves}
use Rattle.rp_syntax.specs.ClauseGrammar.{or_none}

-- a token of this kind stands before the rest
abbrev pub Follows : TokenKind → List Token → List Token → Type 0
Follows k tokens rest = Stands (k ∷ []) (λ token. token.kind) tokens k rest

pub all_after : {k : TokenKind} {tokens rest : List Token} (P : Token → Type 0) → Follows k tokens rest → All P tokens → All P rest
all_after P follows all = All-rest P _ _ _ follows.tokens_are all

pub shorter_after : {k : TokenKind} {tokens rest : List Token} → Follows k tokens rest → length rest < length tokens
shorter_after follows = rw follows.tokens_are (omega arith)

pub word_after : (text : List ℕ) {k : TokenKind} {tokens rest : List Token} → Follows k tokens rest → (word k).read text tokens ≡ Ok (place text tokens, rest)
word_after text follows = rw (follows.tokens_are, follows.kind) refl

pub starts_after : {k : TokenKind} {tokens rest : List Token} → Follows k tokens rest → starts (k ∷ []) tokens ≡ true
starts_after follows = rw follows.tokens_are follows.kind

-- What stands behind a word is read as it is alone.
pub behind_word : {A B : Type 0} {k : TokenKind} {tokens rest : List Token} (text : List ℕ) (f : A → B) (g : Grammar A)
    → Follows k tokens rest → (gives (λ x. f x.1) (word k then g)).read text tokens ≡ (gives f g).read text rest
behind_word {A = A} {B = B} {rest = rest} text f g follows = rw (follows.tokens_are, follows.kind) (each (g.read text rest))
  where
    each : (read : Result (A × List Token) ParseFault)
        → (◌>>=◌ {A = (ℕ × A) × List Token} {B = B × List Token} (◌>>=◌ {A = A × List Token} {B = (ℕ × A) × List Token} read (λ y. Ok ((follows.token.start, y.0), y.1))) (λ z. Ok (f z.0.1, z.1)))
        ≡ (◌>>=◌ {A = A × List Token} {B = B × List Token} read (λ y. Ok (f y.0, y.1)))
    each (Err e) = refl
    each (Ok y) = refl

-- What stands behind a front is read as it is alone.
pub second_after : {A B : Type 0} {tokens rest : List Token} {x : A} (text : List ℕ) (g : Grammar A) (h : Grammar B)
    → g.read text tokens ≡ Ok (x, rest) → (gives second (g then h)).read text tokens ≡ h.read text rest
second_after {A = A} {B = B} {rest = rest} {x = x} text g h front = rw front (each (h.read text rest))
  where
    each : (read : Result (B × List Token) ParseFault)
        → (◌>>=◌ {A = (A × B) × List Token} {B = B × List Token} (◌>>=◌ {A = B × List Token} {B = (A × B) × List Token} read (λ y. Ok ((x, y.0), y.1))) (λ z. Ok (z.0.1, z.1))) ≡ read
    each (Err e) = refl
    each (Ok y) = refl

pub second_behind : {A : Type 0} {k : TokenKind} {tokens rest : List Token} (text : List ℕ) (g : Grammar A)
    → Follows k tokens rest → (gives second (word k then g)).read text tokens ≡ g.read text rest
second_behind {k = k} text g follows = second_after text (word k) g (word_after text follows)

-- A part that need not be there is read as it is alone, where it begins.
pub part_read : {A : Type 0} (text : List ℕ) (part : Option A → A) (g : Grammar A) (tokens : List Token)
    → ((x : A) → part (Some x) ≡ x) → starts g.first tokens ≡ true → (gives part (optional g)).read text tokens ≡ g.read text tokens
part_read {A = A} text part g tokens same begins = rw begins (each (g.read text tokens))
  where
    each : (read : Result (A × List Token) ParseFault)
        → (◌>>=◌ {A = Option A × List Token} {B = A × List Token} (◌>>=◌ {A = A × List Token} {B = Option A × List Token} read (λ x. Ok (Some x.0, x.1))) (λ x. Ok (part x.0, x.1))) ≡ read
    each (Err e) = refl
    each (Ok x) = ap (λ y. Ok (y, x.1)) (same x.0)

pub part_behind : {A : Type 0} {k : TokenKind} {tokens rest : List Token} (text : List ℕ) (g : Grammar (List A))
    → Follows k tokens rest → (gives or_none (optional (gives second (word k then g)))).read text tokens ≡ g.read text rest
part_behind {k = k} {tokens = tokens} text g follows = part_read text or_none (gives second (word k then g)) tokens (λ x. refl) (starts_after follows) ∙ second_behind text g follows

either : (a b : Bool) → (a || (b || false)) ≡ ((a || false) || (b || false))
either true b = refl
either false b = refl

pub starts_two : (j k : TokenKind) (tokens : List Token) → starts (j ∷ k ∷ []) tokens ≡ (starts (j ∷ []) tokens || starts (k ∷ []) tokens)
starts_two j k [] = refl
starts_two j k (t ∷ rest) = either (same_kind t.kind j) (same_kind t.kind k)

pub still_shorter : {X : Type 0} (tokens rest : List Token) (result : Result (X × Bor (List Token)) ParseFault)
    → length rest < length tokens → Leaves result (λ left. length left < length rest) → Leaves result (λ left. length left < length tokens)
still_shorter tokens rest (Ok x) less shorter = omega arith
still_shorter tokens rest (Err e) less shorter = tt

pub still_no_longer : {X : Type 0} (tokens rest : List Token) (result : Result (X × Bor (List Token)) ParseFault)
    → length rest < length tokens → Leaves result (λ left. length left < length rest) → Leaves result (λ left. length left ≤ length tokens)
still_no_longer tokens rest (Ok x) less shorter = omega arith
still_no_longer tokens rest (Err e) less shorter = tt

pub shorter_no_longer : {X : Type 0} (tokens : List Token) (result : Result (X × Bor (List Token)) ParseFault)
    → Leaves result (λ left. length left < length tokens) → Leaves result (λ left. length left ≤ length tokens)
shorter_no_longer tokens (Ok x) shorter = omega arith
shorter_no_longer tokens (Err e) shorter = tt
