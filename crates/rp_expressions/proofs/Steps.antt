-- Reading behind what was read, and what is told to what is read.
use Rattle.std.proofs.Common.{◌≡◌, ℕ, ◌<◌, ◌≤◌, List, length, Result, Ok, Err, refl, arith}
use Rattle.std.specs.Borrow.{Bor}
use Rattle.rp_lexer.specs.declared.token.Token.{Token}
use Rattle.rp_grammar.specs.declared.fault.ParseFault.{ParseFault}
use Rattle.rp_grammar.specs.Reading.{◌>>=◌}
use Rattle.rp_grammar.specs.Grammar.{Grammar, ◌then◌, gives}
use Rattle.rp_grammar.specs.Readers.{Leaves}

-- What is behind a front that may be empty is shorter than the whole.
pub shorter_behind : {X : Type 0} (tokens rest : List Token) (result : Result (X × Bor (List Token)) ParseFault)
    → length rest ≤ length tokens → Leaves result (λ left. length left < length rest) → Leaves result (λ left. length left < length tokens)
shorter_behind tokens rest (Ok x) less shorter = omega arith
shorter_behind tokens rest (Err e) less shorter = tt

-- What is told the value of a front is read behind it as it is alone.
pub told_before : {S A : Type 0} {tokens rest : List Token} {x : S} (text : List ℕ) (g : Grammar S) (h : Grammar (S → A))
    → g.read text tokens ≡ Ok (x, rest) → (gives (λ y. y.1 y.0) (g then h)).read text tokens ≡ (gives (λ f. f x) h).read text rest
told_before {S = S} {A = A} {rest = rest} {x = x} text g h front = rw front (each (h.read text rest))
  where
    each : (read : Result ((S → A) × List Token) ParseFault)
        → (◌>>=◌ {A = (S × (S → A)) × List Token} {B = A × List Token} (◌>>=◌ {A = (S → A) × List Token} {B = (S × (S → A)) × List Token} read (λ y. Ok ((x, y.0), y.1))) (λ z. Ok (z.0.1 z.0.0, z.1)))
        ≡ (◌>>=◌ {A = (S → A) × List Token} {B = A × List Token} read (λ y. Ok (y.0 x, y.1)))
    each (Err e) = refl
    each (Ok y) = refl

-- What is made of it once it is told may be made of it before.
pub made_before : {S A B : Type 0} (text : List ℕ) (tokens : List Token) (x : S) (k : A → B) (g : Grammar (S → A))
    → (gives (λ (f : S → B). f x) (gives (λ (f : S → A) (s : S). k (f s)) g)).read text tokens ≡ (gives k (gives (λ (f : S → A). f x) g)).read text tokens
made_before {S = S} {A = A} {B = B} text tokens x k g = each (g.read text tokens)
  where
    each : (read : Result ((S → A) × List Token) ParseFault)
        → (◌>>=◌ {A = (S → B) × List Token} {B = B × List Token} (◌>>=◌ {A = (S → A) × List Token} {B = (S → B) × List Token} read (λ f. Ok (λ s. k (f.0 s), f.1))) (λ f. Ok (f.0 x, f.1)))
        ≡ (◌>>=◌ {A = A × List Token} {B = B × List Token} (◌>>=◌ {A = (S → A) × List Token} {B = A × List Token} read (λ f. Ok (f.0 x, f.1))) (λ y. Ok (k y.0, y.1)))
    each (Err e) = refl
    each (Ok f) = refl

-- What stands for a function stands, told this value, for what the function gives.
pub told : {S A B : Type 0} (text : List ℕ) (tokens : List Token) (x : S) (m : A → S → B) (g : Grammar A)
    → (gives (λ (f : S → B). f x) (gives m g)).read text tokens ≡ (gives (λ a. m a x) g).read text tokens
told {S = S} {A = A} {B = B} text tokens x m g = each (g.read text tokens)
  where
    each : (read : Result (A × List Token) ParseFault)
        → (◌>>=◌ {A = (S → B) × List Token} {B = B × List Token} (◌>>=◌ {A = A × List Token} {B = (S → B) × List Token} read (λ a. Ok (m a.0, a.1))) (λ f. Ok (f.0 x, f.1)))
        ≡ (◌>>=◌ {A = A × List Token} {B = B × List Token} read (λ a. Ok (m a.0 x, a.1)))
    each (Err e) = refl
    each (Ok a) = refl
