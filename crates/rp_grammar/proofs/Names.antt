-- What a name means, as a function of its bytes.
use Rattle.std.proofs.Common.{◌≡◌, ℕ, List, [], ◌∷◌, ◌++◌, Bool, true, false, ◌==◌, refl, ap, sym, ◌∙◌, if◌then◌else◌, rules}
use Rattle.rp_lexer.specs.Forms.{doubled}
use Rattle.rp_lexer.specs.Meanings.{IsNameOf, IsTextOf, MeansName, bytes_of}
use Rattle.rp_lexer.specs.declared.kind.TokenKind.{TokenKind}
use Rattle.rp_lexer.specs.declared.kind.TokenKind.TheVariants as kind
use Rattle.rp_lexer.specs.declared.token.Token.{Token}
use Rattle.rp_grammar.specs.Names.{behind_first, name_meaning, text_in, unquoted}

same_self : (q : ℕ) → (q == q) ≡ true
same_self q = search rules

unquoted-either : (quote b : ℕ) (bytes : List ℕ) (q : Bool) → (b == quote) ≡ q → unquoted false quote (doubled quote bytes ++ quote ∷ []) ≡ bytes
    → unquoted false quote ((if q then quote ∷ quote ∷ doubled quote bytes else b ∷ doubled quote bytes) ++ quote ∷ []) ≡ b ∷ bytes
unquoted-either quote b bytes true e rest = let same : b ≡ quote = search (e, rules) in rw (same, same_self quote) (ap (λ bs. quote ∷ bs) rest)
unquoted-either quote b bytes false e rest = rw e (ap (λ bs. b ∷ bs) rest)

unquoted-doubled : (quote : ℕ) (n : List ℕ) → unquoted false quote (doubled quote n ++ quote ∷ []) ≡ n
unquoted-doubled quote [] = rw (same_self quote) refl
unquoted-doubled quote (b ∷ bytes) = unquoted-either quote b bytes (b == quote) refl (unquoted-doubled quote bytes)

pub text_is : (text n : List ℕ) (t : Token) → IsTextOf text t n → n ≡ text_in text t
text_is text n t means = sym (ap (λ bs. unquoted false 39 (behind_first bs)) means ∙ unquoted-doubled 39 n)

pub ruleset texts = (text_is)

pub meaning-of : (k : TokenKind) (bytes n : List ℕ) → MeansName k bytes n → n ≡ name_meaning k bytes
unfolding name_meaning
meaning-of kind.Name bytes n means = means
meaning-of kind.Quoted bytes n means = sym (ap (λ bs. unquoted false 34 (behind_first bs)) means ∙ unquoted-doubled 34 n)
meaning-of (kind.Keyword k) bytes n means = absurd means
meaning-of kind.Text bytes n means = absurd means
meaning-of kind.Number bytes n means = absurd means
meaning-of (kind.Mark m) bytes n means = absurd means

pub name_is : (text n : List ℕ) (t : Token) → IsNameOf text t n → n ≡ name_meaning t.kind (bytes_of text t)
name_is text n t means = meaning-of t.kind (bytes_of text t) n means

pub ruleset names = (name_is)
