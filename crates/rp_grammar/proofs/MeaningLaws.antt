-- The law of a token that means something.
use Rattle.std.proofs.Common.{◌≡◌, ℕ, List, [], ◌∷◌, length, Option, Some, None, Ok, Err, Bool, true, false, inl, inr, refl, ap, ◌∙◌, subst, arith, if◌then◌else◌}
use Rattle.rp_lexer.specs.declared.kind.TokenKind.{TokenKind}
use Rattle.rp_lexer.specs.declared.token.Token.{Token}
use Rattle.rp_grammar.specs.declared.fault.ParseFault.{ParseFault}
use Rattle.rp_grammar.specs.declared.fault.ParseFault.TheVariants as faults_as
use Rattle.rp_grammar.specs.Reading.{◌>>=◌, among, starts, IsPlace, IsFaultIn}
use Rattle.rp_grammar.specs.Meaning.{Means, meant, meaning_of}
use Rattle.rp_grammar.proofs.Laws.{Begins, Lawful, ok_same, err_same, no_fault}

-- one token that means something
pub meaning_lawful : {A : Type 0} {text : List ℕ} (kinds : List TokenKind) (meaning : List ℕ → Token → Option A) → Lawful text (meaning_of kinds meaning)
meaning_lawful {A = A} {text = text} kinds meaning = record { sound = sound; complete = complete; begins = begins; places = places; faults = faults }
  where
    given : (o : Option A) (t : Token) (rest : List Token) (x : A) (r : List Token) → among kinds t.kind ≡ true → meaning text t ≡ o → meant t o rest ≡ Ok (x, r) → Means kinds (meaning text) (t ∷ rest) x r
    given None t rest x r is means e = absurd (cc)
    given (Some y) t rest x r is means e = let same = ok_same (y, rest) (x, r) e in record { token = t; kind = is; tokens_are = ap (λ p. t ∷ p.1) same; means = means ∙ ap (λ p. Some p.0) same }

    found : (b : Bool) (t : Token) (rest : List Token) (x : A) (r : List Token) → among kinds t.kind ≡ b
        → (◌>>=◌ {A = Token × List Token} {B = A × List Token} (if b then Ok (t, rest) else Err (faults_as.Expected t.start)) (λ u. meant u.0 (meaning text u.0) u.1)) ≡ Ok (x, r) → Means kinds (meaning text) (t ∷ rest) x r
    found true t rest x r is e = given (meaning text t) t rest x r is refl e
    found false t rest x r is e = absurd (cc)

    sound : (s : List Token) (x : A) (r : List Token) → (meaning_of kinds meaning).read text s ≡ Ok (x, r) → Means kinds (meaning text) s x r
    sound [] x r e = absurd (cc)
    sound (t ∷ rest) x r e = found (among kinds t.kind) t rest x r refl e

    complete : (s : List Token) (x : A) (r : List Token) → Means kinds (meaning text) s x r → starts [] r ≡ false → (meaning_of kinds meaning).read text s ≡ Ok (x, r)
    complete s x r d ends = rw (d.tokens_are, d.kind, d.means) refl

    begins : (s : List Token) (x : A) (r : List Token) → Means kinds (meaning text) s x r → Begins (meaning_of kinds meaning) s r
    begins s x r d = inl (rw d.tokens_are d.kind, rw d.tokens_are (omega arith))

    places : (s : List Token) (x : A) (r : List Token) → Means kinds (meaning text) s x r → (at : ℕ) → IsPlace text r at → IsPlace text s at
    places s x r d at is = rw d.tokens_are (inr is)

    meaningless : (o : Option A) (t : Token) (rest : List Token) (e : ParseFault) → meant t o rest ≡ Err e → IsFaultIn text (t ∷ rest) e
    meaningless None t rest e is = subst (λ n. IsFaultIn text (t ∷ rest) n) (err_same {A = A × List Token} (faults_as.Expected t.start) e is) (inl refl)
    meaningless (Some y) t rest e is = no_fault (y, rest) e is

    missing : (b : Bool) (t : Token) (rest : List Token) (e : ParseFault)
        → (◌>>=◌ {A = Token × List Token} {B = A × List Token} (if b then Ok (t, rest) else Err (faults_as.Expected t.start)) (λ u. meant u.0 (meaning text u.0) u.1)) ≡ Err e → IsFaultIn text (t ∷ rest) e
    missing true t rest e is = meaningless (meaning text t) t rest e is
    missing false t rest e is = subst (λ n. IsFaultIn text (t ∷ rest) n) (err_same {A = A × List Token} (faults_as.Expected t.start) e is) (inl refl)

    faults : (s : List Token) (e : ParseFault) → (meaning_of kinds meaning).read text s ≡ Err e → IsFaultIn text s e
    faults [] e is = subst (λ n. IsFaultIn text [] n) (err_same {A = A × List Token} (faults_as.Expected (length text)) e is) refl
    faults (t ∷ rest) e is = missing (among kinds t.kind) t rest e is
