-- A lawful grammar over the whole of some tokens.
use Rattle.std.proofs.Common.{◌≡◌, ℕ, List, [], ◌∷◌, length, Result, Ok, Err, refl, sym, ap, ◌∙◌, arith}
use Rattle.rp_lexer.specs.declared.token.Token.{Token}
use Rattle.rp_grammar.specs.declared.fault.ParseFault.{ParseFault}
use Rattle.rp_grammar.specs.declared.fault.ParseFault.TheVariants as faults_as
use Rattle.rp_grammar.specs.Reading.{IsFaultIn, IsPlace, Refuses, place}
use Rattle.rp_grammar.specs.Grammar.{Grammar}
use Rattle.rp_grammar.proofs.Laws.{Lawful, ok_same, place_is}

-- what is read of all tokens is derived
pub whole_derived : {A : Type 0} {text : List ℕ} (g : Grammar A) → Lawful text g → (tokens rest : List Token) (x : A) → length rest ≡ 0 → g.read text tokens ≡ Ok (x, rest) → g.derives text tokens x []
whole_derived g gl tokens [] x none e = gl.sound tokens x [] e
whole_derived g gl tokens (t ∷ rest) x none e = absurd (let n : length (t ∷ rest) ≡ 0 = none in omega arith)

-- nothing else is derived of them
pub whole_only : {A : Type 0} {text : List ℕ} (g : Grammar A) → Lawful text g → (tokens rest : List Token) (x y : A) → g.read text tokens ≡ Ok (x, rest) → g.derives text tokens y [] → x ≡ y
whole_only g gl tokens rest x y e d = ap (λ p. p.0) (ok_same (x, rest) (y, []) (sym e ∙ gl.complete tokens y [] d refl))

-- where some are left, nothing is derived of all
pub whole_rest : {A : Type 0} {text : List ℕ} (g : Grammar A) → Lawful text g → (tokens rest : List Token) (x y : A) → g.read text tokens ≡ Ok (x, rest) → g.derives text tokens y [] → rest ≡ []
whole_rest g gl tokens rest x y e d = ap (λ p. p.1) (ok_same (x, rest) (y, []) (sym e ∙ gl.complete tokens y [] d refl))

none_derived : {A : Type 0} {text : List ℕ} (g : Grammar A) → Lawful text g → (tokens : List Token) (fault : ParseFault) (y : A) → g.read text tokens ≡ Err fault → g.derives text tokens y [] → ⊥
none_derived {A = A} g gl tokens fault y e d =
    let no : ◌≡◌ {A = Result (A × List Token) ParseFault} (Err fault) (Ok (y, [])) = sym e ∙ gl.complete tokens y [] d refl in
    absurd (cc)

-- where a fault is read, nothing is derived
pub whole_refused : {A : Type 0} {text : List ℕ} (g : Grammar A) → Lawful text g → (tokens : List Token) (fault : ParseFault) → Refuses fault (g.read text tokens) → (fault ≡ faults_as.OutOfMemory → ⊥) → (y : A) → g.derives text tokens y [] → ⊥
whole_refused g gl tokens faults_as.OutOfMemory none memory y d = memory refl
whole_refused g gl tokens (faults_as.Expected at) none memory y d = none_derived g gl tokens (faults_as.Expected at) y none d
whole_refused g gl tokens (faults_as.Deep at) none memory y d = none_derived g gl tokens (faults_as.Deep at) y none d

-- a fault stands at a token or at the end of the text
pub whole_fault : {A : Type 0} {text : List ℕ} (g : Grammar A) → Lawful text g → (tokens : List Token) (fault : ParseFault) → Refuses fault (g.read text tokens) → IsFaultIn text tokens fault
whole_fault g gl tokens faults_as.OutOfMemory none = tt
whole_fault g gl tokens (faults_as.Expected at) none = gl.faults tokens (faults_as.Expected at) none
whole_fault g gl tokens (faults_as.Deep at) none = gl.faults tokens (faults_as.Deep at) none

-- and so does what is left
pub whole_left : {A : Type 0} {text : List ℕ} (g : Grammar A) → Lawful text g → (tokens rest : List Token) (x : A) → g.read text tokens ≡ Ok (x, rest) → IsPlace text tokens (place text rest)
whole_left {text = text} g gl tokens rest x e = gl.places tokens x rest (gl.sound tokens x rest e) (place text rest) (place_is text rest)
