-- Each way to put grammars together keeps their law: what is read is derived, what is derived is read, and a fault
-- stands at one of the tokens or at the end of the text.
use Rattle.std.proofs.Common.{◌≡◌, ℕ, zero, suc, ◌<◌, ◌≤◌, List, [], ◌∷◌, ◌++◌, length, Some, None, Result, Ok, Err, Bool, true, false, ◌&&◌, ◌⊎◌, inl, inr, refl, ap, sym, ◌∙◌, subst, arith, if◌then◌else◌}
use Rattle.rp_lexer.specs.declared.kind.TokenKind.{TokenKind}
use Rattle.rp_lexer.specs.declared.kind.TokenKind.TheVariants as kind
use Rattle.rp_lexer.specs.declared.kind.Mark.TheVariants as mark
use Rattle.rp_lexer.specs.declared.token.Token.{Token}
use Rattle.rp_lexer.specs.Meanings.{number_of}
use Rattle.rp_grammar.specs.declared.fault.ParseFault.{ParseFault}
use Rattle.rp_grammar.specs.declared.fault.ParseFault.TheVariants as faults_as
use Rattle.rp_grammar.specs.Reading.{◌>>=◌, among, starts, place, IsPlace, IsFaultIn}
use Rattle.rp_grammar.specs.Grammar.{Grammar, Stands, one_of, word, number, nothing, here, Both, ◌then◌, ◌or◌, Image, gives, optional, Many, done, next, many_at, many, never, Opens, opened, opening, apart, second, listing, listed, under}
use Rattle.rp_grammar.proofs.FirstTokens.{apart_nothing, starts_apart, starts_left, starts_right, starts_neither, if_left, if_right, if_neither, within, starts_within, stops_within}

-- either some token of the first kinds is read, or none is
abbrev pub Begins : {A : Type 0} → Grammar A → List Token → List Token → Type 0
Begins g s r = ((starts g.first s ≡ true) × (length r < length s)) ⊎ ((g.empty ≡ true) × (s ≡ r))

pub record Lawful {A : Type 0} (text : List ℕ) (g : Grammar A) : Type 0 where
  pub sound : (s : List Token) (x : A) (r : List Token) → g.read text s ≡ Ok (x, r) → g.derives text s x r
  pub complete : (s : List Token) (x : A) (r : List Token) → g.derives text s x r → starts g.more r ≡ false → g.read text s ≡ Ok (x, r)
  pub begins : (s : List Token) (x : A) (r : List Token) → g.derives text s x r → Begins g s r
  pub places : (s : List Token) (x : A) (r : List Token) → g.derives text s x r → (at : ℕ) → IsPlace text r at → IsPlace text s at
  pub faults : (s : List Token) (e : ParseFault) → g.read text s ≡ Err e → IsFaultIn text s e

pub bind_ok : {A B : Type 0} (o : Result A ParseFault) (f : A → Result B ParseFault) (y : B) → (o >>= f) ≡ Ok y → (x : A) × (o ≡ Ok x) × (f x ≡ Ok y)
bind_ok (Ok x) f y e = (x, refl, e)
bind_ok (Err n) f y e = absurd (cc)

pub bind_err : {A B : Type 0} (o : Result A ParseFault) (f : A → Result B ParseFault) (n : ParseFault) → (o >>= f) ≡ Err n → (o ≡ Err n) ⊎ ((x : A) × (o ≡ Ok x) × (f x ≡ Err n))
bind_err (Ok x) f n e = inr (x, refl, e)
bind_err (Err m) f n e = let same : m ≡ n = cc in inl (ap (λ k. Err k) same)

pub ok_same : {A : Type 0} (x y : A) → ◌≡◌ {A = Result A ParseFault} (Ok x) (Ok y) → x ≡ y
ok_same x y e = cc

pub no_fault : {A : Type 0} {P : Type 0} (x : A) (n : ParseFault) → ◌≡◌ {A = Result A ParseFault} (Ok x) (Err n) → P
no_fault x n e = absurd (cc)

pub err_same : {A : Type 0} (m n : ParseFault) → ◌≡◌ {A = Result A ParseFault} (Err m) (Err n) → m ≡ n
err_same m n e = cc

-- the next token, or the end of the text, is such a place
pub place_is : (text : List ℕ) (s : List Token) → IsPlace text s (place text s)
place_is text [] = refl
place_is text (t ∷ rest) = inl refl

-- a fault in what follows is a fault in the whole
pub fault_behind : (text : List ℕ) (s r : List Token) (e : ParseFault) → ((at : ℕ) → IsPlace text r at → IsPlace text s at) → IsFaultIn text r e → IsFaultIn text s e
fault_behind text s r (faults_as.Expected at) places is = places at is
fault_behind text s r (faults_as.Deep at) places is = places at is
fault_behind text s r faults_as.OutOfMemory places is = tt

-- one token
pub one_lawful : {A : Type 0} {text : List ℕ} (kinds : List TokenKind) (value : List ℕ → Token → A) → Lawful text (one_of kinds value)
one_lawful {A = A} {text = text} kinds value = record { sound = sound; complete = complete; begins = begins; places = places; faults = faults }
  where
    found : (b : Bool) (t : Token) (rest : List Token) (x : A) (r : List Token) → among kinds t.kind ≡ b
        → (◌>>=◌ {A = Token × List Token} {B = A × List Token} (if b then Ok (t, rest) else Err (faults_as.Expected t.start)) (λ u. Ok (value text u.0, u.1))) ≡ Ok (x, r) → Stands kinds (value text) (t ∷ rest) x r
    found true t rest x r is e = let same = ok_same (value text t, rest) (x, r) e in record { token = t; kind = is; tokens_are = ap (λ p. t ∷ p.1) same; means = ap (λ p. p.0) same }
    found false t rest x r is e = absurd (cc)

    sound : (s : List Token) (x : A) (r : List Token) → (one_of kinds value).read text s ≡ Ok (x, r) → Stands kinds (value text) s x r
    sound [] x r e = absurd (cc)
    sound (t ∷ rest) x r e = found (among kinds t.kind) t rest x r refl e

    complete : (s : List Token) (x : A) (r : List Token) → Stands kinds (value text) s x r → starts [] r ≡ false → (one_of kinds value).read text s ≡ Ok (x, r)
    complete s x r d ends = rw (d.tokens_are, d.kind) (ap (λ y. Ok (y, r)) d.means)

    begins : (s : List Token) (x : A) (r : List Token) → Stands kinds (value text) s x r → Begins (one_of kinds value) s r
    begins s x r d = inl (rw d.tokens_are d.kind, rw d.tokens_are (omega arith))

    places : (s : List Token) (x : A) (r : List Token) → Stands kinds (value text) s x r → (at : ℕ) → IsPlace text r at → IsPlace text s at
    places s x r d at is = rw d.tokens_are (inr is)

    missing : (b : Bool) (t : Token) (rest : List Token) (e : ParseFault)
        → (◌>>=◌ {A = Token × List Token} {B = A × List Token} (if b then Ok (t, rest) else Err (faults_as.Expected t.start)) (λ u. Ok (value text u.0, u.1))) ≡ Err e → IsFaultIn text (t ∷ rest) e
    missing true t rest e is = no_fault (value text t, rest) e is
    missing false t rest e is = subst (λ n. IsFaultIn text (t ∷ rest) n) (err_same {A = A × List Token} (faults_as.Expected t.start) e is) (inl refl)

    faults : (s : List Token) (e : ParseFault) → (one_of kinds value).read text s ≡ Err e → IsFaultIn text s e
    faults [] e is = subst (λ n. IsFaultIn text [] n) (err_same {A = A × List Token} (faults_as.Expected (length text)) e is) refl
    faults (t ∷ rest) e is = missing (among kinds t.kind) t rest e is

pub word_lawful : {text : List ℕ} (k : TokenKind) → Lawful text (word k)
word_lawful k = one_lawful (k ∷ []) (λ text t. t.start)

pub number_lawful : {text : List ℕ} → Lawful text number
number_lawful = one_lawful (kind.Number ∷ []) number_of

pub nothing_lawful : {A : Type 0} {text : List ℕ} (x : A) → Lawful text (nothing x)
nothing_lawful {text = text} x = record {
  sound = λ s y r e. let same = ok_same (x, s) (y, r) e in (ap (λ p. p.1) same, ap (λ p. p.0) same);
  complete = λ s y r d ends. rw (d.0, d.1) refl;
  begins = λ s y r d. inr (refl, d.0);
  places = λ s y r d at is. rw d.0 is;
  faults = λ s e is. no_fault (x, s) e is;
}

pub here_lawful : {text : List ℕ} → Lawful text here
here_lawful {text = text} = record {
  sound = λ s y r e. let same = ok_same (place text s, s) (y, r) e in (ap (λ p. p.1) same, ap (λ p. p.0) same);
  complete = λ s y r d ends. ap (λ z. Ok (z, s)) d.1 ∙ ap (λ t. Ok (y, t)) d.0;
  begins = λ s y r d. inr (refl, d.0);
  places = λ s y r d at is. rw d.0 is;
  faults = λ s e is. no_fault (place text s, s) e is;
}

pub never_lawful : {A : Type 0} {text : List ℕ} → Lawful text (never {A = A})
never_lawful {A = A} {text = text} = record {
  sound = λ s x r e. absurd (cc);
  complete = λ s x r d ends. absurd d;
  begins = λ s x r d. absurd d;
  places = λ s x r d. absurd d;
  faults = λ s e is. subst (λ n. IsFaultIn text s n) (err_same {A = A × List Token} (faults_as.Expected (place text s)) e is) (place_is text s);
}

-- one and then the other
pub then_lawful : {A B : Type 0} {text : List ℕ} (g : Grammar A) (h : Grammar B) → Lawful text g → Lawful text h → apart h.first g.more ≡ true → Lawful text (g then h)
then_lawful {A = A} {B = B} {text = text} g h gl hl clear = record { sound = sound; complete = complete; begins = begins; places = places; faults = faults }
  where
    sound : (s : List Token) (x : A × B) (r : List Token) → (g then h).read text s ≡ Ok (x, r) → Both (g.derives text) (h.derives text) s x r
    sound s x r e =
        let one = bind_ok (g.read text s) (λ y. h.read text y.1 >>= λ z. Ok ((y.0, z.0), z.1)) (x, r) e in
        let two = bind_ok (h.read text (one.0).1) (λ z. Ok (((one.0).0, z.0), z.1)) (x, r) one.2 in
        let same = ok_same (((one.0).0, (two.0).0), (two.0).1) (x, r) two.2 in
        let P : (A × B) × List Token → Type 0 = λ p. Both (g.derives text) (h.derives text) s p.0 p.1 in
        subst P same (record { middle = (one.0).1; left = gl.sound s (one.0).0 (one.0).1 one.1; right = hl.sound (one.0).1 (two.0).0 (two.0).1 two.1 })

    stops : (m : List Token) (y : B) (r : List Token) → h.derives text m y r → starts (g then h).more r ≡ false → starts g.more m ≡ false
    stops m y r d ends = elim (hl.begins m y r d) [ inl some ↦ starts_apart h.first g.more m clear some.0 | inr none ↦ rw none.1 ((if_neither h.empty h.more g.more r ends).1 none.0) ]

    complete : (s : List Token) (x : A × B) (r : List Token) → Both (g.derives text) (h.derives text) s x r → starts (g then h).more r ≡ false → (g then h).read text s ≡ Ok (x, r)
    complete s x r d ends =
        let one = gl.complete s x.0 d.middle d.left (stops d.middle x.1 r d.right ends) in
        let two = hl.complete d.middle x.1 r d.right (if_neither h.empty h.more g.more r ends).0 in
        rw (one, two) refl

    both_empty : (a b : Bool) → a ≡ true → b ≡ true → (a && b) ≡ true
    both_empty a b p q = rw (p, q) refl

    begins : (s : List Token) (x : A × B) (r : List Token) → Both (g.derives text) (h.derives text) s x r → Begins (g then h) s r
    begins s x r d = elim (gl.begins s x.0 d.middle d.left) [
      | inl some ↦ inl (if_left g.empty g.first h.first s some.0, elim (hl.begins d.middle x.1 r d.right) [ inl more ↦ (let l = some.1 in let m = more.1 in omega arith) | inr none ↦ subst (λ t. length t < length s) none.1 some.1 ])
      | inr none ↦ elim (hl.begins d.middle x.1 r d.right) [
        | inl more ↦ rw none.1 (inl (if_right g.empty g.first h.first d.middle none.0 more.0, more.1))
        | inr neither ↦ inr (both_empty g.empty h.empty none.0 neither.0, none.1 ∙ neither.1)
      ]
    ]

    places : (s : List Token) (x : A × B) (r : List Token) → Both (g.derives text) (h.derives text) s x r → (at : ℕ) → IsPlace text r at → IsPlace text s at
    places s x r d at is = gl.places s x.0 d.middle d.left at (hl.places d.middle x.1 r d.right at is)

    later : (s : List Token) (y : A) (m : List Token) (e : ParseFault) → g.read text s ≡ Ok (y, m) → (◌>>=◌ {A = B × List Token} {B = (A × B) × List Token} (h.read text m) (λ z. Ok ((y, z.0), z.1))) ≡ Err e → IsFaultIn text s e
    later s y m e one is = elim (bind_err (h.read text m) (λ z. Ok ((y, z.0), z.1)) e is) [
      | inl none ↦ fault_behind text s m e (gl.places s y m (gl.sound s y m one)) (hl.faults m e none)
      | inr some ↦ no_fault ((y, (some.0).0), (some.0).1) e some.2
    ]

    faults : (s : List Token) (e : ParseFault) → (g then h).read text s ≡ Err e → IsFaultIn text s e
    faults s e is = elim (bind_err (g.read text s) (λ y. h.read text y.1 >>= λ z. Ok ((y.0, z.0), z.1)) e is) [
      | inl none ↦ gl.faults s e none
      | inr some ↦ later s (some.0).0 (some.0).1 e some.1 some.2
    ]

-- one or the other
pub or_lawful : {A : Type 0} {text : List ℕ} (g h : Grammar A) → Lawful text g → Lawful text h → g.empty ≡ false → apart h.first g.first ≡ true → Lawful text (g or h)
or_lawful {A = A} {text = text} g h gl hl some clear = record { sound = sound; complete = complete; begins = begins; places = places; faults = λ s e is. missing (starts g.first s) s e is }
  where
    chosen : (b : Bool) (s : List Token) (x : A) (r : List Token) → (if b then g.read text s else h.read text s) ≡ Ok (x, r) → g.derives text s x r ⊎ h.derives text s x r
    chosen true s x r e = inl (gl.sound s x r e)
    chosen false s x r e = inr (hl.sound s x r e)

    sound : (s : List Token) (x : A) (r : List Token) → (g or h).read text s ≡ Ok (x, r) → g.derives text s x r ⊎ h.derives text s x r
    sound s x r e = chosen (starts g.first s) s x r e

    first_begins : (s : List Token) (x : A) (r : List Token) → g.derives text s x r → (starts g.first s ≡ true) × (length r < length s)
    first_begins s x r d = elim (gl.begins s x r d) [ inl begun ↦ begun | inr none ↦ absurd (let e = sym none.0 ∙ some in cc) ]

    second_begins : (s : List Token) (x : A) (r : List Token) → h.derives text s x r → starts (g or h).more r ≡ false → starts g.first s ≡ false
    second_begins s x r d ends = elim (hl.begins s x r d) [ inl begun ↦ starts_apart h.first g.first s clear begun.0 | inr none ↦ rw none.1 ((if_neither h.empty (g.more ++ h.more) g.first r ends).1 none.0) ]

    complete : (s : List Token) (x : A) (r : List Token) → g.derives text s x r ⊎ h.derives text s x r → starts (g or h).more r ≡ false → (g or h).read text s ≡ Ok (x, r)
    complete s x r (inl d) ends = rw ((first_begins s x r d).0) (gl.complete s x r d (starts_neither g.more h.more r (if_neither h.empty (g.more ++ h.more) g.first r ends).0).0)
    complete s x r (inr d) ends = rw (second_begins s x r d ends) (hl.complete s x r d (starts_neither g.more h.more r (if_neither h.empty (g.more ++ h.more) g.first r ends).0).1)

    begins : (s : List Token) (x : A) (r : List Token) → g.derives text s x r ⊎ h.derives text s x r → Begins (g or h) s r
    begins s x r (inl d) = let b = first_begins s x r d in inl (starts_left g.first h.first s b.0, b.1)
    begins s x r (inr d) = elim (hl.begins s x r d) [ inl b ↦ inl (starts_right g.first h.first s b.0, b.1) | inr none ↦ inr none ]

    places : (s : List Token) (x : A) (r : List Token) → g.derives text s x r ⊎ h.derives text s x r → (at : ℕ) → IsPlace text r at → IsPlace text s at
    places s x r (inl d) = gl.places s x r d
    places s x r (inr d) = hl.places s x r d

    missing : (b : Bool) (s : List Token) (e : ParseFault) → (if b then g.read text s else h.read text s) ≡ Err e → IsFaultIn text s e
    missing true s e is = gl.faults s e is
    missing false s e is = hl.faults s e is

pub gives_lawful : {A B : Type 0} {text : List ℕ} (f : A → B) (g : Grammar A) → Lawful text g → Lawful text (gives f g)
gives_lawful {A = A} {B = B} {text = text} f g gl = record { sound = sound; complete = complete; begins = λ s y r d. gl.begins s d.of r d.derived; places = λ s y r d. gl.places s d.of r d.derived; faults = faults }
  where
    sound : (s : List Token) (y : B) (r : List Token) → (gives f g).read text s ≡ Ok (y, r) → Image f (g.derives text) s y r
    sound s y r e =
        let one = bind_ok (g.read text s) (λ x. Ok (f x.0, x.1)) (y, r) e in
        let same = ok_same (f (one.0).0, (one.0).1) (y, r) one.2 in
        record { of = (one.0).0; derived = subst (λ t. g.derives text s (one.0).0 t) (ap (λ p. p.1) same) (gl.sound s (one.0).0 (one.0).1 one.1); is = ap (λ p. p.0) same }

    complete : (s : List Token) (y : B) (r : List Token) → Image f (g.derives text) s y r → starts g.more r ≡ false → (gives f g).read text s ≡ Ok (y, r)
    complete s y r d ends = let one = gl.complete s d.of r d.derived ends in rw one (ap (λ z. Ok (z, r)) d.is)

    faults : (s : List Token) (e : ParseFault) → (gives f g).read text s ≡ Err e → IsFaultIn text s e
    faults s e is = elim (bind_err (g.read text s) (λ x. Ok (f x.0, x.1)) e is) [
      | inl none ↦ gl.faults s e none
      | inr some ↦ no_fault (f (some.0).0, (some.0).1) e some.2
    ]

pub optional_lawful : {A : Type 0} {text : List ℕ} (g : Grammar A) → Lawful text g → g.empty ≡ false → Lawful text (optional g)
optional_lawful g gl some = or_lawful (gives Some g) (nothing None) (gives_lawful Some g gl) (nothing_lawful None) some refl

-- any number of times
pub many_lawful : {A : Type 0} {text : List ℕ} (g : Grammar A) → Lawful text g → g.empty ≡ false → apart g.first g.more ≡ true → Lawful text (many g)
many_lawful {A = A} {text = text} g gl some clear = record {
  sound = λ s xs r e. sound (length s) s xs r e;
  complete = λ s xs r d ends. complete (length s) s xs r (omega arith) d ends;
  begins = begins;
  places = places;
  faults = λ s e is. faults (length s) s e is;
}
  where
    one_begins : (s : List Token) (x : A) (r : List Token) → g.derives text s x r → (starts g.first s ≡ true) × (length r < length s)
    one_begins s x r d = elim (gl.begins s x r d) [ inl begun ↦ begun | inr none ↦ absurd (let e = sym none.0 ∙ some in cc) ]

    no_more : (s : List Token) (xs : List A) (r : List Token) → ◌≡◌ {A = Result (List A × List Token) ParseFault} (Ok ([], s)) (Ok (xs, r)) → Many (g.derives text) s xs r
    no_more s xs r e =
        let same = ok_same ([], s) (xs, r) e in
        let P : List A × List Token → Type 0 = λ p. Many (g.derives text) s p.0 p.1 in
        subst P same done

    sound : (n : ℕ) (s : List Token) (xs : List A) (r : List Token) → many_at g.first (g.read text) n s ≡ Ok (xs, r) → Many (g.derives text) s xs r
    sound zero s xs r e = no_more s xs r e
    sound (suc n) s xs r e = chosen (starts g.first s) e (λ t ys u d. sound n t ys u d)
      where
        chosen : (b : Bool) → ◌≡◌ {A = Result (List A × List Token) ParseFault} (if b then (g.read text s >>= λ x. many_at g.first (g.read text) n x.1 >>= λ ys. Ok (x.0 ∷ ys.0, ys.1)) else Ok ([], s)) (Ok (xs, r))
            → ((t : List Token) (ys : List A) (u : List Token) → many_at g.first (g.read text) n t ≡ Ok (ys, u) → Many (g.derives text) t ys u) → Many (g.derives text) s xs r
        chosen false e rest = no_more s xs r e
        chosen true e rest =
            let one = bind_ok (g.read text s) (λ x. many_at g.first (g.read text) n x.1 >>= λ ys. Ok (x.0 ∷ ys.0, ys.1)) (xs, r) e in
            let two = bind_ok (many_at g.first (g.read text) n (one.0).1) (λ ys. Ok ((one.0).0 ∷ ys.0, ys.1)) (xs, r) one.2 in
            let same = ok_same ((one.0).0 ∷ (two.0).0, (two.0).1) (xs, r) two.2 in
            let P : List A × List Token → Type 0 = λ p. Many (g.derives text) s p.0 p.1 in
            subst P same (next (gl.sound s (one.0).0 (one.0).1 one.1) (rest (one.0).1 (two.0).0 (two.0).1 two.1))

    begins : (s : List Token) (xs : List A) (r : List Token) → Many (g.derives text) s xs r → Begins (many g) s r
    begins s xs r done = inr (refl, refl)
    begins s xs r (next {m = m} {x = y} {xs = ys} d ds) =
        let b = one_begins s y m d in
        elim (begins m ys r ds) [ inl more ↦ inl (b.0, let l = b.1 in let k = more.1 in omega arith) | inr none ↦ inl (b.0, subst (λ t. length t < length s) none.1 b.1) ]

    places : (s : List Token) (xs : List A) (r : List Token) → Many (g.derives text) s xs r → (at : ℕ) → IsPlace text r at → IsPlace text s at
    places s xs r done at is = is
    places s xs r (next {m = m} {x = y} {xs = ys} d ds) at is = gl.places s y m d at (places m ys r ds at is)

    stops : (m : List Token) (xs : List A) (r : List Token) → Many (g.derives text) m xs r → starts (g.first ++ g.more) r ≡ false → starts g.more m ≡ false
    stops m xs r ds ends = elim (begins m xs r ds) [ inl more ↦ starts_apart g.first g.more m clear more.0 | inr none ↦ rw none.1 (starts_neither g.first g.more r ends).1 ]

    complete : (n : ℕ) (s : List Token) (xs : List A) (r : List Token) → length s ≤ n → Many (g.derives text) s xs r → starts (g.first ++ g.more) r ≡ false → many_at g.first (g.read text) n s ≡ Ok (xs, r)
    complete zero s xs r enough done ends = refl
    complete (suc n) s xs r enough done ends = rw ((starts_neither g.first g.more s ends).0) refl
    complete zero s xs r enough (next {m = m} {x = y} {xs = ys} d ds) ends = let l = (one_begins s y m d).1 in absurd (omega arith)
    complete (suc n) s xs r enough (next {m = m} {x = y} {xs = ys} d ds) ends =
        let b = one_begins s y m d in
        let one = gl.complete s y m d (stops m ys r ds ends) in
        let fewer = b.1 in
        let two = complete n m ys r (omega arith) ds ends in
        rw (b.0, one, two) refl

    faults : (n : ℕ) (s : List Token) (e : ParseFault) → many_at g.first (g.read text) n s ≡ Err e → IsFaultIn text s e
    faults zero s e is = no_fault ([], s) e is
    faults (suc n) s e is = chosen (starts g.first s) is (λ t d. faults n t e d)
      where
        later : (y : A) (m : List Token) → g.read text s ≡ Ok (y, m) → (◌>>=◌ {A = List A × List Token} {B = List A × List Token} (many_at g.first (g.read text) n m) (λ ys. Ok (y ∷ ys.0, ys.1))) ≡ Err e → (many_at g.first (g.read text) n m ≡ Err e → IsFaultIn text m e) → IsFaultIn text s e
        later y m one is rest = elim (bind_err (many_at g.first (g.read text) n m) (λ ys. Ok (y ∷ ys.0, ys.1)) e is) [
          | inl none ↦ fault_behind text s m e (gl.places s y m (gl.sound s y m one)) (rest none)
          | inr some ↦ no_fault (y ∷ (some.0).0, (some.0).1) e some.2
        ]

        chosen : (b : Bool) → ◌≡◌ {A = Result (List A × List Token) ParseFault} (if b then (g.read text s >>= λ x. many_at g.first (g.read text) n x.1 >>= λ ys. Ok (x.0 ∷ ys.0, ys.1)) else Ok ([], s)) (Err e)
            → ((t : List Token) → many_at g.first (g.read text) n t ≡ Err e → IsFaultIn text t e) → IsFaultIn text s e
        chosen false is rest = no_fault ([], s) e is
        chosen true is rest = elim (bind_err (g.read text s) (λ x. many_at g.first (g.read text) n x.1 >>= λ ys. Ok (x.0 ∷ ys.0, ys.1)) e is) [
          | inl none ↦ gl.faults s e none
          | inr some ↦ later (some.0).0 (some.0).1 some.1 some.2 (rest (some.0).1)
        ]

pub opening_lawful : {text : List ℕ} (room : ℕ) (k : TokenKind) → Lawful text (opening room k)
opening_lawful {text = text} room k = record {
  sound = sound room;
  complete = complete room;
  begins = λ s x r d. (word_lawful {text = text} k).begins s x r d.stands;
  places = λ s x r d. (word_lawful {text = text} k).places s x r d.stands;
  faults = λ s e is. faults room s e is;
}
  where
    none_opened : (o : Result (ℕ × List Token) ParseFault) (y : ℕ × List Token) {P : Type 0} → opened zero o ≡ Ok y → P
    none_opened (Ok x) y e = absurd (cc)
    none_opened (Err n) y e = absurd (cc)

    sound : (room : ℕ) (s : List Token) (x : ℕ) (r : List Token) → opened room ((word k).read text s) ≡ Ok (x, r) → Opens room (k ∷ []) s x r
    sound zero s x r e = none_opened ((word k).read text s) (x, r) e
    sound (suc left) s x r e = record { has_room = omega arith; stands = (word_lawful {text = text} k).sound s x r e }

    complete : (room : ℕ) (s : List Token) (x : ℕ) (r : List Token) → Opens room (k ∷ []) s x r → starts [] r ≡ false → opened room ((word k).read text s) ≡ Ok (x, r)
    complete zero s x r d ends = let some = d.has_room in absurd (omega arith)
    complete (suc left) s x r d ends = (word_lawful {text = text} k).complete s x r d.stands ends

    starts_here : (s : List Token) (x : ℕ) (r : List Token) → Stands (k ∷ []) (λ t. t.start) s x r → IsPlace text s x
    starts_here s x r d = rw d.tokens_are (inl (sym d.means))

    no_room : (o : Result (ℕ × List Token) ParseFault) (s : List Token) (e : ParseFault) → (word k).read text s ≡ o → opened zero o ≡ Err e → IsFaultIn text s e
    no_room (Ok x) s e one is = subst (λ n. IsFaultIn text s n) (err_same {A = ℕ × List Token} (faults_as.Deep x.0) e is) (starts_here s x.0 x.1 ((word_lawful {text = text} k).sound s x.0 x.1 one))
    no_room (Err n) s e one is = (word_lawful {text = text} k).faults s e (one ∙ is)

    faults : (room : ℕ) (s : List Token) (e : ParseFault) → opened room ((word k).read text s) ≡ Err e → IsFaultIn text s e
    faults zero s e is = no_room ((word k).read text s) s e refl is
    faults (suc left) s e is = (word_lawful {text = text} k).faults s e is

-- the kinds after a comma and a part are those of the part
after_comma : {A : Type 0} (g : Grammar A) → g.empty ≡ false → (gives second (word (kind.Mark mark.Comma) then g)).more ≡ g.more
after_comma g some = rw some refl

pub listed_lawful : {A : Type 0} {text : List ℕ} (g : Grammar A) → Lawful text g → g.empty ≡ false → apart (kind.Mark mark.Comma ∷ []) g.more ≡ true → Lawful text (listed g)
listed_lawful {text = text} g gl some clear =
    let comma = word (kind.Mark mark.Comma) in
    let part = gives second (comma then g) in
    let part_lawful : Lawful text part = gives_lawful second (comma then g) (then_lawful comma g (word_lawful (kind.Mark mark.Comma)) gl (apart_nothing g.first)) in
    let clear_after : apart (kind.Mark mark.Comma ∷ []) part.more ≡ true = rw (after_comma g some) clear in
    gives_lawful listing (g then many part) (then_lawful g (many part) gl (many_lawful part part_lawful refl clear_after) clear)

-- under wider lists of kinds
pub under_lawful : {A : Type 0} {text : List ℕ} (first more : List TokenKind) (g : Grammar A) → Lawful text g → g.empty ≡ false → within g.first first ≡ true → within g.more more ≡ true → Lawful text (under first more g)
under_lawful first more g gl some firsts mores = record {
  sound = gl.sound;
  complete = λ s x r d ends. gl.complete s x r d (stops_within g.more more r mores ends);
  begins = λ s x r d. elim (gl.begins s x r d) [ inl begun ↦ inl (starts_within g.first first s firsts begun.0, begun.1) | inr none ↦ absurd (let e = sym none.0 ∙ some in cc) ];
  places = gl.places;
  faults = gl.faults;
}
