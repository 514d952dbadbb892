-- Bytes with each quote doubled can be read in one way.
use Rattle.std.proofs.Common.{◌≡◌, ℕ, List, [], ◌∷◌, ◌++◌, get_or, sym, refl, ap, ◌∙◌, ⊎_elim}
use Rattle.std.proofs.lemmas.Bool.{cases_eq, eq-eqb, ne_eqb}
use Rattle.rp_lexer.specs.Forms.{doubled, enclosed}

pub doubled-quote : (q : ℕ) (bytes : List ℕ) → doubled q (q ∷ bytes) ≡ q ∷ q ∷ doubled q bytes
doubled-quote q bytes = rw (eq-eqb q q refl)

pub doubled-other : (q b : ℕ) (bytes : List ℕ) → (b ≡ q → ⊥) → doubled q (b ∷ bytes) ≡ b ∷ doubled q bytes
doubled-other q b bytes other = rw (ne_eqb b q other)

pub doubled-append : (q : ℕ) (xs ys : List ℕ) → doubled q (xs ++ ys) ≡ doubled q xs ++ doubled q ys
doubled-append q [] ys = refl
doubled-append q (x ∷ xs) ys =
    ⊎_elim
    (λ e. let along : (b : ℕ) → b ≡ q → doubled q (b ∷ (xs ++ ys)) ≡ doubled q (b ∷ xs) ++ doubled q ys =
    (λ b is. rw (eq-eqb b q is, doubled-append q xs ys) refl) in along x e)
    (λ other. rw (ne_eqb x q other, doubled-append q xs ys) refl)
    (cases_eq x q)

-- a quote after which no second one follows doesn't stand in doubled bytes
pub single_not_doubled : (q : ℕ) (x bytes : List ℕ) → (get_or x 0 0 ≡ q → ⊥) → q ∷ x ≡ doubled q bytes → ⊥
single_not_doubled q x [] alone e = let h : ⊥ = cc in h
single_not_doubled q x (b ∷ bytes) alone e =
    ⊎_elim
    (λ is. let two : doubled q (b ∷ bytes) ≡ q ∷ q ∷ doubled q bytes = rw (eq-eqb b q is) refl in
    let tail : x ≡ q ∷ doubled q bytes = cc in
    alone (ap (λ l. get_or l 0 0) tail))
    (λ other. let one : doubled q (b ∷ bytes) ≡ b ∷ doubled q bytes = doubled-other q b bytes other in
    let same : b ≡ q = cc in
    other same)
    (cases_eq b q)

-- what a quote closes isn't what never closes
pub closed_not_open : (q : ℕ) (a b x : List ℕ) → (get_or x 0 0 ≡ q → ⊥) → doubled q a ++ q ∷ x ≡ doubled q b → ⊥
closed_not_open q [] b x alone e = single_not_doubled q x b alone e
closed_not_open q (c ∷ a) [] x alone e =
    ⊎_elim
    (λ is. let two : doubled q (c ∷ a) ≡ q ∷ q ∷ doubled q a = rw (eq-eqb c q is) refl in
    let moved : q ∷ q ∷ (doubled q a ++ q ∷ x) ≡ [] = sym (ap (λ l. l ++ q ∷ x) two) ∙ e in
    let h : ⊥ = cc in h)
    (λ other. let one : doubled q (c ∷ a) ≡ c ∷ doubled q a = doubled-other q c a other in
    let moved : c ∷ (doubled q a ++ q ∷ x) ≡ [] = sym (ap (λ l. l ++ q ∷ x) one) ∙ e in
    let h : ⊥ = cc in h)
    (cases_eq c q)
closed_not_open q (c ∷ a) (d ∷ b) x alone e =
    ⊎_elim
    (λ is. let two : doubled q (c ∷ a) ≡ q ∷ q ∷ doubled q a = rw (eq-eqb c q is) refl in
    ⊎_elim
    (λ too. let both : doubled q (d ∷ b) ≡ q ∷ q ∷ doubled q b = rw (eq-eqb d q too) refl in
    let moved : q ∷ q ∷ (doubled q a ++ q ∷ x) ≡ q ∷ q ∷ doubled q b = sym (ap (λ l. l ++ q ∷ x) two) ∙ e ∙ both in
    closed_not_open q a b x alone (cc))
    (λ other. let one : doubled q (d ∷ b) ≡ d ∷ doubled q b = doubled-other q d b other in
    let moved : q ∷ q ∷ (doubled q a ++ q ∷ x) ≡ d ∷ doubled q b = sym (ap (λ l. l ++ q ∷ x) two) ∙ e ∙ one in
    let same : d ≡ q = cc in other same)
    (cases_eq d q))
    (λ other. let one : doubled q (c ∷ a) ≡ c ∷ doubled q a = doubled-other q c a other in
    ⊎_elim
    (λ too. let both : doubled q (d ∷ b) ≡ q ∷ q ∷ doubled q b = rw (eq-eqb d q too) refl in
    let moved : c ∷ (doubled q a ++ q ∷ x) ≡ q ∷ q ∷ doubled q b = sym (ap (λ l. l ++ q ∷ x) one) ∙ e ∙ both in
    let same : c ≡ q = cc in other same)
    (λ also. let same : doubled q (d ∷ b) ≡ d ∷ doubled q b = doubled-other q d b also in
    let moved : c ∷ (doubled q a ++ q ∷ x) ≡ d ∷ doubled q b = sym (ap (λ l. l ++ q ∷ x) one) ∙ e ∙ same in
    closed_not_open q a b x alone (cc))
    (cases_eq d q))
    (cases_eq c q)

-- two fronts that a quote closes, with no second one behind it, are one
pub closed_same : (q : ℕ) (a b x y : List ℕ) → (get_or x 0 0 ≡ q → ⊥) → (get_or y 0 0 ≡ q → ⊥) → doubled q a ++ q ∷ x ≡ doubled q b ++ q ∷ y → (a ≡ b) × (x ≡ y)
closed_same q [] [] x y alone alone' e = (refl, cc)
closed_same q [] (d ∷ b) x y alone alone' e =
    ⊎_elim
    (λ too. let both : doubled q (d ∷ b) ≡ q ∷ q ∷ doubled q b = rw (eq-eqb d q too) refl in
    let moved : q ∷ x ≡ q ∷ q ∷ (doubled q b ++ q ∷ y) = e ∙ ap (λ l. l ++ q ∷ y) both in
    let tail : x ≡ q ∷ (doubled q b ++ q ∷ y) = cc in
    absurd (alone (ap (λ l. get_or l 0 0) tail)))
    (λ other. let one : doubled q (d ∷ b) ≡ d ∷ doubled q b = doubled-other q d b other in
    let moved : q ∷ x ≡ d ∷ (doubled q b ++ q ∷ y) = e ∙ ap (λ l. l ++ q ∷ y) one in
    let same : d ≡ q = cc in absurd (other same))
    (cases_eq d q)
closed_same q (c ∷ a) [] x y alone alone' e =
    ⊎_elim
    (λ is. let two : doubled q (c ∷ a) ≡ q ∷ q ∷ doubled q a = rw (eq-eqb c q is) refl in
    let moved : q ∷ q ∷ (doubled q a ++ q ∷ x) ≡ q ∷ y = sym (ap (λ l. l ++ q ∷ x) two) ∙ e in
    let tail : y ≡ q ∷ (doubled q a ++ q ∷ x) = cc in
    absurd (alone' (ap (λ l. get_or l 0 0) tail)))
    (λ other. let one : doubled q (c ∷ a) ≡ c ∷ doubled q a = doubled-other q c a other in
    let moved : c ∷ (doubled q a ++ q ∷ x) ≡ q ∷ y = sym (ap (λ l. l ++ q ∷ x) one) ∙ e in
    let same : c ≡ q = cc in absurd (other same))
    (cases_eq c q)
closed_same q (c ∷ a) (d ∷ b) x y alone alone' e =
    ⊎_elim
    (λ is. let two : doubled q (c ∷ a) ≡ q ∷ q ∷ doubled q a = rw (eq-eqb c q is) refl in
    ⊎_elim
    (λ too. let both : doubled q (d ∷ b) ≡ q ∷ q ∷ doubled q b = rw (eq-eqb d q too) refl in
    let moved : q ∷ q ∷ (doubled q a ++ q ∷ x) ≡ q ∷ q ∷ (doubled q b ++ q ∷ y) = sym (ap (λ l. l ++ q ∷ x) two) ∙ e ∙ ap (λ l. l ++ q ∷ y) both in
    let rest = closed_same q a b x y alone alone' (cc) in
    let heads : c ≡ d = cc in
    ((λ i. heads i ∷ rest.0 i), rest.1))
    (λ other. let one : doubled q (d ∷ b) ≡ d ∷ doubled q b = doubled-other q d b other in
    let moved : q ∷ q ∷ (doubled q a ++ q ∷ x) ≡ d ∷ (doubled q b ++ q ∷ y) = sym (ap (λ l. l ++ q ∷ x) two) ∙ e ∙ ap (λ l. l ++ q ∷ y) one in
    let same : d ≡ q = cc in absurd (other same))
    (cases_eq d q))
    (λ other. let one : doubled q (c ∷ a) ≡ c ∷ doubled q a = doubled-other q c a other in
    ⊎_elim
    (λ too. let both : doubled q (d ∷ b) ≡ q ∷ q ∷ doubled q b = rw (eq-eqb d q too) refl in
    let moved : c ∷ (doubled q a ++ q ∷ x) ≡ q ∷ q ∷ (doubled q b ++ q ∷ y) = sym (ap (λ l. l ++ q ∷ x) one) ∙ e ∙ ap (λ l. l ++ q ∷ y) both in
    let same : c ≡ q = cc in absurd (other same))
    (λ also. let same : doubled q (d ∷ b) ≡ d ∷ doubled q b = doubled-other q d b also in
    let moved : c ∷ (doubled q a ++ q ∷ x) ≡ d ∷ (doubled q b ++ q ∷ y) = sym (ap (λ l. l ++ q ∷ x) one) ∙ e ∙ ap (λ l. l ++ q ∷ y) same in
    let rest = closed_same q a b x y alone alone' (cc) in
    let heads : c ≡ d = cc in
    ((λ i. heads i ∷ rest.0 i), rest.1))
    (cases_eq d q))
    (cases_eq c q)

-- bytes between quotes stand for one list of bytes
pub enclosed_same : (q : ℕ) (a b : List ℕ) → (0 ≡ q → ⊥) → enclosed q a ≡ enclosed q b → a ≡ b
enclosed_same q a b some e = (closed_same q a b [] [] some some (cc)).0
