-- Names of which each is none of those before it.
use Rattle.std.proofs.Common.{◌≡◌, ℕ, true, false, List, [], ◌∷◌, ◌++◌, refl, sym, subst, append_assoc, ⊎_elim, arith}
use Rattle.std.specs.Prelude.{⊤, Contains}
use Rattle.std.specs.Cmp.Lexicographic.{bytes_decides}
use Rattle.std.proofs.lemmas.List.{append-nil}
use Rattle.std.proofs.lemmas.List.Elements.{Contains-get_or, Contains-append_cases}
use Rattle.std.proofs.lemmas.List.Folds.{list_any-from_Any}
use Rattle.std.proofs.lemmas.List.Quantifiers.{all_pairs_push}
use Rattle.json.specs.Strict.{AreDistinct}
use Rattle.rp_resolution.specs.Context.{is_name}
use Rattle.rp_resolution.specs.Variables.{is_among}

-- the name is none of these
abbrev pub IsNone : List (List ℕ) → List ℕ → Type 0
IsNone names name = Contains names name → ⊥

there : (names : List (List ℕ)) (name : List ℕ) → Contains names name → is_among name names ≡ true
there names name c = list_any-from_Any (λ other. is_name name other) names (c.0, name, c.1, c.2, (bytes_decides name name).1 refl)

pub is_none : (names : List (List ℕ)) (name : List ℕ) → is_among name names ≡ false → IsNone names name
is_none names name e c = let t = there names name c in cc

pub none_of_both : (some others : List (List ℕ)) (name : List ℕ) → IsNone some name → IsNone others name → IsNone (some ++ others) name
none_of_both some others name h k c = ⊎_elim h k (Contains-append_cases some others name c)

-- each of the names is none of these, and none of those before it
abbrev pub AreFresh : List (List ℕ) → List (List ℕ) → Type 0
AreFresh before [] = ⊤
AreFresh before (name ∷ names) = IsNone before name × AreFresh (before ++ name ∷ []) names

pub fresh_both : (before some others : List (List ℕ)) → AreFresh before some → AreFresh (before ++ some) others → AreFresh before (some ++ others)
fresh_both before [] others h k = subst (λ names. AreFresh names others) (append-nil before) k
fresh_both before (name ∷ some) others h k =
    (h.0, fresh_both (before ++ name ∷ []) some others h.1 (subst (λ names. AreFresh names others) (sym (append_assoc before (name ∷ []) some)) k))

all_distinct : (before names : List (List ℕ)) → AreDistinct before → AreFresh before names → AreDistinct (before ++ names)
all_distinct before [] h k = subst AreDistinct (sym (append-nil before)) h
all_distinct before (name ∷ names) h k =
    subst AreDistinct (append_assoc before (name ∷ []) names)
    (all_distinct (before ++ name ∷ []) names
    (all_pairs_push (λ a b. a ≡ b → ⊥) before name h (λ i d low e. k.0 (subst (Contains before) e (Contains-get_or before i d low)))) k.1)

pub distinct : (names : List (List ℕ)) → AreFresh [] names → AreDistinct names
distinct names h = all_distinct [] names (λ i j d less low. absurd (omega (arith, low))) h
