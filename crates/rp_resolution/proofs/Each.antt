-- The faults of the elements of a list, as a loop looks for them.
use Rattle.std.proofs.Common.{◌≡◌, ◌∙◌, ℕ, suc, ◌+◌, ◌<◌, ◌≤◌, List, [], ◌∷◌, ◌++◌, map, length, take, drop, get_or, refl, sym, ap, add-one, drop-cons, Bool, ◌||◌, cond, Some, None}
use Rattle.std.proofs.lemmas.List.{map_push, take_more, drop_all, length-map}
use Rattle.std.specs.Prelude.{not, nat_lt}
use Rattle.std.specs.List.{list_any, position, position_or_len}
use Rattle.rp_resolution.specs.declared.fault.Fault.{Fault}
use Rattle.rp_resolution.specs.declared.fault.CheckFault.{CheckFault}
use Rattle.rp_resolution.specs.Checked.{Tells}
use Rattle.rp_resolution.specs.PartFaults.{each_after, each}
use Rattle.rp_resolution.proofs.Telling.{tells_front}

-- what is seen of a list by `f` has the faults of the elements from the i-th on, since those before it have none
abbrev pub IsLeft : {A B : Type 0} → (A → B) → (List B → B → List Fault) → List A → ℕ → Type 0
IsLeft f look xs i = each look (map f xs) ≡ each_after look (map f (take i xs)) (map f (drop i xs))

pub begins : {A B : Type 0} (f : A → B) (look : List B → B → List Fault) (xs : List A) → IsLeft f look xs 0
begins f look xs = refl

pub cut : {A B : Type 0} (f : A → B) (xs : List A) (i : ℕ) (x : A) → i < length xs → x ≡ get_or xs i x → map f (drop i xs) ≡ f x ∷ map f (drop (i + 1) xs)
cut f xs i x h e = rw (add-one, drop-cons xs i x) (ap (λ z. f z ∷ map f (drop (suc i) xs)) (sym e))

pub next_of : {A : Type 0} (xs : List A) (i : ℕ) (x : A) → i < length xs → x ≡ get_or xs i x → drop i xs ≡ x ∷ drop (i + 1) xs
next_of xs i x h e = rw (add-one, drop-cons xs i x) (ap (λ z. z ∷ drop (suc i) xs) (sym e))

pub taken_with : {A : Type 0} (xs : List A) (i : ℕ) (x : A) → i < length xs → x ≡ get_or xs i x → take (i + 1) xs ≡ take i xs ++ x ∷ []
taken_with xs i x h e = rw (take_more xs i x h) (ap (λ z. take i xs ++ z ∷ []) (sym e))

pub one_taken : {A B : Type 0} (f : A → B) (xs : List A) (i : ℕ) (x : A) → i < length xs → x ≡ get_or xs i x → map f (take (i + 1) xs) ≡ map f (take i xs) ++ f x ∷ []
one_taken f xs i x h e = ap (map f) (taken_with xs i x h e) ∙ map_push f (take i xs) x

-- the next element has no fault
pub goes_on : {A B : Type 0} (f : A → B) (look : List B → B → List Fault) (xs : List A) (i : ℕ) (x : A)
    → i < length xs → x ≡ get_or xs i x → IsLeft f look xs i → look (map f (take i xs)) (f x) ≡ [] → IsLeft f look xs (i + 1)
goes_on f look xs i x h e left none =
    left ∙ rw (cut f xs i x h e, one_taken f xs i x h e, none) refl

-- the next element has one
pub goes_wrong : {A B : Type 0} (f : A → B) (look : List B → B → List Fault) (xs : List A) (i : ℕ) (x : A) (e : CheckFault)
    → i < length xs → x ≡ get_or xs i x → IsLeft f look xs i → Tells e (look (map f (take i xs)) (f x)) → Tells e (each look (map f xs))
goes_wrong f look xs i x e h is left told =
    rw (left, cut f xs i x h is) (tells_front e (look (map f (take i xs)) (f x)) _ told)

-- no element is left
pub ends : {A B : Type 0} (f : A → B) (look : List B → B → List Fault) (xs : List A) (i : ℕ) → length xs ≤ i → IsLeft f look xs i → each look (map f xs) ≡ []
ends f look xs i e left = left ∙ rw (drop_all i xs e) refl

-- the same, where the elements themselves are looked at
abbrev pub AreLeft : {A : Type 0} → (List A → A → List Fault) → List A → ℕ → Type 0
AreLeft look xs i = each look xs ≡ each_after look (take i xs) (drop i xs)

pub goes_on_by : {A : Type 0} (look : List A → A → List Fault) (xs : List A) (i : ℕ) (x : A)
    → i < length xs → x ≡ get_or xs i x → AreLeft look xs i → look (take i xs) x ≡ [] → AreLeft look xs (i + 1)
goes_on_by look xs i x h e left none = left ∙ rw (next_of xs i x h e, taken_with xs i x h e, none) refl

pub goes_wrong_by : {A : Type 0} (look : List A → A → List Fault) (xs : List A) (i : ℕ) (x : A) (e : CheckFault)
    → i < length xs → x ≡ get_or xs i x → AreLeft look xs i → Tells e (look (take i xs) x) → Tells e (each look xs)
goes_wrong_by look xs i x e h is left told = rw (left, next_of xs i x h is) (tells_front e (look (take i xs) x) _ told)

pub ends_by : {A : Type 0} (look : List A → A → List Fault) (xs : List A) (i : ℕ) → length xs ≤ i → AreLeft look xs i → each look xs ≡ []
ends_by look xs i e left = left ∙ rw (drop_all i xs e) refl

-- a test of the names is a test of what they are the names of
pub among_seen : {A B : Type 0} (f : A → B) (test : B → Bool) (xs : List A) → list_any (λ x. test (f x)) xs ≡ list_any test (map f xs)
among_seen f test [] = refl
among_seen f test (x ∷ xs) = ap (λ b. test (f x) || b) (among_seen f test xs)

place_seen : {A B : Type 0} (f : A → B) (test : B → Bool) (xs : List A) → position_or_len (λ x. test (f x)) xs ≡ position_or_len test (map f xs)
place_seen f test [] = refl
place_seen f test (x ∷ xs) = ap (λ n. cond (not (test (f x))) (1 + n) 0) (place_seen f test xs)

pub position_seen : {A B : Type 0} (f : A → B) (test : B → Bool) (xs : List A) → position (λ x. test (f x)) xs ≡ position test (map f xs)
position_seen f test xs =
    rw (place_seen f test xs) (ap (λ n. cond (nat_lt (position_or_len test (map f xs)) n) (Some (position_or_len test (map f xs))) None) (sym (length-map xs f)))
