-- What follows where a list of faults is empty.
use Rattle.std.proofs.Common.{◌≡◌, ℕ, ◌<◌, Bool, true, false, ◌&&◌, Some, List, [], ◌∷◌, ◌++◌, length, refl, arith}
use Rattle.std.specs.Prelude.{nat_lt}
use Rattle.std.specs.List.{AllByRecursion, position, position_or_len}
use Rattle.std.proofs.lemmas.Bool.Decides.{nat_tests}
use Rattle.std.proofs.lemmas.Option.{cond_some}
use Rattle.rp_resolution.specs.declared.fault.Fault.{Fault}
use Rattle.rp_resolution.specs.declared.fault.CheckKind.{CheckKind}
use Rattle.rp_resolution.specs.PartFaults.{each_after}
use Rattle.rp_resolution.specs.ExprFaults.{unless}

-- no fault of two lists is none of either
pub none_left : {A : Type 0} (fs gs : List A) → fs ++ gs ≡ [] → fs ≡ []
none_left [] gs e = refl
none_left (f ∷ fs) gs e = cc

pub none_right : {A : Type 0} (fs gs : List A) → fs ++ gs ≡ [] → gs ≡ []
none_right [] gs e = e
none_right (f ∷ fs) gs e = cc

pub holds : (b : Bool) (kind : CheckKind) (at : ℕ) → unless b kind at ≡ [] → b ≡ true
holds true kind at e = refl
holds false kind at e = cc

pub both : (a b : Bool) → a ≡ true → b ≡ true → (a && b) ≡ true
both a b p q = rw (p, q) refl

pub both_true : (a b : Bool) → (a && b) ≡ true → (a ≡ true) × (b ≡ true)
both_true true b e = (refl, e)
both_true false b e = (cc, cc)

-- what no fault says of an element holds of each
pub each_clean : {A : Type 0} (P : A → Type 0) (look : List A → A → List Fault) → ((earlier : List A) (x : A) → look earlier x ≡ [] → P x)
    → (earlier xs : List A) → each_after look earlier xs ≡ [] → AllByRecursion P xs
each_clean P look clean earlier [] e = tt
each_clean P look clean earlier (x ∷ xs) e =
    (clean earlier x (none_left (look earlier x) _ e), each_clean P look clean (earlier ++ x ∷ []) xs (none_right (look earlier x) _ e))

-- a place that is found lies in the list
pub found_within : {A : Type 0} (p : A → Bool) (xs : List A) (place : ℕ) → position p xs ≡ Some place → place < length xs
found_within p xs place e =
    let found = cond_some (nat_lt (position_or_len p xs) (length xs)) (position_or_len p xs) place e in
    let below : position_or_len p xs < length xs = grind (arith, nat_tests, found.0) in
    omega (arith, below, found.1)
