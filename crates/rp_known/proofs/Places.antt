-- The place of the first label that passes.
use Rattle.std.proofs.Common.{◌≡◌, ℕ, zero, suc, ◌<◌, Bool, true, false, cond, List, [], ◌∷◌, length, take, get_or, Option, Some, None, refl, ap, arith}
use Rattle.std.specs.Prelude.{option_map}
use Rattle.rp_words.specs.declared.word.Label.{Label}
use Rattle.rp_known.specs.Skips.{first_passing}

none_before : (o : Option ℕ) → option_map suc o ≡ None → o ≡ None
none_before None e = refl
none_before (Some k) e = cc

none_after : (b : Bool) (o o' : Option ℕ) → (o ≡ None → o' ≡ None) → cond b (Some 0) (option_map suc o) ≡ None → cond b (Some 0) (option_map suc o') ≡ None
none_after true o o' h e = cc
none_after false o o' h e = ap (option_map suc) (h (none_before o e))

pub first_not_here : (test : Label → Bool) (ls : List Label) (i : ℕ) (d : Label) → i < length ls → first_passing test (take i ls) ≡ None → test (get_or ls i d) ≡ false → first_passing test (take (suc i) ls) ≡ None
first_not_here test [] i d h none here = absurd (omega (arith, h))
first_not_here test (l ∷ ls) zero d h none here = ap (λ b. cond b (Some 0) None) here
first_not_here test (l ∷ ls) (suc i) d h none here = none_after (test l) (first_passing test (take i ls)) (first_passing test (take (suc i) ls)) (λ e. first_not_here test ls i d (omega (arith, h)) e here) none

some_after : (b : Bool) (o o' : Option ℕ) (i : ℕ) → (o ≡ None → o' ≡ Some i) → cond b (Some 0) (option_map suc o) ≡ None → cond b (Some 0) (option_map suc o') ≡ Some (suc i)
some_after true o o' i h e = cc
some_after false o o' i h e = ap (option_map suc) (h (none_before o e))

pub first_here : (test : Label → Bool) (ls : List Label) (i : ℕ) (d : Label) → i < length ls → first_passing test (take i ls) ≡ None → test (get_or ls i d) ≡ true → first_passing test ls ≡ Some i
first_here test [] i d h none here = absurd (omega (arith, h))
first_here test (l ∷ ls) zero d h none here = ap (λ b. cond b (Some 0) (option_map suc (first_passing test ls))) here
first_here test (l ∷ ls) (suc i) d h none here = some_after (test l) (first_passing test (take i ls)) (first_passing test ls) i (λ e. first_here test ls i d (omega (arith, h)) e here) none
