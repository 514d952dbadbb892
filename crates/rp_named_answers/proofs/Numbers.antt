-- Values that have 64 bits.
use Rattle.std.proofs.Common.{◌≡◌, ◌<◌, ◌^◌, ◌-◌, ℤ, pos, negsuc, Bool, true, false, ◌&&◌, cond, List, [], ◌∷◌, refl, arith}
use Rattle.std.specs.Prelude.{nat_le, fold}
use Rattle.std.specs.Int.Signed.{mag}
use Rattle.std.specs.List.{AllByRecursion}
use Rattle.std.proofs.lemmas.Bool.{ltb-true, leb-true}
use Rattle.std.specs.declared.cmp.Ordering.{Ordering}
use Rattle.rp_value.specs.Arithmetic.{fitted, fits_64_bits, on_numbers}
use Rattle.rp_value.specs.Sums.{exact_sum, sum_of}
use Rattle.rp_value.specs.declared.value.Value.{Value}
use Rattle.rp_value.specs.declared.value.Value.TheVariants.{Null, Int, Text}
use Rattle.rp_eval.specs.Aggregated.{outdoes, preferred}
use Rattle.rp_protocol.specs.Within.{IsCell}

both_true : (a b : Bool) → (a && b) ≡ true → (a ≡ true) × (b ≡ true)
both_true true b e = (refl, e)
both_true false b e = absurd cc

fits_within : (z : ℤ) → fits_64_bits z ≡ true → mag z < 2 ^ 63
fits_within (pos n) e = ltb-true n (2 ^ 63) e
fits_within (negsuc n) e =
    let low = leb-true n (2 ^ 63 - 1) (both_true (nat_le n (2 ^ 63 - 1)) true e).0 in
    omega arith

pub fitted_within : (z : ℤ) → IsCell (fitted z)
fitted_within z = go (fits_64_bits z) refl
  where
    go : (b : Bool) → fits_64_bits z ≡ b → IsCell (cond b (Int z) Null)
    go true e = fits_within z e
    go false e = tt

pub sum_within : (zs : List ℤ) → IsCell (sum_of zs)
sum_within [] = tt
sum_within (z ∷ zs) = fitted_within (exact_sum (z ∷ zs))

pub on_numbers_within : (f : ℤ → ℤ → ℤ) (a b : Value) → IsCell (on_numbers f a b)
on_numbers_within f Null b = tt
on_numbers_within f (Text t) b = tt
on_numbers_within f (Int m) Null = tt
on_numbers_within f (Int m) (Text t) = tt
on_numbers_within f (Int m) (Int n) = fitted_within (f m n)

-- the least and the greatest are among the values
module _ (order : Ordering) where
  preferred_within : (best new : Value) → IsCell best → IsCell new → IsCell (preferred order best new)
  preferred_within best new h g = go (outdoes order new best)
    where
      go : (b : Bool) → IsCell (cond b new best)
      go true = g
      go false = h

  pub extreme_within : (best : Value) (vs : List Value) → IsCell best → AllByRecursion IsCell vs → IsCell (fold (preferred order) best vs)
  extreme_within best [] h all = h
  extreme_within best (v ∷ vs) h all = extreme_within (preferred order best v) vs (preferred_within best v h all.0) all.1
