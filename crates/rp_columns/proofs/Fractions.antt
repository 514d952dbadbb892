-- The first digits of a fraction.
use Rattle.std.proofs.Common.{◌≡◌, ◌-◌, ◌<◌, ◌≤◌, ◌^◌, ℕ, zero, suc, Bool, true, false, List, [], ◌∷◌, length, Ok, Err, refl, sym, ap, arith, true≢false}
use Rattle.std.proofs.lemmas.Bool.Decides.{nat_tests}
use Rattle.std.proofs.lemmas.Int.Digits.{number_lt}
use Rattle.std.proofs.Math.Nat.{pow-le-pow_right}
use Rattle.std.specs.Char.{is_ascii_digit}
use Rattle.std.specs.Int.Digits.{AllBelowBase, number_from_digits}
use Rattle.rp_columns.specs.Fronts.{begins_with_digit, leading_digits, placed}
use Rattle.rp_columns.specs.Instants.{some_fraction}
use Rattle.rp_columns.specs.declared.fault.ReadingFault.TheVariants.{Form}

leading_below : (xs : List ℕ) → AllBelowBase 10 (leading_digits xs).0
unfolding leading_digits
leading_below [] = tt
leading_below (b ∷ rest) = by (is_ascii_digit b) refl (leading_below rest)
  where
    below : is_ascii_digit b ≡ true → b - 48 < 10
    below is = grind (arith, nat_tests)

    by : (t : Bool) → is_ascii_digit b ≡ t → AllBelowBase 10 (leading_digits rest).0 → AllBelowBase 10 (leading_digits (b ∷ rest)).0
    by true is all = rw is (below is, all)
    by false is all = rw is tt

placed_below : (n : ℕ) (ds : List ℕ) → AllBelowBase 10 ds → AllBelowBase 10 (placed n ds)
unfolding placed
placed_below zero ds all = tt
placed_below (suc n) [] all = (omega arith, placed_below n [] tt)
placed_below (suc n) (d ∷ ds) all = (all.0, placed_below n ds all.1)

length-placed : (n : ℕ) (ds : List ℕ) → length (placed n ds) ≡ n
unfolding placed
length-placed zero ds = refl
length-placed (suc n) [] = ap suc (length-placed n [])
length-placed (suc n) (d ∷ ds) = ap suc (length-placed n ds)

-- at most six digits are below a million
pub fraction_small : (places : ℕ) (xs : List ℕ) → places ≤ 6 → number_from_digits 10 (placed places (leading_digits xs).0) < 1000000
fraction_small places xs few =
    let below = number_lt 10 (placed places (leading_digits xs).0) (placed_below places (leading_digits xs).0 (leading_below xs)) in
    let size : 10 ^ length (placed places (leading_digits xs).0) ≡ 10 ^ places = ap (λ n. 10 ^ n) (length-placed places (leading_digits xs).0) in
    let most : 10 ^ places ≤ 10 ^ 6 = pow-le-pow_right {n = 10} (omega arith) few in
    omega (arith, below, size, most)

pub no_fraction : (places : ℕ) (xs : List ℕ) → begins_with_digit xs ≡ false → some_fraction places (leading_digits xs) ≡ Err Form
unfolding leading_digits
no_fraction places [] none = refl
no_fraction places (b ∷ rest) none = rw none refl

pub fraction_is : (places : ℕ) (xs : List ℕ) → begins_with_digit xs ≡ true
    → some_fraction places (leading_digits xs) ≡ Ok (number_from_digits 10 (placed places (leading_digits xs).0), (leading_digits xs).1)
unfolding leading_digits
fraction_is places [] some = absurd (true≢false (sym some))
fraction_is places (b ∷ rest) some = rw some refl
