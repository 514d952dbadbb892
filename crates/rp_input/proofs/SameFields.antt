-- A field that is a value of a table's column is the same value by the reading of its kind.
use Rattle.std.proofs.Common.{◌≡◌, ◌≢◌, ◌∙◌, ◌<◌, ◌≤◌, ◌+◌, ◌-◌, ◌^◌, ◌++◌, ℕ, zero, suc, ℤ, pos, neg_ℤ, List, [], ◌∷◌, Bool, true, false, length, map, Ok, inl, inr, refl, sym, ap, subst, arith, rules}
use Rattle.std.specs.Prelude.{◌==◌, nat_le, nat_lt}
use Rattle.std.specs.Char.{digit_value, is_ascii_digit}
use Rattle.std.specs.Int.{w64}
use Rattle.std.specs.Int.Digits.{number_from_digits}
use Rattle.std.specs.Str.{is_utf8}
use Rattle.std.specs.Str.Parse.{AllDigits, digits_value}
use Rattle.std.proofs.lemmas.Int.Digits.{digits_value_is}
use Rattle.std.proofs.lemmas.List.{append-nil}
use Rattle.std.proofs.lemmas.Str.{digit_value_digit, is_utf8-from_IsUtf8}
use Rattle.std.proofs.lemmas.Str.Parse.{digit_from_value}
use mir.Val.{SFits as FitsSigned}
use Rattle.rp_columns.specs.Decimals.{decimal_of, in_range, without_sign}
use Rattle.rp_columns.specs.Fronts.{are_blanks, begins_with, is_blank, leading_digits, placed, without_blanks}
use Rattle.rp_columns.specs.Headings.{reading_of}
use Rattle.rp_columns.specs.Readings.{no_marks, value_of}
use Rattle.rp_value.specs.declared.value.Kind.{Kind}
use Rattle.rp_value.specs.declared.value.Kind.TheVariants as kind
use Rattle.rp_value.specs.declared.value.Value.{Value}
use Rattle.rp_value.specs.declared.value.Value.TheVariants.{Null, Int, Text}
use Rattle.rp_input.specs.Fields.{IsField, IsNumberText}

digit : (c : ℕ) → digit_value c < 10 → (is_ascii_digit c ≡ true) × (c - 48 ≡ digit_value c)
digit c small =
    let range = digit_from_value c small in
    let is = digit_value_digit c range in
    (search (range, rules), omega (arith, is))

leading : (ds : List ℕ) → AllDigits 10 ds → leading_digits ds ≡ (map digit_value ds, [])
unfolding leading_digits
leading [] all = refl
leading (c ∷ cs) all = rw ((digit c all.0).0, leading cs all.1) (ap (λ x. (x ∷ map digit_value cs, [])) (digit c all.0).1)

-- the number that digits alone make
value : (ds : List ℕ) → number_from_digits 10 ((map digit_value ds ++ []) ++ []) ≡ digits_value 10 ds
value ds = ap (number_from_digits 10) (append-nil (map digit_value ds ++ []) ∙ append-nil (map digit_value ds)) ∙ sym (digits_value_is 10 ds)

not_none : (n : ℕ) → (suc n == 0) ≡ false
not_none n = search rules

-- digits behind a sign or none
behind_sign : (bytes : List ℕ) (c : ℕ) (cs : List ℕ) → AllDigits 10 (c ∷ cs) → without_blanks bytes ≡ bytes → without_sign bytes ≡ c ∷ cs
    → decimal_of no_marks 0 bytes ≡ in_range (begins_with 45 bytes) (digits_value 10 (c ∷ cs))
unfolding without_blanks placed
behind_sign bytes c cs all front is = rw (front, is, leading (c ∷ cs) all, not_none (length (map digit_value cs))) (ap (in_range (begins_with 45 bytes)) (value (c ∷ cs)))

negative : (n : ℕ) → FitsSigned w64 (neg_ℤ (pos n)) → in_range true n ≡ Ok (neg_ℤ (pos n))
negative zero fits = refl
negative (suc m) fits = let small : suc m ≤ 2 ^ 63 = omega (arith, fits.sfits) in
    let le : nat_le (suc m) (2 ^ 63) ≡ true = search (small, rules) in
    rw le refl

positive : (n : ℕ) → FitsSigned w64 (pos n) → in_range false n ≡ Ok (pos n)
positive n fits = let lt : nat_lt n (2 ^ 63) ≡ true = search (fits.sfits, rules) in rw lt refl

-- bytes that begin with no blank
begins_so : (b : ℕ) (rest : List ℕ) → is_blank b ≡ false → without_blanks (b ∷ rest) ≡ b ∷ rest
unfolding without_blanks
begins_so b rest none = rw none refl

not_blank : (b : ℕ) → is_ascii_digit b ≡ true → is_blank b ≡ false
not_blank b is = search (is, rules)

-- the value of a whole number's text, which begins with no blank
abbrev IsRead : List ℕ → ℤ → Type 0
IsRead bytes z = (without_blanks bytes ≡ bytes) × (decimal_of no_marks 0 bytes ≡ Ok z)

minus : (rest : List ℕ) (z : ℤ) → IsNumberText (45 ∷ rest) z → IsRead (45 ∷ rest) z
minus [] z is = absurd (omega (arith, is.0.0))
minus (c ∷ cs) z is =
    let front = begins_so 45 (c ∷ cs) refl in
    (front, behind_sign (45 ∷ c ∷ cs) c cs is.0.1 front refl ∙ negative (digits_value 10 (c ∷ cs)) is.1 ∙ ap (λ x. Ok x) (sym is.2))

plus : (rest : List ℕ) (z : ℤ) → IsNumberText (43 ∷ rest) z → IsRead (43 ∷ rest) z
plus [] z is = absurd (omega (arith, is.0.0))
plus (c ∷ cs) z is =
    let front = begins_so 43 (c ∷ cs) refl in
    (front, behind_sign (43 ∷ c ∷ cs) c cs is.0.1 front refl ∙ positive (digits_value 10 (c ∷ cs)) is.1 ∙ ap (λ x. Ok x) (sym is.2))

neither : (b : ℕ) (rest : List ℕ) (z : ℤ) → (b == 45) ≡ false → (b == 43) ≡ false → IsNumberText (b ∷ rest) z → IsRead (b ∷ rest) z
neither b rest z no_minus no_plus is =
    let all : AllDigits 10 (b ∷ rest) = rw (no_minus, no_plus) at is.0.1 in
    let fits : FitsSigned w64 (pos (digits_value 10 (b ∷ rest))) = rw (no_minus, no_plus) at is.1 in
    let same : z ≡ pos (digits_value 10 (b ∷ rest)) = rw (no_minus, no_plus) at is.2 in
    let front = begins_so b rest (not_blank b (digit b all.0).0) in
    let unsigned : without_sign (b ∷ rest) ≡ b ∷ rest = rw (no_minus, no_plus) refl in
    (front, behind_sign (b ∷ rest) b rest all front unsigned ∙ rw no_minus (positive (digits_value 10 (b ∷ rest)) fits) ∙ ap (λ x. Ok x) (sym same))

number : (bytes : List ℕ) (z : ℤ) → IsNumberText bytes z → IsRead bytes z
number [] z is = absurd (omega (arith, is.0.0))
number (b ∷ rest) z is = by (b == 45) refl (b == 43) refl
  where
    by : (m : Bool) → (b == 45) ≡ m → (p : Bool) → (b == 43) ≡ p → IsRead (b ∷ rest) z
    by true m p same_p = let same : b ≡ 45 = search (m, rules) in subst (λ x. IsRead (x ∷ rest) z) (sym same) (minus rest z (subst (λ x. IsNumberText (x ∷ rest) z) same is))
    by false m true p = let same : b ≡ 43 = search (p, rules) in subst (λ x. IsRead (x ∷ rest) z) (sym same) (plus rest z (subst (λ x. IsNumberText (x ∷ rest) z) same is))
    by false m false p = neither b rest z m p is

pub same_field : (k : Kind) (n : ℕ) (bytes : List ℕ) (v : Value) → IsField k bytes v → value_of ([] ∷ []) (reading_of k) n bytes ≡ Ok v
same_field kind.Int n [] v (inl is) = ap (λ x. Ok x) (sym is.1)
same_field kind.Text n [] v (inl is) = ap (λ x. Ok x) (sym is.1)
same_field k n (b ∷ rest) v (inl is) = absurd (cc)
same_field k n [] v (inr is) = absurd (is.0 refl)
same_field kind.Text n (b ∷ rest) v (inr is) = rw (is_utf8-from_IsUtf8 (b ∷ rest) is.1) (ap (λ x. Ok x) (sym is.2))
same_field kind.Int n (b ∷ rest) v (inr is) =
    let read = number (b ∷ rest) is.2.0 is.2.2 in
    let full : are_blanks (b ∷ rest) ≡ false = rw read.0 (not_none (length rest)) in
    rw (full, read.1) (ap (λ x. Ok x) (sym is.2.1))
