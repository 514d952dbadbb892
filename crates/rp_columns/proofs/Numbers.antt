-- Numbers that are read digit by digit.
use Rattle.std.proofs.Common.{◌≡◌, ◌+◌, ◌-◌, ◌*◌, ◌<◌, ◌≤◌, ℕ, suc, Bool, true, false, List, [], ◌∷◌, length, get_or, take, drop, refl, subst, arith, rules}
use Rattle.std.proofs.lemmas.Bool.Decides.{nat_tests}
use Rattle.std.proofs.lemmas.List.{take_all}
use Rattle.rp_columns.specs.Decimals.{groups_behind}
use Rattle.std.specs.Char.{is_ascii_digit}
use Rattle.std.specs.Int.Digits.{number_from_digits_after}
use Rattle.std.specs.Prelude.{◌==◌, not, Option}
use Rattle.rp_columns.specs.Fronts.{begins_with_digit, behind_places, leading_digits, next_place, placed}
use Rattle.rp_columns.specs.Holding.{Holds}

-- the value and the digits that are left make what the value and the digits at first did
abbrev pub Continues : Option ℕ → List ℕ → Option ℕ → List ℕ → Type 0
Continues before digits value left =
    (n : ℕ) → Holds before n → (m : ℕ) × Holds value m × (number_from_digits_after 10 m left ≡ number_from_digits_after 10 n digits)

-- one more digit was taken
pub continues_more : (before value next : Option ℕ) (digits left : List ℕ) (d : ℕ) → Continues before digits value (d ∷ left)
    → ((n : ℕ) → Holds value n → Holds next (n * 10 + d)) → Continues before digits next left
continues_more before value next digits left d so_far pushed = λ n h. let at = so_far n h in (at.0 * 10 + d, pushed at.0 at.1, at.2)

-- no digit is left
pub continues_end : (before value : Option ℕ) (digits : List ℕ) → Continues before digits value [] → (n : ℕ) → Holds before n → Holds value (number_from_digits_after 10 n digits)
continues_end before value digits so_far n h = let at = so_far n h in subst (Holds value) at.2 at.1

-- what a place takes of the digits
pub next_rest : (xs : List ℕ) → leading_digits (next_place xs).1 ≡ behind_places 1 (leading_digits xs)
unfolding leading_digits
next_rest [] = refl
next_rest (b ∷ rest) = both (is_ascii_digit b) refl
  where
    both : (t : Bool) → is_ascii_digit b ≡ t → leading_digits (next_place (b ∷ rest)).1 ≡ behind_places 1 (leading_digits (b ∷ rest))
    both true is = rw is refl
    both false is = rw (is, is) refl

pub next_digit : (n : ℕ) (xs : List ℕ) → placed (suc n) (leading_digits xs).0 ≡ (next_place xs).0 ∷ placed n (leading_digits (next_place xs).1).0
unfolding leading_digits placed
next_digit n [] = refl
next_digit n (b ∷ rest) = both (is_ascii_digit b) refl
  where
    both : (t : Bool) → is_ascii_digit b ≡ t → placed (suc n) (leading_digits (b ∷ rest)).0 ≡ (next_place (b ∷ rest)).0 ∷ placed n (leading_digits (next_place (b ∷ rest)).1).0
    both true is = rw is refl
    both false is = rw (is, is) refl

pub digit_is : (b : ℕ) → 48 ≤ b → b < 58 → is_ascii_digit b ≡ true
digit_is b low high = grind (arith, nat_tests)

same_is : (m mark : ℕ) → m ≡ mark → (m == mark) ≡ true
same_is m mark e = search (e, rules)

-- a mark and three digits are a group
pub group_is : (mark : ℕ) (bytes : List ℕ) → 4 ≤ length bytes → get_or bytes 0 0 ≡ mark → is_ascii_digit (get_or bytes 1 0) ≡ true → is_ascii_digit (get_or bytes 2 0) ≡ true → is_ascii_digit (get_or bytes 3 0) ≡ true
    → groups_behind mark bytes ≡ ((get_or bytes 1 0 - 48) ∷ (get_or bytes 2 0 - 48) ∷ (get_or bytes 3 0 - 48) ∷ (groups_behind mark (take (length bytes - 4) (drop 4 bytes))).0, (groups_behind mark (take (length bytes - 4) (drop 4 bytes))).1)
unfolding groups_behind
group_is mark [] long first a b c = absurd (omega arith)
group_is mark (_ ∷ []) long first a b c = absurd (omega arith)
group_is mark (_ ∷ _ ∷ []) long first a b c = absurd (omega arith)
group_is mark (_ ∷ _ ∷ _ ∷ []) long first a b c = absurd (omega arith)
group_is mark (m ∷ x ∷ y ∷ z ∷ rest) long first a b c =
    let all : take (length rest) rest ≡ rest = take_all (length rest) rest (omega arith) in
    let many : suc (suc (suc (suc (length rest)))) - 4 ≡ length rest = omega arith in
    rw (same_is m mark first, a, b, c, many, all) refl

-- there is a digit where the bytes begin with one
pub some_digit : (xs : List ℕ) → begins_with_digit xs ≡ not (length (leading_digits xs).0 == 0)
unfolding leading_digits
some_digit [] = refl
some_digit (b ∷ rest) = both (is_ascii_digit b) refl
  where
    both : (t : Bool) → is_ascii_digit b ≡ t → begins_with_digit (b ∷ rest) ≡ not (length (leading_digits (b ∷ rest)).0 == 0)
    both true is = let some : (suc (length (leading_digits rest).0) == 0) ≡ false = grind (arith, nat_tests) in rw (is, some) refl
    both false is = rw is refl
