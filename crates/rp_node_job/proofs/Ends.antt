-- Ends of names: without the digits there, and those of what lies beside a file.
use Rattle.std.proofs.Common.{◌≡◌, ◌∙◌, ◌+◌, ◌%◌, ◌^◌, ◌<◌, ◌≤◌, ℕ, Bool, true, false, List, [], ◌∷◌, ◌++◌, length, take, get_or, refl, sym, ap, subst, ◌-◌, arith}
use Rattle.std.specs.Prelude.{codes, decimal, ◌||◌}
use Rattle.std.proofs.lemmas.Bool.Decides.{Decides-eqb, nat_tests}
use Rattle.std.proofs.lemmas.Fmt.{decimal_by_steps}
use Rattle.std.proofs.lemmas.List.{append_assoc, take_more}
use Rattle.std.proofs.lemmas.Slice.Eq.{ends_is}
use Rattle.rp_node_job.specs.Names.{before_name, ends_beside, ends_in, is_digit, without_digits_end}

-- ---- digits at the end

digit_last : (xs : List ℕ) (b : ℕ) → is_digit b ≡ true → without_digits_end (xs ++ b ∷ []) ≡ without_digits_end xs
digit_last [] b e = rw e refl
digit_last (x ∷ xs) b e = ap (before_name x) (digit_last xs b e)

stays_before : (x : ℕ) (xs : List ℕ) (b : ℕ) → before_name x (xs ++ b ∷ []) ≡ x ∷ (xs ++ b ∷ [])
stays_before x [] b = refl
stays_before x (y ∷ xs) b = refl

other_last : (xs : List ℕ) (b : ℕ) → is_digit b ≡ false → without_digits_end (xs ++ b ∷ []) ≡ xs ++ b ∷ []
other_last [] b e = rw e refl
other_last (x ∷ xs) b e = ap (before_name x) (other_last xs b e) ∙ stays_before x xs b

-- a digit behind a front falls away with it
digit_behind : (xs : List ℕ) (n d : ℕ) → n < length xs → is_digit (get_or xs n d) ≡ true → without_digits_end (take n xs) ≡ without_digits_end (take (n + 1) xs)
digit_behind xs n d lt e = sym (ap without_digits_end (take_more xs n d lt) ∙ digit_last (take n xs) (get_or xs n d) e)

-- and a front that ends in no digit stays
front_stays : (xs : List ℕ) (n d : ℕ) → n < length xs → is_digit (get_or xs n d) ≡ false → without_digits_end (take (n + 1) xs) ≡ take (n + 1) xs
front_stays xs n d lt e = ap without_digits_end (take_more xs n d lt) ∙ (other_last (take n xs) (get_or xs n d) e ∙ sym (take_more xs n d lt))

-- the same from the end
pub digit_before : (xs : List ℕ) (n d : ℕ) → 0 < n → n ≤ length xs → is_digit (get_or xs (n - 1) d) ≡ true → without_digits_end (take (n - 1) xs) ≡ without_digits_end (take n xs)
digit_before xs n d some le e =
    let on : n - 1 + 1 ≡ n = omega arith in
    digit_behind xs (n - 1) d (omega (arith, some, le)) e ∙ ap (λ k. without_digits_end (take k xs)) on

pub other_before : (xs : List ℕ) (n d : ℕ) → 0 < n → n ≤ length xs → is_digit (get_or xs (n - 1) d) ≡ false → without_digits_end (take n xs) ≡ take n xs
other_before xs n d some le e =
    let on : n - 1 + 1 ≡ n = omega arith in
    subst (λ k. without_digits_end (take k xs) ≡ take k xs) on (front_stays xs (n - 1) d (omega (arith, some, le)) e)

pub none_before : (xs : List ℕ) (n : ℕ) → n ≡ 0 → without_digits_end (take n xs) ≡ take n xs
none_before xs n e = rw e refl

-- ---- a number at the end

glyph : (m : ℕ) → m < 10 → is_digit (48 + m) ≡ true
glyph m lt = grind (arith, nat_tests)

-- a number falls away
number_last : (n : ℕ) → n < 2 ^ 64 → (xs : List ℕ) → without_digits_end (xs ++ decimal n) ≡ without_digits_end xs
number_last = decimal_by_steps (λ m ds. (xs : List ℕ) → without_digits_end (xs ++ ds) ≡ without_digits_end xs)
    (λ m lt xs. digit_last xs (48 + m) (glyph m lt))
    (λ m ds le before xs. ap without_digits_end (sym (append_assoc xs ds ((48 + m % 10) ∷ [])))
    ∙ (digit_last (xs ++ ds) (48 + m % 10) (glyph (m % 10) (omega arith)) ∙ before xs))

-- what was put behind a name is its end
ends : (name end : List ℕ) → ends_in end (name ++ end) ≡ true
ends name end = (ends_is Decides-eqb (name ++ end) end _ refl).1 name refl

dotted : (front : List ℕ) → without_digits_end (front ++ codes ".") ≡ front ++ codes "."
dotted front = other_last front 46 refl

last : (path : List ℕ) → ends_in (codes ".refused.") (path ++ codes ".refused" ++ codes ".") ≡ true
last path = ap (ends_in (codes ".refused.")) (append_assoc path (codes ".refused") (codes ".")) ∙ ends path (codes ".refused.")

either : (a b : Bool) → b ≡ true → (a || b) ≡ true
either true b e = refl
either false b e = e

-- the name of a later refused file is one of those that lie beside a file
pub later_beside : (path name : List ℕ) (n : ℕ) → n < 2 ^ 64 → name ≡ path ++ codes ".refused" ++ codes "." ++ decimal n → ends_beside name ≡ true
later_beside path name n small e =
    let front : List ℕ = path ++ codes ".refused" in
    let left : without_digits_end name ≡ front ++ codes "." = ap without_digits_end e ∙ (number_last n small (front ++ codes ".") ∙ dotted front) in
    let is : ends_in (codes ".refused.") (without_digits_end name) ≡ true = ap (ends_in (codes ".refused.")) left ∙ last path in
    either (ends_in (codes ".new") name) _ (either (ends_in (codes ".lock") name) _ (either (ends_in (codes ".refused") name) _ is))
