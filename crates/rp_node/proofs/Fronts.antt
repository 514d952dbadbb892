-- Fronts of texts: without the blanks at the end, and those that two texts have in common.
use Rattle.std.proofs.Common.{◌≡◌, ◌∙◌, ◌+◌, ◌<◌, ◌≤◌, ℕ, Bool, true, false, cond, List, [], ◌∷◌, ◌++◌, length, take, drop, get_or, refl, sym, ap, subst, ◌-◌, arith}
use Rattle.std.specs.Prelude.{nat_eq}
use Rattle.std.proofs.lemmas.List.{drop_all, drop_more, take_more}
use Rattle.rp_node.specs.ClauseTexts.{before_text, common_front, is_blank, without_blank_end}

-- ---- blanks at the end

blank_last : (xs : List ℕ) (b : ℕ) → is_blank b ≡ true → without_blank_end (xs ++ b ∷ []) ≡ without_blank_end xs
blank_last [] b e = rw e refl
blank_last (x ∷ xs) b e = ap (before_text x) (blank_last xs b e)

stays_before : (x : ℕ) (xs : List ℕ) (b : ℕ) → before_text x (xs ++ b ∷ []) ≡ x ∷ (xs ++ b ∷ [])
stays_before x [] b = refl
stays_before x (y ∷ xs) b = refl

other_last : (xs : List ℕ) (b : ℕ) → is_blank b ≡ false → without_blank_end (xs ++ b ∷ []) ≡ xs ++ b ∷ []
other_last [] b e = rw e refl
other_last (x ∷ xs) b e = ap (before_text x) (other_last xs b e) ∙ stays_before x xs b

-- a blank behind a front falls away with it
pub blank_behind : (xs : List ℕ) (n d : ℕ) → n < length xs → is_blank (get_or xs n d) ≡ true → without_blank_end (take n xs) ≡ without_blank_end (take (n + 1) xs)
blank_behind xs n d lt e = sym (ap without_blank_end (take_more xs n d lt) ∙ blank_last (take n xs) (get_or xs n d) e)

-- and a front that ends in no blank stays
pub front_stays : (xs : List ℕ) (n d : ℕ) → n < length xs → is_blank (get_or xs n d) ≡ false → without_blank_end (take (n + 1) xs) ≡ take (n + 1) xs
front_stays xs n d lt e = ap without_blank_end (take_more xs n d lt) ∙ (other_last (take n xs) (get_or xs n d) e ∙ sym (take_more xs n d lt))

-- the same from the end
pub blank_before : (xs : List ℕ) (n d : ℕ) → 0 < n → n ≤ length xs → is_blank (get_or xs (n - 1) d) ≡ true → without_blank_end (take (n - 1) xs) ≡ without_blank_end (take n xs)
blank_before xs n d some le e =
    let on : n - 1 + 1 ≡ n = omega arith in
    blank_behind xs (n - 1) d (omega (arith, some, le)) e ∙ ap (λ k. without_blank_end (take k xs)) on

pub other_before : (xs : List ℕ) (n d : ℕ) → 0 < n → n ≤ length xs → is_blank (get_or xs (n - 1) d) ≡ false → without_blank_end (take n xs) ≡ take n xs
other_before xs n d some le e =
    let on : n - 1 + 1 ≡ n = omega arith in
    subst (λ k. without_blank_end (take k xs) ≡ take k xs) on (front_stays xs (n - 1) d (omega (arith, some, le)) e)

pub none_before : (xs : List ℕ) (n : ℕ) → n ≡ 0 → without_blank_end (take n xs) ≡ take n xs
none_before xs n e = rw e refl

-- ---- what two texts have in common

by_test : (b : Bool) (n : ℕ) → b ≡ true → cond b n 0 ≡ n
by_test b n e = rw e refl

by_other : (b : Bool) (n : ℕ) → b ≡ false → cond b n 0 ≡ 0
by_other b n e = rw e refl

-- one byte more is the same
pub same_at : (t o : List ℕ) (i d : ℕ) → i < length t → i < length o → nat_eq (get_or t i d) (get_or o i d) ≡ true
    → common_front (drop i t) (drop i o) ≡ common_front (drop (i + 1) t) (drop (i + 1) o) + 1
same_at t o i d lt lo e = rw (drop_more t i d lt, drop_more o i d lo) (by_test _ _ e)

-- the next byte differs
pub other_at : (t o : List ℕ) (i d : ℕ) → i < length t → i < length o → nat_eq (get_or t i d) (get_or o i d) ≡ false → common_front (drop i t) (drop i o) ≡ 0
other_at t o i d lt lo e = rw (drop_more t i d lt, drop_more o i d lo) (by_other _ _ e)

-- one of them has ended
pub text_ends : (t o : List ℕ) (i : ℕ) → length t ≤ i → common_front (drop i t) (drop i o) ≡ 0
text_ends t o i le = rw (drop_all i t le) refl

none_of : (t : List ℕ) → common_front t [] ≡ 0
none_of [] = refl
none_of (x ∷ t) = refl

pub other_ends : (t o : List ℕ) (i : ℕ) → length o ≤ i → common_front (drop i t) (drop i o) ≡ 0
other_ends t o i le = rw (drop_all i o le) (none_of (drop i t))
