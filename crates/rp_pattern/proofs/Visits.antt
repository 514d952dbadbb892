-- What is told of each place of a list, where an item is set or pushed.
use Rattle.std.proofs.Common.{◌≡◌, ◌⊎◌, ◌<◌, ℕ, zero, suc, Bool, true, List, [], ◌∷◌, ◌++◌, length, get_or, set, slice_get, Option, Some, None, refl, sym, ap, ◌∙◌, inl, inr, ⊎_elim, le_of_suc-le-suc, arith}

module _ {A : Type 0} (has : Option A → Bool) where
  pub push_same : (xs : List A) (y : A) (d : ℕ) → has (Some y) ≡ has None → has (slice_get (xs ++ y ∷ []) d) ≡ has (slice_get xs d)
  push_same [] y zero e = e
  push_same [] y (suc d) e = refl
  push_same (x ∷ xs) y zero e = refl
  push_same (x ∷ xs) y (suc d) e = push_same xs y d e

  pub set_noted : (xs : List A) (i : ℕ) (y : A) → i < length xs → has (slice_get (set xs i y) i) ≡ has (Some y)
  set_noted [] i y lt = absurd (omega (arith, lt))
  set_noted (x ∷ xs) zero y lt = refl
  set_noted (x ∷ xs) (suc i) y lt = set_noted xs i y (le_of_suc-le-suc lt)

  -- a was item i, before y was set there
  pub set_keeps : (xs : List A) (i : ℕ) (a y : A) (d : ℕ) → a ≡ get_or xs i a → (has (Some a) ≡ true → has (Some y) ≡ true) → has (slice_get xs d) ≡ true → has (slice_get (set xs i y) d) ≡ true
  set_keeps [] i a y d e keeps h = h
  set_keeps (x ∷ xs) zero a y zero e keeps h = keeps (ap (λ z. has (Some z)) e ∙ h)
  set_keeps (x ∷ xs) zero a y (suc d) e keeps h = h
  set_keeps (x ∷ xs) (suc i) a y zero e keeps h = h
  set_keeps (x ∷ xs) (suc i) a y (suc d) e keeps h = set_keeps xs i a y d e keeps h

  pub set_only : {P : Type 0} (xs : List A) (i : ℕ) (a y : A) (d : ℕ) → a ≡ get_or xs i a → (has (Some y) ≡ true → (has (Some a) ≡ true) ⊎ P) → has (slice_get (set xs i y) d) ≡ true → (has (slice_get xs d) ≡ true) ⊎ (P × (d ≡ i))
  set_only [] i a y d e only h = inl h
  set_only (x ∷ xs) zero a y zero e only h = ⊎_elim (λ old. inl (ap (λ z. has (Some z)) (sym e) ∙ old)) (λ p. inr (p, refl)) (only h)
  set_only (x ∷ xs) zero a y (suc d) e only h = inl h
  set_only (x ∷ xs) (suc i) a y zero e only h = inl h
  set_only (x ∷ xs) (suc i) a y (suc d) e only h = ⊎_elim inl (λ p. inr (p.0, ap suc p.1)) (set_only xs i a y d e only h)
