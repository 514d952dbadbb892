-- A key with capital letters, a byte at a time.
use Rattle.std.proofs.Common.{◌≡◌, ◌∙◌, ◌<◌, ℕ, Bool, true, false, List, get_or, length, map, refl, sym, ap, arith}
use Rattle.std.proofs.lemmas.List.{ext_get_or, get_or-map, length-map}
use Rattle.std.proofs.lemmas.Slice.Eq.{bytes_eq-Decides}
use Rattle.std.specs.Str.{bytes_eq}

module _ (f : ℕ → ℕ) (xs ys : List ℕ) where
  -- where one byte differs, the texts do
  pub differ_at : (k : ℕ) → k < length xs → (f (get_or xs k 0) ≡ get_or ys k 0 → ⊥) → false ≡ bytes_eq (map f xs) ys
  differ_at k low other = go (bytes_eq (map f xs) ys) refl
    where
      go : (t : Bool) → bytes_eq (map f xs) ys ≡ t → false ≡ t
      go true e = absurd (other (sym (get_or-map f xs k 0 0 low) ∙ ap (λ l. get_or l k 0) ((bytes_eq-Decides (map f xs) ys).0 e)))
      go false e = refl

  pub same_all : length ys ≡ length xs → ((k : ℕ) → k < length xs → f (get_or xs k 0) ≡ get_or ys k 0) → true ≡ bytes_eq (map f xs) ys
  same_all long each =
      sym ((bytes_eq-Decides (map f xs) ys).1 (ext_get_or 0 (map f xs) ys (length-map xs f ∙ sym long)
      (λ k low. get_or-map f xs k 0 0 (omega (arith, low, length-map xs f)) ∙ each k (omega (arith, low, length-map xs f)))))
