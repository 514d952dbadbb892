-- Rows put into an order one by one, from the last to the first: each sinks past the rows that are before it.
use Rattle.std.proofs.Common.{◌≡◌, ◌∙◌, zero, suc, ◌+◌, List, [], ◌∷◌, Bool, true, false, true≢false, not, ◌&&◌, cond, filter, get_or, refl, sym, ap, arith}
use Rattle.std.specs.Bool.{⊤}
use Rattle.std.specs.Cmp.{IsStrictWeakOrder}
use Rattle.std.specs.List.Sorted.{IsSortedBy, IsStableBy, ties}

module _ {X : Type 0} (lt : X → X → Bool) where
  -- x behind all that come first and are less
  abbrev sink : X → List X → List X
  sink x [] = x ∷ []
  sink x (y ∷ ys) = cond (lt y x) (y ∷ sink x ys) (x ∷ y ∷ ys)

  abbrev pub sorted : List X → List X
  sorted [] = []
  sorted (x ∷ xs) = sink x (sorted xs)

  -- the first of a list is not less than x
  abbrev Follows : X → List X → Type 0
  Follows x [] = ⊤
  Follows x (y ∷ ys) = lt y x ≡ false

  abbrev Rises : List X → Type 0
  Rises [] = ⊤
  Rises (x ∷ xs) = Follows x xs × Rises xs

  sorted_of : (xs : List X) → Rises xs → IsSortedBy lt xs
  sorted_of [] h k d low within = absurd (omega arith)
  sorted_of (x ∷ []) h k d low within = absurd (omega arith)
  sorted_of (x ∷ y ∷ ys) h zero d low within = h.0
  sorted_of (x ∷ y ∷ ys) h (suc k) d low within =
      ap (λ n. lt (get_or (x ∷ y ∷ ys) n d) (get_or (y ∷ ys) k d)) {x = suc k + 1} {y = suc (k + 1)} (omega arith) ∙ sorted_of (y ∷ ys) h.1 k d (omega arith) (omega arith)

  module _ (o : IsStrictWeakOrder lt) where
    follows_sunk : (y x : X) (ys : List X) → lt y x ≡ true → Follows y ys → Follows y (sink x ys)
    follows_sunk y x [] less h = o.one_way y x less
    follows_sunk y x (z ∷ zs) less h = by (lt z x)
      where
        by : (b : Bool) → Follows y (cond b (z ∷ sink x zs) (x ∷ z ∷ zs))
        by true = h
        by false = o.one_way y x less

    rises_sunk : (x : X) (ys : List X) → Rises ys → Rises (sink x ys)
    rises_sunk x [] h = (tt, tt)
    rises_sunk x (y ∷ ys) h = by (lt y x) refl (rises_sunk x ys h.1)
      where
        by : (b : Bool) → lt y x ≡ b → Rises (sink x ys) → Rises (cond b (y ∷ sink x ys) (x ∷ y ∷ ys))
        by true is rest = (follows_sunk y x ys is h.0, rest)
        by false is rest = (is, h)

    rises : (xs : List X) → Rises (sorted xs)
    rises [] = tt
    rises (x ∷ xs) = rises_sunk x (sorted xs) (rises xs)

    pub is_sorted : (xs : List X) → IsSortedBy lt (sorted xs)
    is_sorted xs = sorted_of (sorted xs) (rises xs)

    not_less : (x y : X) (a b : Bool) → lt x y ≡ a → lt y x ≡ b → not a && not b ≡ true → (lt x y ≡ false) × (lt y x ≡ false)
    not_less x y true b p q h = absurd (true≢false (sym h))
    not_less x y false true p q h = absurd (true≢false (sym h))
    not_less x y false false p q h = (p, q)

    -- what ties with both of two makes them tie
    no_third : (x y z : X) → lt y x ≡ true → ties lt z x ≡ true → ties lt z y ≡ true → ⊥
    no_third x y z less p q = true≢false (sym less ∙ o.chain y z x (not_less z y _ _ refl refl q).1 (not_less z x _ _ refl refl p).0)

    one_kept : (x y : X) (l : List X) (a b : Bool) → (a ≡ true → b ≡ true → ⊥) → cond b (y ∷ cond a (x ∷ l) l) (cond a (x ∷ l) l) ≡ cond a (x ∷ cond b (y ∷ l) l) (cond b (y ∷ l) l)
    one_kept x y l true true h = absurd (h refl refl)
    one_kept x y l true false h = refl
    one_kept x y l false true h = refl
    one_kept x y l false false h = refl

    stable_sunk : (x : X) (ys : List X) → IsStableBy lt (x ∷ ys) (sink x ys)
    stable_sunk x [] z = refl
    stable_sunk x (y ∷ ys) z = by (lt y x) refl (stable_sunk x ys z)
      where
        by : (b : Bool) → lt y x ≡ b → filter (ties lt z) (sink x ys) ≡ filter (ties lt z) (x ∷ ys)
            → filter (ties lt z) (cond b (y ∷ sink x ys) (x ∷ y ∷ ys)) ≡ filter (ties lt z) (x ∷ y ∷ ys)
        by true is rest =
            ap (λ l. cond (ties lt z y) (y ∷ l) l) rest ∙ one_kept x y (filter (ties lt z) ys) (ties lt z x) (ties lt z y) (no_third x y z is)
        by false is rest = refl

    pub is_stable : (xs : List X) → IsStableBy lt xs (sorted xs)
    is_stable [] z = refl
    is_stable (x ∷ xs) z = stable_sunk x (sorted xs) z ∙ ap (λ l. cond (ties lt z x) (x ∷ l) l) (is_stable xs z)
