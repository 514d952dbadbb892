-- What holds of each row holds of the rows that meet a condition, and of those of their partitions.
use Rattle.std.proofs.Common.{◌≡◌, Bool, true, false, not, ◌&&◌, cond, List, [], ◌∷◌, ◌++◌, refl, sym, subst, Some, None}
use Rattle.std.specs.Prelude.{ℕ, Option, filter}
use Rattle.std.specs.Cmp.{IsStrictWeakOrder}
use Rattle.std.specs.List.{AllByRecursion}
use Rattle.std.specs.List.Sorted.{IsStableBy, ties}
use Rattle.rp_value.specs.declared.value.Value.{Value}
use Rattle.rp_query.specs.Keys.{same_key, values_in}
use Rattle.rp_query.specs.declared.query.OrderColumn.{OrderColumn}
use Rattle.rp_numbering.specs.Numbered.{AreOrdered, AreOrderedParts}
use Rattle.rp_numbering.specs.Orders.{is_before}
use Rattle.rp_numbering.specs.Partitions.{Part, partitions}
use Rattle.rp_filter.specs.Meets.{meets}
use Rattle.rp_filter.specs.declared.filter.Filter.{Filter}
use Rattle.rp_question.specs.Asked.{kept}
use Rattle.rp_question.specs.Read.{AreRowsIn, AreRowsOfAll}
use Rattle.rp_question.specs.declared.reading.Reading.{Reading}

filtered : {X : Type 0} (P : X → Type 0) (test : X → Bool) (xs : List X) → AllByRecursion P xs → AllByRecursion P (filter test xs)
filtered P test [] h = tt
filtered P test (x ∷ xs) h = go (test x) (filtered P test xs h.1)
  where
    go : (b : Bool) → AllByRecursion P (filter test xs) → AllByRecursion P (cond b (x ∷ filter test xs) (filter test xs))
    go true later = (h.0, later)
    go false later = later

-- each that passes the test is among those that pass
passing : {X : Type 0} (P : X → Type 0) (test : X → Bool) (xs : List X) → AllByRecursion P (filter test xs) → AllByRecursion (λ x. test x ≡ true → P x) xs
passing P test [] h = tt
passing P test (x ∷ xs) h = go (test x) refl h (passing P test xs)
  where
    go : (b : Bool) → test x ≡ b → AllByRecursion P (cond b (x ∷ filter test xs) (filter test xs))
        → (AllByRecursion P (filter test xs) → AllByRecursion (λ x. test x ≡ true → P x) xs) → AllByRecursion (λ x. test x ≡ true → P x) (x ∷ xs)
    go true e k later = (λ yes. k.0, later k.1)
    go false e k later = (λ yes. absurd cc, later k)

-- what holds of each element for each of them holds of it for itself
itself : {X : Type 0} (Q : X → X → Type 0) (xs : List X) → ((x : X) → AllByRecursion (Q x) xs) → AllByRecursion (λ x. Q x x) xs
itself Q [] h = tt
itself Q (x ∷ xs) h = ((h x).0, itself Q xs (λ y. (h y).1))

same_place : {X : Type 0} (before : X → X → Bool) → IsStrictWeakOrder before → (x : X) → ties before x x ≡ true
same_place before weak x = go (before x x) refl
  where
    go : (b : Bool) → before x x ≡ b → (not b && not b) ≡ true
    go true e = let other : before x x ≡ false = weak.one_way x x e in absurd cc
    go false e = refl

ordered_keep : {X : Type 0} (P : X → Type 0) (before : X → X → Bool) → IsStrictWeakOrder before → (xs ys : List X) → IsStableBy before xs ys → AllByRecursion P xs → AllByRecursion P ys
ordered_keep {X} P before weak xs ys stable h =
    each ys (itself (λ x y. ties before x y ≡ true → P y) ys (λ x. passing P (ties before x) ys (subst (AllByRecursion P) (sym (stable x)) (filtered P (ties before x) xs h))))
  where
    each : (zs : List X) → AllByRecursion (λ x. ties before x x ≡ true → P x) zs → AllByRecursion P zs
    each [] k = tt
    each (z ∷ zs) k = (k.0 (same_place before weak z), each zs k.1)

both : {X : Type 0} (P : X → Type 0) (xs ys : List X) → AllByRecursion P xs → AllByRecursion P ys → AllByRecursion P (xs ++ ys)
both P [] ys h k = k
both P (x ∷ xs) ys h k = (h.0, both P xs ys h.1 k)

module _ (P : List Value → Type 0) where
  abbrev pub OfRows : List (List Value) → Type 0
  OfRows rows = AllByRecursion P rows

  abbrev pub OfParts : List Part → Type 0
  OfParts parts = AllByRecursion (λ part. OfRows part.1) parts

  in_partitions : (columns : List ℕ) (rows : List (List Value)) → OfRows rows → OfParts (partitions columns rows)
  in_partitions columns [] h = tt
  in_partitions columns (row ∷ rows) h =
      let key = values_in columns row in (
        (h.0, filtered P (λ row. same_key key (values_in columns row)) rows h.1),
        filtered (λ (part : Part). OfRows part.1) (λ part. not (same_key key part.0)) (partitions columns rows) (in_partitions columns rows h.1),
      )

  in_order : (order : List OrderColumn) → IsStrictWeakOrder (is_before order) → (parts ordered : List Part) → AreOrdered order parts ordered → OfParts parts → OfParts ordered
  in_order order weak [] [] h all = tt
  in_order order weak [] (o ∷ os) h all = absurd h
  in_order order weak (part ∷ parts) [] h all = absurd h
  in_order order weak (part ∷ parts) (o ∷ os) h all =
      (ordered_keep P (is_before order) weak part.1 o.1 h.1.1 all.0, in_order order weak parts os h.2 all.1)

  pub of_parts : ((order : List OrderColumn) → IsStrictWeakOrder (is_before order)) → (columns : List ℕ) (order : List OrderColumn) (rows : List (List Value)) (parts : List Part)
      → AreOrderedParts columns order rows parts → OfRows rows → OfParts parts
  of_parts weak columns order rows parts ordered all = in_order order (weak order) (partitions columns rows) parts ordered (in_partitions columns rows all)

  pub of_kept : (filter : Option Filter) (rows : List (List Value)) → OfRows rows → OfRows (kept filter rows)
  of_kept None rows all = all
  of_kept (Some f) rows all = filtered P (meets f.query) rows all

  pub of_inputs : (r : Reading) → ((text : List ℕ) (rows : List (List Value)) → AreRowsIn r text rows → OfRows rows) → (texts : List (List ℕ)) (rows : List (List Value)) → AreRowsOfAll r texts rows → OfRows rows
  of_inputs r each [] rows h = subst OfRows (sym h) tt
  of_inputs r each (text ∷ texts) rows h = subst OfRows (sym h.4) (both P h.0 h.1 (each text h.0 h.2) (of_inputs r each texts h.1 h.3))
