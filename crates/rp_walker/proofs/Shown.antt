-- The items of a leg, by the rows at which they are shown.
use Rattle.std.proofs.Common.{◌≡◌, ℕ, suc, ◌≤◌, List, [], ◌∷◌, ◌++◌, length, map, Option, Some, None, refl, sym, ap, ◌∙◌, subst, arith}
use Rattle.std.specs.Prelude.{slice_get}
use Rattle.rp_query.specs.declared.item.Item.{Item}
use Rattle.rp_known.specs.declared.place.Place.{Place}
use Rattle.rp_known.specs.Walk.{Leg, Goes, Pauses, Ends, after_item, after_items, leg_items}
use Rattle.rp_walker.specs.Steps.{IsStop, IsEnd}

item_counted : (x : Item) (t : Leg) → leg_items (after_item x t) ≡ x ∷ leg_items t
item_counted x (Goes xs next) = refl
item_counted x (Pauses xs) = refl
item_counted x (Ends xs) = refl

-- the item of the row after so many that were passed
pub record IsHere (t : Leg) (k : ℕ) (x : Item) : Type 0 where
  pub more : suc k ≤ length (leg_items t)
  pub at : slice_get (leg_items t) k ≡ Some x

module _ (f : ℕ → Option Item) (t : Leg) where
  item_front : (rest : List ℕ) (row : ℕ) (x : Item) → f row ≡ Some x → IsHere (after_items (map f (row ∷ rest)) t) 0 x
  item_front rest row x e =
      subst (λ o. IsHere (after_items (o ∷ map f rest) t) 0 x) (sym e)
      (record {
        more = subst (λ xs. 1 ≤ length xs) (sym (item_counted x (after_items (map f rest) t))) (omega arith);
        at = ap (λ xs. slice_get xs 0) (item_counted x (after_items (map f rest) t));
      })

  item_behind : (y x : Item) (later : Leg) (k : ℕ) → IsHere later k x → IsHere (after_item y later) (suc k) x
  item_behind y x later k h =
      record {
        more = subst (λ xs. suc (suc k) ≤ length xs) (sym (item_counted y later)) (omega (arith, h.more));
        at = ap (λ xs. slice_get xs (suc k)) (item_counted y later) ∙ h.at;
      }

  -- where the row's item is ready, it is the next one
  pub item_here : (passed rest : List ℕ) (row : ℕ) (x : Item) → f row ≡ Some x → length passed ≤ length (leg_items (after_items (map f (passed ++ row ∷ rest)) t)) →
      IsHere (after_items (map f (passed ++ row ∷ rest)) t) (length passed) x
  item_here [] rest row x e h = item_front rest row x e
  item_here (r ∷ rs) rest row x e h = go (f r) h (λ k. item_here rs rest row x e k)
    where
      later : Leg
      later = after_items (map f (rs ++ row ∷ rest)) t

      go : (o : Option Item) → suc (length rs) ≤ length (leg_items (after_items (o ∷ map f (rs ++ row ∷ rest)) t)) → (length rs ≤ length (leg_items later) → IsHere later (length rs) x) → IsHere (after_items (o ∷ map f (rs ++ row ∷ rest)) t) (suc (length rs)) x
      go None k ih = absurd (omega (arith, k))
      go (Some y) k ih =
          let m : suc (length rs) ≤ length (y ∷ leg_items later) = subst (λ xs. suc (length rs) ≤ length xs) (item_counted y later) k in
          item_behind y x later (length rs) (ih (omega (arith, m)))

  -- a leg that stops after so many items
  pub record StopsAt (u : Leg) (k : ℕ) : Type 0 where
    pub stops : IsStop u
    pub all : k ≡ length (leg_items u)
    pub pauses : IsEnd u → ⊥

  stop_behind : (y : Item) (u : Leg) (k : ℕ) → StopsAt u k → StopsAt (after_item y u) (suc k)
  stop_behind y (Goes xs next) k h = absurd h.stops
  stop_behind y (Pauses xs) k h = record { stops = tt; all = ap suc h.all; pauses = λ e. e }
  stop_behind y (Ends xs) k h = absurd (h.pauses tt)

  -- where it isn't ready, the leg stops there
  pub none_here : (passed rest : List ℕ) (row : ℕ) → f row ≡ None → length passed ≤ length (leg_items (after_items (map f (passed ++ row ∷ rest)) t)) →
      StopsAt (after_items (map f (passed ++ row ∷ rest)) t) (length passed)
  none_here [] rest row e h = subst (λ o. StopsAt (after_items (o ∷ map f rest) t) 0) (sym e) (record { stops = tt; all = refl; pauses = λ e. e })
  none_here (r ∷ rs) rest row e h = go (f r) h (λ k. none_here rs rest row e k)
    where
      later : Leg
      later = after_items (map f (rs ++ row ∷ rest)) t

      go : (o : Option Item) → suc (length rs) ≤ length (leg_items (after_items (o ∷ map f (rs ++ row ∷ rest)) t)) → (length rs ≤ length (leg_items later) → StopsAt later (length rs)) → StopsAt (after_items (o ∷ map f (rs ++ row ∷ rest)) t) (suc (length rs))
      go None k ih = absurd (omega (arith, k))
      go (Some y) k ih =
          let m : suc (length rs) ≤ length (y ∷ leg_items later) = subst (λ xs. suc (length rs) ≤ length xs) (item_counted y later) k in
          stop_behind y later (length rs) (ih (omega (arith, m)))

  -- These items, and then what the other leg gives.
  pub record Adds (u : Leg) (k : ℕ) : Type 0 where
    pub items : List Item
    pub many : length items ≡ k
    pub goes : (next : Place) → t ≡ Goes [] next → u ≡ Goes items next
    pub ends : (x : Item) → t ≡ Ends (x ∷ []) → u ≡ Ends (items ++ x ∷ [])

  add_behind : (y : Item) (u : Leg) (k : ℕ) → Adds u k → Adds (after_item y u) (suc k)
  add_behind y u k h =
      record {
        items = y ∷ h.items;
        many = ap suc h.many;
        goes = λ next e. ap (after_item y) (h.goes next e);
        ends = λ x e. ap (after_item y) (h.ends x e);
      }

  -- all rows were passed
  pub all_here : (passed : List ℕ) → length passed ≤ length (leg_items (after_items (map f passed) t)) → Adds (after_items (map f passed) t) (length passed)
  all_here [] h = record { items = []; many = refl; goes = λ next e. e; ends = λ x e. e }
  all_here (r ∷ rs) h = go (f r) h (λ k. all_here rs k)
    where
      later : Leg
      later = after_items (map f rs) t

      go : (o : Option Item) → suc (length rs) ≤ length (leg_items (after_items (o ∷ map f rs) t)) → (length rs ≤ length (leg_items later) → Adds later (length rs)) → Adds (after_items (o ∷ map f rs) t) (suc (length rs))
      go None k ih = absurd (omega (arith, k))
      go (Some y) k ih =
          let m : suc (length rs) ≤ length (y ∷ leg_items later) = subst (λ xs. suc (length rs) ≤ length xs) (item_counted y later) k in
          add_behind y later (length rs) (ih (omega (arith, m)))
