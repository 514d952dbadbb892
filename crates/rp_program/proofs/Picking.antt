-- Sets of variables, and what is left of them when one is picked.
use Rattle.std.proofs.Common.{◌≡◌, ℕ, zero, suc, ◌+◌, ◌-◌, ◌<◌, ◌≤◌, List, [], ◌∷◌, ◌++◌, map, length, drop, get_or, Bool, true, false, cond, refl, sym, ap, ◌∙◌, arith, subst}
use Rattle.std.specs.Prelude.{nat_le, ⊤}
use Rattle.std.specs.List.{flat_map, AllByRecursion}
use Rattle.std.proofs.lemmas.List.{get_or-drop, length-drop}
use Rattle.std.proofs.lemmas.Bool.Decides.{nat_tests}
use Rattle.rp_words.specs.Words.{picks, led, arrangements, orders}
use Rattle.rp_words.proofs.Lists.{All-append, All-map}
use Rattle.rp_program.specs.Sets.{sets, in_set, ways}

-- ---- how many sets there are

pub sets_positive : (k : ℕ) → 0 < sets k
sets_positive zero = omega arith
sets_positive (suc k) = let h = sets_positive k in omega (arith, h)

sets-le : (m d : ℕ) → sets m ≤ sets (m + d)
sets-le m zero = let e : m + 0 ≡ m = omega arith in omega (arith, ap sets e)
sets-le m (suc d) = let a = sets-le m d in let e : m + suc d ≡ suc (m + d) = omega arith in omega (arith, a, ap sets e)

pub sets_small : (k : ℕ) → k ≤ 8 → sets k ≤ 256
sets_small k h = let e : k + (8 - k) ≡ 8 = omega arith in subst (λ z. sets k ≤ sets z) e (sets-le k (8 - k))

-- ---- with the first variable, and without it

chosen : {A : Type 0} (h m : ℕ) (x y : A) (b : Bool) → h ≤ m → nat_le h m ≡ b → cond b x y ≡ x
chosen h m x y true le k = refl
chosen h m x y false le k = absurd (grind (arith, nat_tests))

passed_by : {A : Type 0} (h m : ℕ) (x y : A) (b : Bool) → m < h → nat_le h m ≡ b → cond b x y ≡ y
passed_by h m x y true lt k = absurd (grind (arith, nat_tests))
passed_by h m x y false lt k = refl

module _ (v : ℕ) (vs : List ℕ) where
  pub set_with : (m : ℕ) → sets (length vs) ≤ m → in_set (v ∷ vs) m ≡ v ∷ in_set vs (m - sets (length vs))
  set_with m h = chosen (sets (length vs)) m (v ∷ in_set vs (m - sets (length vs))) (in_set vs m) (nat_le (sets (length vs)) m) h refl

  pub set_without : (m : ℕ) → m < sets (length vs) → in_set (v ∷ vs) m ≡ in_set vs m
  set_without m h = passed_by (sets (length vs)) m (v ∷ in_set vs (m - sets (length vs))) (in_set vs m) (nat_le (sets (length vs)) m) h refl

  pub ways_with : (table : List ℕ) → sets (length vs) ≤ length table → ways (v ∷ vs) table ≡ (v, get_or table (length table - sets (length vs)) 0) ∷ ways vs (drop (sets (length vs)) table)
  ways_with table h =
      chosen (sets (length vs)) (length table) ((v, get_or table (length table - sets (length vs)) 0) ∷ ways vs (drop (sets (length vs)) table)) (ways vs table) (nat_le (sets (length vs)) (length table)) h refl

  pub ways_without : (table : List ℕ) → length table < sets (length vs) → ways (v ∷ vs) table ≡ ways vs table
  ways_without table h =
      passed_by (sets (length vs)) (length table) ((v, get_or table (length table - sets (length vs)) 0) ∷ ways vs (drop (sets (length vs)) table)) (ways vs table) (nat_le (sets (length vs)) (length table)) h refl

-- no variable is in set 0, and all are in the last one
pub empty_set : (vs : List ℕ) → in_set vs 0 ≡ []
empty_set [] = refl
empty_set (v ∷ vs) = set_without v vs 0 (sets_positive (length vs)) ∙ empty_set vs

pub whole_set : (vs : List ℕ) (m : ℕ) → suc m ≡ sets (length vs) → in_set vs m ≡ vs
whole_set [] m is = refl
whole_set (v ∷ vs) m is =
    let some = sets_positive (length vs) in
    set_with v vs m (omega (arith, is, some)) ∙ ap (λ z. v ∷ z) (whole_set vs (m - sets (length vs)) (omega (arith, is, some)))

-- ---- the ways of a set are its picks

-- each way leads to where the set without its variable stands
abbrev pub Picked : (ℕ → List ℕ → Type 0) → List (ℕ × ℕ) → List (ℕ × List ℕ) → Type 0
Picked S [] [] = ⊤
Picked S [] (p ∷ ps) = ⊥
Picked S (w ∷ ws) [] = ⊥
Picked S (w ∷ ws) (p ∷ ps) = ((w.0 ≡ p.0) × S w.1 p.1) × Picked S ws ps

pub picked_long : (S : ℕ → List ℕ → Type 0) (ws : List (ℕ × ℕ)) (ps : List (ℕ × List ℕ)) → Picked S ws ps → length ws ≡ length ps
picked_long S [] [] h = refl
picked_long S [] (p ∷ ps) h = absurd h
picked_long S (w ∷ ws) [] h = absurd h
picked_long S (w ∷ ws) (p ∷ ps) h = ap suc (picked_long S ws ps h.1)

picked-map : (S : ℕ → List ℕ → Type 0) (v : ℕ) (ws : List (ℕ × ℕ)) (ps : List (ℕ × List ℕ)) → Picked (λ q ys. S q (v ∷ ys)) ws ps → Picked S ws (map (λ p. (p.0, v ∷ p.1)) ps)
picked-map S v [] [] h = tt
picked-map S v [] (p ∷ ps) h = h
picked-map S v (w ∷ ws) [] h = h
picked-map S v (w ∷ ws) (p ∷ ps) h = (h.0, picked-map S v ws ps h.1)

module _ (S : ℕ → List ℕ → Type 0) (v : ℕ) (vs table : List ℕ) (h : (j : ℕ) → j < length table → S (get_or table j 0) (in_set (v ∷ vs) j))
    (each : (T : ℕ → List ℕ → Type 0) (t : List ℕ) → length t < sets (length vs) → ((j : ℕ) → j < length t → T (get_or t j 0) (in_set vs j)) → Picked T (ways vs t) (picks (in_set vs (length t)))) where
  abbrev half : ℕ
  half = sets (length vs)

  abbrev rest : ℕ
  rest = length table - half

  pick_with : half ≤ length table → length table < half + half → Picked S (ways (v ∷ vs) table) (picks (in_set (v ∷ vs) (length table)))
  pick_with le lt =
      let long : length (drop half table) ≡ rest = length-drop half table in
      let T : ℕ → List ℕ → Type 0 = λ q ys. S q (v ∷ ys) in
      let stands : (j : ℕ) → j < length (drop half table) → S (get_or (drop half table) j 0) (v ∷ in_set vs j) = λ j less.
      let set : in_set (v ∷ vs) (half + j) ≡ v ∷ in_set vs j = set_with v vs (half + j) (omega arith) ∙ ap (λ z. v ∷ in_set vs z) (omega arith) in
      subst (λ z. S z (v ∷ in_set vs j)) (sym (get_or-drop half table j 0)) (subst (S (get_or table (half + j) 0)) set (h (half + j) (omega (arith, less, long)))) in
      let later : Picked T (ways vs (drop half table)) (picks (in_set vs (length (drop half table)))) = each T (drop half table) (omega (arith, long, lt, le)) stands in
      let first : S (get_or table rest 0) (in_set vs rest) = subst (S (get_or table rest 0)) (set_without v vs rest (omega (arith, lt, le))) (h rest (omega (arith, le, sets_positive (length vs)))) in
      let others : Picked S (ways vs (drop half table)) (map (λ p. (p.0, v ∷ p.1)) (picks (in_set vs rest))) =
      picked-map S v (ways vs (drop half table)) (picks (in_set vs rest)) (subst (λ k. Picked T (ways vs (drop half table)) (picks (in_set vs k))) long later) in
      subst (λ z. Picked S z (picks (in_set (v ∷ vs) (length table)))) (sym (ways_with v vs table le))
      (subst (λ z. Picked S ((v, get_or table rest 0) ∷ ways vs (drop half table)) (picks z)) (sym (set_with v vs (length table) le)) ((refl, first), others))

  pick_without : length table < half → Picked S (ways (v ∷ vs) table) (picks (in_set (v ∷ vs) (length table)))
  pick_without lt =
      let same : Picked S (ways vs table) (picks (in_set vs (length table))) = each S table lt (λ j less. subst (S (get_or table j 0)) (set_without v vs j (omega (arith, less, lt))) (h j less)) in
      subst (λ z. Picked S z (picks (in_set (v ∷ vs) (length table)))) (sym (ways_without v vs table lt))
      (subst (λ z. Picked S (ways vs table) (picks z)) (sym (set_without v vs (length table) lt)) same)

  pick_either : length table < half + half → Picked S (ways (v ∷ vs) table) (picks (in_set (v ∷ vs) (length table)))
  pick_either lt = go (nat_le half (length table)) refl
    where
      go : (b : Bool) → nat_le half (length table) ≡ b → Picked S (ways (v ∷ vs) table) (picks (in_set (v ∷ vs) (length table)))
      go true is = pick_with (grind (arith, nat_tests)) lt
      go false is = pick_without (grind (arith, nat_tests))

-- where a table has what each earlier set stands for, the ways are the picks of the next set
pub ways_pick : (S : ℕ → List ℕ → Type 0) (vs table : List ℕ) → length table < sets (length vs) → ((j : ℕ) → j < length table → S (get_or table j 0) (in_set vs j)) → Picked S (ways vs table) (picks (in_set vs (length table)))
ways_pick S [] table lt h = tt
ways_pick S (v ∷ vs) table lt h = pick_either S v vs table h (λ T t a b. ways_pick T vs t a b) lt

-- ---- the orders of a list by what is picked first

picks_shorter : {A : Type 0} (xs : List A) → AllByRecursion (λ p. suc (length p.1) ≡ length xs) (picks xs)
picks_shorter [] = tt
picks_shorter (x ∷ xs) = (refl, All-map (λ p. suc (length p.1) ≡ length xs) (λ p. suc (length p.1) ≡ suc (length xs)) (λ p. (p.0, x ∷ p.1)) (λ p h. ap suc h) (picks xs) (picks_shorter xs))

led_orders : {A : Type 0} (k : ℕ) (ps : List (A × List A)) → AllByRecursion (λ p. suc (length p.1) ≡ suc k) ps → flat_map (led (arrangements k)) ps ≡ flat_map (led orders) ps
led_orders k [] a = refl
led_orders k (p ∷ ps) a =
    let here : k ≡ length p.1 = omega (arith, a.0) in
    ap (λ z. map (λ o. p.0 ∷ o) (arrangements z p.1) ++ flat_map (led (arrangements k)) ps) here ∙ ap (λ z. led orders p ++ z) (led_orders k ps a.1)

pub orders_led : {A : Type 0} (y : A) (ys : List A) → orders (y ∷ ys) ≡ flat_map (led orders) (picks (y ∷ ys))
orders_led y ys = led_orders (length ys) (picks (y ∷ ys)) (picks_shorter (y ∷ ys))

-- it has a first element
abbrev pub Begins : {A : Type 0} → List A → Type 0
Begins [] = ⊥
Begins (x ∷ xs) = ⊤

led_begin : {A : Type 0} (x : A) (os : List (List A)) → AllByRecursion Begins (map (λ o. x ∷ o) os)
led_begin x [] = tt
led_begin x (o ∷ os) = (tt, led_begin x os)

picks_begin : {A : Type 0} (ps : List (A × List A)) → AllByRecursion Begins (flat_map (led orders) ps)
picks_begin [] = tt
picks_begin (p ∷ ps) = All-append Begins (led orders p) (flat_map (led orders) ps) (led_begin p.0 (orders p.1)) (picks_begin ps)

-- the orders of some elements begin with one
pub orders_begin : {A : Type 0} (y : A) (ys : List A) → AllByRecursion Begins (orders (y ∷ ys))
orders_begin y ys = subst (AllByRecursion Begins) (sym (orders_led y ys)) (picks_begin (picks (y ∷ ys)))
