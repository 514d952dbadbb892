-- The front of what was taken, and what is known of it.
use Rattle.std.proofs.Common.{◌≡◌, ℕ, zero, suc, ◌≤◌, Bool, true, false, cond, ◌&&◌, ◌||◌, List, length, take, drop, refl, sym, subst, arith, eqb}
use Rattle.std.proofs.lemmas.Bool.Decides.{nat_tests}
use Rattle.rp_words.specs.declared.word.End.{End}
use Rattle.rp_words.specs.declared.word.End.TheVariants.{Open, Closed}
use Rattle.rp_schedules.specs.Schedules.{IsPrefixOf, KnownAnswer, Grows, Standing, with_number, reach, front, known_of, HoldsAll}
use Rattle.rp_schedules.proofs.Prefixes.{prefix_itself, take_whole, take_longer}

pub reach_within : (t : ℕ → Bool) (n : ℕ) → reach t n ≤ n
reach_within t zero = omega arith
reach_within t (suc n) = go (eqb (reach t n) n && t (suc n)) (reach_within t n)
  where
    go : (b : Bool) → reach t n ≤ n → cond b (suc n) (reach t n) ≤ suc n
    go true h = omega arith
    go false h = omega arith

-- all numbers up to there are taken
pub reach_taken : (t : ℕ → Bool) (n k : ℕ) → 1 ≤ k → k ≤ reach t n → t k ≡ true
reach_taken t zero k l h = absurd (omega arith)
reach_taken t (suc n) k l h = go (eqb (reach t n) n) (t (suc n)) refl refl h (reach_taken t n)
  where
    go : (a b : Bool) → eqb (reach t n) n ≡ a → t (suc n) ≡ b → k ≤ cond (a && b) (suc n) (reach t n) → ((j : ℕ) → 1 ≤ j → j ≤ reach t n → t j ≡ true) → t k ≡ true
    go true true e i m ih = here (eqb k (suc n)) refl
      where
        here : (c : Bool) → eqb k (suc n) ≡ c → t k ≡ true
        here true u = let v : k ≡ suc n = grind (arith, nat_tests) in subst (λ z. t z ≡ true) (sym v) i
        here false u = ih k l (grind (arith, nat_tests))
    go true false e i m ih = ih k l m
    go false b e i m ih = ih k l m

-- and it is the greatest such number
pub reach_most : (t : ℕ → Bool) (n f : ℕ) → f ≤ n → ((k : ℕ) → 1 ≤ k → k ≤ f → t k ≡ true) → f ≤ reach t n
reach_most t zero f h all = omega arith
reach_most t (suc n) f h all = go (eqb f (suc n)) refl (reach_most t n)
  where
    go : (c : Bool) → eqb f (suc n) ≡ c → ((g : ℕ) → g ≤ n → ((k : ℕ) → 1 ≤ k → k ≤ g → t k ≡ true) → g ≤ reach t n) → f ≤ reach t (suc n)
    go true u ih =
        let v : f ≡ suc n = grind (arith, nat_tests) in
        let below : n ≤ reach t n = ih n (omega arith) (λ k l m. all k l (omega arith)) in
        let top : t (suc n) ≡ true = all (suc n) (omega arith) (omega arith) in
        let w = reach_within t n in
        let i : eqb (reach t n) n ≡ true = grind (arith, nat_tests) in
        rw (i, top) (omega arith)
    go false u ih =
        let below : f ≤ reach t n = ih f (grind (arith, nat_tests)) all in
        step (eqb (reach t n) n && t (suc n)) below
      where
        step : (b : Bool) → f ≤ reach t n → f ≤ cond b (suc n) (reach t n)
        step true h' = let w = reach_within t n in omega arith
        step false h' = h'

pub reach_grows : (t u : ℕ → Bool) (n : ℕ) → ((k : ℕ) → t k ≡ true → u k ≡ true) → reach t n ≤ reach u n
reach_grows t u n more = reach_most u n (reach t n) (reach_within t n) (λ k l h. more k (reach_taken t n k l h))

pub number_added : (k : ℕ) (t : ℕ → Bool) (n : ℕ) → t n ≡ true → with_number k t n ≡ true
number_added k t n h = go (eqb n k)
  where
    go : (b : Bool) → b || t n ≡ true
    go true = refl
    go false = h

module _ {Row Item : Type 0} (known : KnownAnswer Row Item) (whole : List Row) (grows : Grows known) where
  abbrev known_at : ℕ → Bool → List Item
  known_at f closed = known (take f whole) (cond (closed && eqb f (length whole)) Closed Open)

  -- with the rows up to a greater number, and perhaps closed
  at_grows : (f g : ℕ) (c d : Bool) → f ≤ g → g ≤ length whole → (c ≡ true → d ≡ true) → IsPrefixOf (known_at f c) (known_at g d)
  at_grows f g c d h l more = go (c && eqb f (length whole)) refl
    where
      open_at : (b : End) → IsPrefixOf (known (take f whole) Open) (known (take g whole) b)
      open_at b = subst (λ (z : List Row). IsPrefixOf (known (take f whole) Open) (known z b)) (take_longer f g whole h) (grows (take f whole) (drop f (take g whole)) b)

      go : (b : Bool) → c && eqb f (length whole) ≡ b → IsPrefixOf (known (take f whole) (cond b Closed Open)) (known (take g whole) (cond (d && eqb g (length whole)) Closed Open))
      go false e = open_at (cond (d && eqb g (length whole)) Closed Open)
      go true e = both c (eqb f (length whole)) refl refl e
        where
          both : (x y : Bool) → c ≡ x → eqb f (length whole) ≡ y → x && y ≡ true → IsPrefixOf (known (take f whole) Closed) (known (take g whole) (cond (d && eqb g (length whole)) Closed Open))
          both true true i j k =
              let full : f ≡ length whole = grind (arith, nat_tests) in
              let same : g ≡ f = omega arith in
              let test : eqb g (length whole) ≡ true = grind (arith, nat_tests) in
              let shut : d ≡ true = more i in
              rw (shut, test, same) (prefix_itself (known (take f whole) Closed))
          both true false i j k = absurd (cc)
          both false y i j k = absurd (cc)

  pub known_grows : (s t : Standing) → ((k : ℕ) → s.taken k ≡ true → t.taken k ≡ true) → (s.closed ≡ true → t.closed ≡ true) → IsPrefixOf (known_of known whole s) (known_of known whole t)
  known_grows s t more shut = at_grows (front whole s) (front whole t) s.closed t.closed (reach_grows s.taken t.taken (length whole) more) (reach_within t.taken (length whole)) shut

  pub known_within : (s : Standing) → IsPrefixOf (known_of known whole s) (known whole Closed)
  known_within s =
      let test : eqb (length whole) (length whole) ≡ true = grind (arith, nat_tests) in
      let p : IsPrefixOf (known_of known whole s) (known_at (length whole) true) = at_grows (front whole s) (length whole) s.closed true (reach_within s.taken (length whole)) (omega arith) (λ _. refl) in
      subst (λ (z : List Item). IsPrefixOf (known_of known whole s) z) (whole_is test) p
    where
      whole_is : eqb (length whole) (length whole) ≡ true → known_at (length whole) true ≡ known whole Closed
      whole_is test = rw (test, take_whole (length whole) whole refl) refl

  pub known_whole : (s : Standing) → HoldsAll whole s → known_of known whole s ≡ known whole Closed
  known_whole s h =
      let w = reach_within s.taken (length whole) in
      let m : length whole ≤ front whole s = reach_most s.taken (length whole) (length whole) (omega arith) h.rows in
      let f : front whole s ≡ length whole = omega arith in
      let test : eqb (length whole) (length whole) ≡ true = grind (arith, nat_tests) in
      rw (h.close, f, test, take_whole (length whole) whole refl) refl
