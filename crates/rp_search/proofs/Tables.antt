-- What a table has.
use Rattle.std.proofs.Common.{◌≡◌, ◌≢◌, ℕ, ◌+◌, ◌*◌, ◌/◌, ◌%◌, Option, None, length, sym, zero, suc, ◌<◌, ◌≤◌, Bool, true, false, cond, nat_eq, replicate, List, [], ◌∷◌, ◌++◌, set, slice_get, Some, ◌⊎◌, inl, inr, refl, ap, ◌∙◌, subst, arith}
use Rattle.std.proofs.Math.Nat.{add-mul-mod_self_right, mod-add-div', mul_assoc, mul_comm}
use Rattle.std.proofs.lemmas.Bool.Decides.{eqb_tells}
use Rattle.rp_search.specs.declared.table.Failure.{Failure}
use Rattle.rp_search.specs.declared.table.Rows.{Rows}
use Rattle.rp_search.specs.Table.{until_at, until_row, until_in, IsFreeFor, RowsKeepFrom}

-- a place without rows
pub until_pushed : (xs : List Rows) (x : Rows) (q r : ℕ) → ((r : ℕ) → until_row x r ≡ 0) → until_in (slice_get (xs ++ x ∷ []) q) r ≡ until_in (slice_get xs q) r
until_pushed [] x zero r none = none r
until_pushed [] x (suc q) r none = refl
until_pushed (y ∷ xs) x zero r none = refl
until_pushed (y ∷ xs) x (suc q) r none = until_pushed xs x q r none

-- a place whose rows are others
pub until_set : (xs : List Rows) (x y : Rows) (place row until q r : ℕ) → slice_get xs place ≡ Some x → ((r : ℕ) → 0 < until_row y r → (until_row y r ≡ until_row x r) ⊎ ((r ≡ row) × (until_row y r ≡ until))) →
    0 < until_in (slice_get (set xs place y) q) r → (until_in (slice_get (set xs place y) q) r ≡ until_in (slice_get xs q) r) ⊎ ((q ≡ place) × (r ≡ row) × (until_in (slice_get (set xs place y) q) r ≡ until))
until_set [] x y place row until q r at adds h = absurd cc
until_set (z ∷ xs) x y zero row until zero r at adds h = go (adds r h)
  where
    same : x ≡ z
    same = cc

    go : (until_row y r ≡ until_row x r) ⊎ ((r ≡ row) × (until_row y r ≡ until)) → (until_row y r ≡ until_row z r) ⊎ ((zero ≡ zero) × (r ≡ row) × (until_row y r ≡ until))
    go (inl k) = inl (k ∙ ap (λ rows. until_row rows r) same)
    go (inr k) = inr (refl, k.0, k.1)
until_set (z ∷ xs) x y zero row until (suc q) r at adds h = inl refl
until_set (z ∷ xs) x y (suc place) row until zero r at adds h = inl refl
until_set (z ∷ xs) x y (suc place) row until (suc q) r at adds h = go (until_set xs x y place row until q r at adds h)
  where
    go : (until_in (slice_get (set xs place y) q) r ≡ until_in (slice_get xs q) r) ⊎ ((q ≡ place) × (r ≡ row) × (until_in (slice_get (set xs place y) q) r ≡ until)) →
        (until_in (slice_get (set xs place y) q) r ≡ until_in (slice_get xs q) r) ⊎ ((suc q ≡ suc place) × (r ≡ row) × (until_in (slice_get (set xs place y) q) r ≡ until))
    go (inl k) = inl k
    go (inr k) = inr (ap suc k.0, k.1, k.2)

-- What a place's rows keep from a start row on, the places keep where those rows are set.
pub kept_at : (xs : List Rows) (x y : Rows) (place row from q r : ℕ) → slice_get xs place ≡ Some x → RowsKeepFrom from row x y → from ≤ r → from < until_in (slice_get xs q) r →
    (until_in (slice_get (set xs place y) q) r ≡ until_in (slice_get xs q) r) ⊎ ((q ≡ place) × (r ≡ row))
kept_at [] x y place row from q r at keeps low high = absurd cc
kept_at (z ∷ xs) x y zero row from zero r at keeps low high = go (keeps r low (subst (λ rows. from < until_row rows r) (sym same) high))
  where
    same : x ≡ z
    same = cc

    go : (until_row y r ≡ until_row x r) ⊎ (r ≡ row) → (until_row y r ≡ until_row z r) ⊎ ((zero ≡ zero) × (r ≡ row))
    go (inl k) = inl (k ∙ ap (λ rows. until_row rows r) same)
    go (inr k) = inr (refl, k)
kept_at (z ∷ xs) x y zero row from (suc q) r at keeps low high = inl refl
kept_at (z ∷ xs) x y (suc place) row from zero r at keeps low high = inl refl
kept_at (z ∷ xs) x y (suc place) row from (suc q) r at keeps low high = go (kept_at xs x y place row from q r at keeps low high)
  where
    go : (until_in (slice_get (set xs place y) q) r ≡ until_in (slice_get xs q) r) ⊎ ((q ≡ place) × (r ≡ row)) →
        (until_in (slice_get (set xs place y) q) r ≡ until_in (slice_get xs q) r) ⊎ ((suc q ≡ suc place) × (r ≡ row))
    go (inl k) = inl k
    go (inr k) = inr (ap suc k.0, k.1)

-- a slot that has nothing
abbrev pub nothing : Failure
nothing = record { row = 0; until = 0 }

either_nothing : (b : Bool) → ◌≡◌ {A = ℕ} (cond b 0 0) 0
either_nothing true = refl
either_nothing false = refl

-- slots that have nothing
pub nothing_at : (n i row : ℕ) → ◌≡◌ {A = ℕ} (until_at (slice_get (replicate n nothing) i) row) 0
nothing_at zero i row = refl
nothing_at (suc n) zero row = either_nothing (nat_eq 0 row)
nothing_at (suc n) (suc i) row = nothing_at n i row

-- ---- slots by rows

-- Among twice as many slots rows of one slot are of one slot among these.
pub same_slot : (n a b : ℕ) → a % (n * 2) ≡ b % (n * 2) → a % n ≡ b % n
same_slot n a b e = sym (halved a) ∙ ap (λ x. x % n) e ∙ halved b
  where
    parts : (x : ℕ) → x % (n * 2) + x / (n * 2) * 2 * n ≡ x
    parts x = ap (λ y. x % (n * 2) + y) (mul_assoc (x / (n * 2)) 2 n ∙ ap (λ y. x / (n * 2) * y) (mul_comm 2 n)) ∙ mod-add-div' x (n * 2)

    halved : (x : ℕ) → x % (n * 2) % n ≡ x % n
    halved x = sym (add-mul-mod_self_right (x % (n * 2)) (x / (n * 2) * 2) n) ∙ ap (λ y. y % n) (parts x)

abbrev row_of : Option Failure → ℕ
row_of None = 0
row_of (Some f) = f.row

-- what a slot has is of its own row
pub is_of_row : (o : Option Failure) (r : ℕ) → 0 < until_at o r → (f : Failure) → o ≡ Some f → f.row ≡ r
is_of_row None r some f is = absurd (omega (arith, some))
is_of_row (Some g) r some f is = go (eqb_tells g.row r)
  where
    go : ((nat_eq g.row r ≡ true) × (g.row ≡ r)) ⊎ ((nat_eq g.row r ≡ false) × (g.row ≢ r)) → f.row ≡ r
    go (inl k) = ap row_of (sym is) ∙ k.1
    go (inr k) = absurd (let none : cond (nat_eq g.row r) g.until 0 ≡ 0 = ap (λ b. cond b g.until 0) k.0 in omega (arith, none, some))

-- Two rows that a slot has something for are one.
pub one_row : (o : Option Failure) (a b : ℕ) → 0 < until_at o a → 0 < until_at o b → a ≡ b
one_row None a b some other = absurd (omega (arith, some))
one_row (Some f) a b some other = sym (is_of_row (Some f) a some f refl) ∙ is_of_row (Some f) b other f refl

-- What a slot of half as many has was set, and nothing else was: each row has what it had there, or what the others have for it.
pub taken_over : (others old new : Rows) (at from row until : ℕ) (f : Failure) → slice_get others.slots.items at ≡ Some f → f.row ≡ row →
    until ≡ until_row others row → from < until → length old.slots.items ≡ length others.slots.items * 2 → until_row new row ≡ until →
    ((r : ℕ) → r % length old.slots.items ≢ row % length old.slots.items → until_row new r ≡ until_row old r) →
    (r : ℕ) → from < until_row others r → (r % length others.slots.items ≡ at) ⊎ (until_row old r ≡ until_row others r) → until_row new r ≡ until_row others r
taken_over others old new at from row until f found of_row is high twice held apart r some either = go (eqb_tells r row)
  where
    n : ℕ
    n = length others.slots.items

    among : until_row old r ≡ until_row others r → r ≢ row → until_row new r ≡ until_row others r
    among kept other = apart r (λ same. other (one_row (slice_get others.slots.items (r % n)) r row (omega (arith, some))
        (subst (λ k. 0 < until_at (slice_get others.slots.items k) row) (sym (same_slot n r row (subst (λ k. r % k ≡ row % k) twice same))) (omega (arith, is, high))))) ∙ kept

    by : (r % n ≡ at) ⊎ (until_row old r ≡ until_row others r) → r ≢ row → until_row new r ≡ until_row others r
    by (inl same) other = absurd (other (sym (is_of_row (slice_get others.slots.items (r % n)) r (omega (arith, some)) f (ap (λ k. slice_get others.slots.items k) same ∙ found)) ∙ of_row))
    by (inr kept) other = among kept other

    go : ((nat_eq r row ≡ true) × (r ≡ row)) ⊎ ((nat_eq r row ≡ false) × (r ≢ row)) → until_row new r ≡ until_row others r
    go (inl k) = ap (λ x. until_row new x) k.1 ∙ held ∙ is ∙ ap (λ x. until_row others x) (sym k.1)
    go (inr k) = by either k.1

before_or_at : (a b : ℕ) → a < b + 1 → (a ≡ b) ⊎ (a < b)
before_or_at a b below = go (lt_or_eq a b)
  where
    lt_or_eq : (a b : ℕ) → (a ≡ b) ⊎ ((a < b) ⊎ (b < a))
    lt_or_eq zero zero = inl refl
    lt_or_eq zero (suc b) = inr (inl (omega arith))
    lt_or_eq (suc a) zero = inr (inr (omega arith))
    lt_or_eq (suc a) (suc b) = more (lt_or_eq a b)
      where
        more : (a ≡ b) ⊎ ((a < b) ⊎ (b < a)) → (suc a ≡ suc b) ⊎ ((suc a < suc b) ⊎ (suc b < suc a))
        more (inl e) = inl (ap suc e)
        more (inr (inl e)) = inr (inl (omega (arith, e)))
        more (inr (inr e)) = inr (inr (omega (arith, e)))

    go : (a ≡ b) ⊎ ((a < b) ⊎ (b < a)) → (a ≡ b) ⊎ (a < b)
    go (inl e) = inl e
    go (inr (inl e)) = inr e
    go (inr (inr e)) = absurd (omega (arith, below, e))

-- Once one more slot of the others is taken over, what all slots so far have for rows from a start row on is there.
pub taken_next : (others old new : Rows) (from at : ℕ) →
    ((r : ℕ) → from ≤ r → from < until_row others r → r % length others.slots.items < at → until_row old r ≡ until_row others r) →
    ((r : ℕ) → from ≤ r → from < until_row others r → (r % length others.slots.items ≡ at) ⊎ (until_row old r ≡ until_row others r) → until_row new r ≡ until_row others r) →
    (r : ℕ) → from ≤ r → from < until_row others r → r % length others.slots.items < at + 1 → until_row new r ≡ until_row others r
taken_next others old new from at before taken r low high below = taken r low high (go (before_or_at (r % length others.slots.items) at below))
  where
    go : (r % length others.slots.items ≡ at) ⊎ (r % length others.slots.items < at) → (r % length others.slots.items ≡ at) ⊎ (until_row old r ≡ until_row others r)
    go (inl here) = inl here
    go (inr earlier) = inr (before r low high earlier)

-- and nothing else is
pub only_next : (others old new : Rows) → ((r : ℕ) → 0 < until_row old r → until_row old r ≡ until_row others r) →
    ((r : ℕ) → 0 < until_row new r → (until_row new r ≡ until_row old r) ⊎ (until_row new r ≡ until_row others r)) →
    (r : ℕ) → 0 < until_row new r → until_row new r ≡ until_row others r
only_next others old new before only r some = go (only r some)
  where
    go : (until_row new r ≡ until_row old r) ⊎ (until_row new r ≡ until_row others r) → until_row new r ≡ until_row others r
    go (inl kept) = kept ∙ before r (omega (arith, kept, some))
    go (inr taken) = taken

-- Where the slot of a row is free, what others had is kept as one is set there.
pub kept_but_one : (old new : Rows) (from row : ℕ) → IsFreeFor from row old →
    ((r : ℕ) → r % length old.slots.items ≢ row % length old.slots.items → until_row new r ≡ until_row old r) → RowsKeepFrom from row old new
kept_but_one old new from row free others r low high = go (eqb_tells (r % length old.slots.items) (row % length old.slots.items))
  where
    go : ((nat_eq (r % length old.slots.items) (row % length old.slots.items) ≡ true) × (r % length old.slots.items ≡ row % length old.slots.items))
        ⊎ ((nat_eq (r % length old.slots.items) (row % length old.slots.items) ≡ false) × (r % length old.slots.items ≢ row % length old.slots.items)) →
        (until_row new r ≡ until_row old r) ⊎ (r ≡ row)
    go (inl same) = inr (free r low high same.1)
    go (inr other) = inl (others r other.1)

-- the same by way of rows that have what the old ones had from a start row on
pub kept_through : (old rows new : Rows) (from row : ℕ) → ((r : ℕ) → from ≤ r → from < until_row old r → until_row rows r ≡ until_row old r) →
    RowsKeepFrom from row rows new → RowsKeepFrom from row old new
kept_through old rows new from row same kept r low high = go (kept r low (let is = same r low high in omega (arith, is, high)))
  where
    go : (until_row new r ≡ until_row rows r) ⊎ (r ≡ row) → (until_row new r ≡ until_row old r) ⊎ (r ≡ row)
    go (inl is) = inl (is ∙ same r low high)
    go (inr is) = inr is

-- by way of rows that have nothing that the old ones hadn't
pub only_through : (old rows new : Rows) (row until : ℕ) → ((r : ℕ) → 0 < until_row rows r → until_row rows r ≡ until_row old r) →
    ((r : ℕ) → 0 < until_row new r → (until_row new r ≡ until_row rows r) ⊎ ((r ≡ row) × (until_row new r ≡ until))) →
    (r : ℕ) → 0 < until_row new r → (until_row new r ≡ until_row old r) ⊎ ((r ≡ row) × (until_row new r ≡ until))
only_through old rows new row until before only r some = go (only r some)
  where
    go : (until_row new r ≡ until_row rows r) ⊎ ((r ≡ row) × (until_row new r ≡ until)) → (until_row new r ≡ until_row old r) ⊎ ((r ≡ row) × (until_row new r ≡ until))
    go (inl is) = inl (is ∙ before r (omega (arith, is, some)))
    go (inr is) = inr is
