-- The faults of keys, over the columns that a query names.
use Rattle.std.proofs.Common.{◌≡◌, ℕ, zero, suc, ◌+◌, ◌-◌, ◌==◌, Bool, true, false, not, cond, Option, Some, None, List, [], ◌∷◌, length, refl, ap, sym, ◌∙◌, eq-eqb, map, arith}
use Rattle.std.specs.Prelude.{option_map, position, zip, slice_get, nat_lt, unwrap_or}
use Rattle.std.specs.List.{prefix_len}
use Rattle.std.proofs.lemmas.Bool.Decides.{nat_tests}
use Rattle.std.proofs.lemmas.List.{length-map}
use Rattle.rp_value.specs.declared.row.RowFault.TheVariants.{Width, Kind as KindAt}
use Rattle.rp_value.specs.declared.table.Column.{Column}
use Rattle.rp_value.specs.declared.value.Kind.{Kind}
use Rattle.rp_value.specs.declared.value.Kind.TheVariants.{Int as IntKind, Text as TextKind}
use Rattle.rp_value.specs.declared.value.Value.TheVariants.{Null}
use Rattle.rp_value.specs.Tables.{kinds_of}
use Rattle.rp_query.specs.Keys.{KeysFit, key_kinds, key_of, kind_at, kind_or, value_at, values_in}
use Rattle.rp_value.specs.declared.value.Value.{Value}
use Rattle.rp_value.specs.Rows.{admits, row_fault}
use Rattle.rp_value.proofs.Lists.{zip-map, position-map}

-- the fault of as many values as there are columns, whose kinds are so told
pub row_fault-map : {X : Type 0} (kind : X → Kind) (columns : List X) (values : List Value) → length values ≡ length columns → row_fault (map kind columns) values ≡ option_map (λ k. KindAt (k + 1)) (position (λ p. not (admits (kind p.0) p.1)) (zip columns values))
row_fault-map kind columns values same =
    let as_many : (length values == length (map kind columns)) ≡ true = eq-eqb _ _ (same ∙ sym (length-map columns kind)) in
    ap (λ b. cond b (option_map (λ k. KindAt (k + 1)) (position (λ p. not (admits p.0 p.1)) (zip (map kind columns) values))) (Some Width)) as_many
    ∙ ap (λ o. option_map (λ k. KindAt (k + 1)) o) (ap (position (λ p. not (admits p.0 p.1))) (zip-map kind columns values) ∙ position-map _ _ (zip columns values))

-- the fault of another number of values
pub row_fault-other : {X : Type 0} (kind : X → Kind) (columns : List X) (values : List Value) → (length values == length columns) ≡ false → row_fault (map kind columns) values ≡ Some Width
row_fault-other kind columns values other = rw (length-map columns kind, other)

-- ---- the key of a row that fits

some_or_none : {X : Type 0} (b : Bool) (x : X) → cond b (Some x) None ≡ None → b ≡ false
some_or_none true x h = absurd (cc)
some_or_none false x h = refl

-- how many pass a test from the front on
abbrev passed : {X : Type 0} → (X → Bool) → List X → ℕ
passed t xs = prefix_len (λ y. not (not (t y))) xs

-- where none fails a test, the first passes it, and none of the others fails
none_fails : {X : Type 0} (t : X → Bool) (x : X) (xs : List X) → position (λ y. not (t y)) (x ∷ xs) ≡ None → (t x ≡ true) × (position (λ y. not (t y)) xs ≡ None)
none_fails t x xs h = go (t x) refl h
  where
    go : (b : Bool) → t x ≡ b → cond (nat_lt (cond (not (not b)) (1 + passed t xs) 0) (suc (length xs))) (Some (cond (not (not b)) (1 + passed t xs) 0)) None ≡ None → (t x ≡ true) × (position (λ y. not (t y)) xs ≡ None)
    go true e k =
        let all : nat_lt (1 + passed t xs) (suc (length xs)) ≡ false = some_or_none (nat_lt (1 + passed t xs) (suc (length xs))) (1 + passed t xs) k in
        let rest : nat_lt (passed t xs) (length xs) ≡ false = grind (arith, nat_tests) in
        (e, ap (λ b. cond b (Some (passed t xs)) None) rest)
    go false e k = let some : nat_lt 0 (suc (length xs)) ≡ true = grind (arith, nat_tests) in absurd (cc)

pub none_fails_more : {X : Type 0} (t : X → Bool) (x : X) (xs : List X) → t x ≡ true → position (λ y. not (t y)) xs ≡ None → position (λ y. not (t y)) (x ∷ xs) ≡ None
none_fails_more t x xs e h =
    let rest : nat_lt (passed t xs) (length xs) ≡ false = some_or_none (nat_lt (passed t xs) (length xs)) (passed t xs) h in
    let all : nat_lt (1 + passed t xs) (suc (length xs)) ≡ false = grind (arith, nat_tests) in
    ap (λ b. cond (nat_lt (cond (not (not b)) (1 + passed t xs) 0) (suc (length xs))) (Some (cond (not (not b)) (1 + passed t xs) 0)) None) e
    ∙ ap (λ b. cond b (Some (1 + passed t xs)) None) all

-- where no value is refused, each is admitted
each_admitted : (kinds : List Kind) (values : List Value) (i : ℕ) (k : Kind) (v : Value) → position (λ p. not (admits p.0 p.1)) (zip kinds values) ≡ None → slice_get kinds i ≡ Some k → slice_get values i ≡ Some v → admits k v ≡ true
each_admitted [] values i k v h is there = absurd (cc)
each_admitted (x ∷ xs) [] i k v h is there = absurd (cc)
each_admitted (x ∷ xs) (y ∷ ys) zero k v h is there =
    let a : x ≡ k = cc in
    let b : y ≡ v = cc in
    ap (λ z. admits z v) (sym a) ∙ ap (admits x) (sym b) ∙ (none_fails (λ (p : Kind × Value). admits p.0 p.1) (x, y) (zip xs ys) h).0
each_admitted (x ∷ xs) (y ∷ ys) (suc i) k v h is there = each_admitted xs ys i k v (none_fails (λ (p : Kind × Value). admits p.0 p.1) (x, y) (zip xs ys) h).1 is there

null_admitted : (k : Kind) → admits k Null ≡ true
null_admitted IntKind = refl
null_admitted TextKind = refl

none_there : {X Y : Type 0} (xs : List X) (ys : List Y) (i : ℕ) → length ys ≡ length xs → slice_get xs i ≡ None → slice_get ys i ≡ None
none_there [] [] i e h = refl
none_there [] (y ∷ ys) i e h = absurd (cc)
none_there (x ∷ xs) [] i e h = absurd (cc)
none_there (x ∷ xs) (y ∷ ys) zero e h = absurd (cc)
none_there (x ∷ xs) (y ∷ ys) (suc i) e h = none_there xs ys i (omega (arith, e)) h

kinds_at : (columns : List Column) (i : ℕ) (c : Column) → slice_get columns i ≡ Some c → slice_get (kinds_of columns) i ≡ Some c.kind
kinds_at [] i c h = absurd (cc)
kinds_at (x ∷ xs) zero c h = let e : x ≡ c = cc in ap (λ (z : Column). Some z.kind) e
kinds_at (x ∷ xs) (suc i) c h = kinds_at xs i c h

-- as many values as kinds, none of which is refused
pub record Fits (kinds : List Kind) (values : List Value) : Type 0 where
  pub width : length values ≡ length kinds
  pub admitted : position (λ p. not (admits p.0 p.1)) (zip kinds values) ≡ None

pub fits_of : (kinds : List Kind) (values : List Value) → row_fault kinds values ≡ None → Fits kinds values
fits_of kinds values h = go (length values == length kinds) refl h
  where
    mapped : (o : Option ℕ) → option_map (λ k. KindAt (k + 1)) o ≡ None → o ≡ None
    mapped None e = refl
    mapped (Some i) e = absurd (cc)

    go : (b : Bool) → length values == length kinds ≡ b → cond b (option_map (λ k. KindAt (k + 1)) (position (λ p. not (admits p.0 p.1)) (zip kinds values))) (Some Width) ≡ None → Fits kinds values
    go true e k = record { width = (let w : length values ≡ length kinds = grind (arith, nat_tests) in w); admitted = mapped (position (λ p. not (admits p.0 p.1)) (zip kinds values)) k }
    go false e k = absurd (cc)

-- each column's kind admits the row's value
pub column_admits : (columns : List Column) (row : List Value) → Fits (kinds_of columns) row → (column : ℕ) → admits (kind_at columns column) (value_at column row) ≡ true
column_admits columns row fits column = go (column == 0)
  where
    found : (o : Option Column) (v : Option Value) → slice_get columns (column - 1) ≡ o → slice_get row (column - 1) ≡ v → admits (kind_or o) (unwrap_or v Null) ≡ true
    found o None e h = null_admitted (kind_or o)
    found None (Some v) e h =
        let none : slice_get row (column - 1) ≡ None = none_there columns row (column - 1) (fits.width ∙ length-map columns (λ c. c.kind)) e in
        absurd (cc)
    found (Some c) (Some v) e h = each_admitted (kinds_of columns) row (column - 1) c.kind v fits.admitted (kinds_at columns (column - 1) c e) h

    go : (b : Bool) → admits (kind_at columns column) (unwrap_or (cond b None (slice_get row (column - 1))) Null) ≡ true
    go true = null_admitted (kind_at columns column)
    go false = found (slice_get columns (column - 1)) (slice_get row (column - 1)) refl refl

none_misplaced : (columns : List Column) (row : List Value) → Fits (kinds_of columns) row → (key : List ℕ) → position (λ p. not (admits p.0 p.1)) (zip (map (kind_at columns) key) (values_in key row)) ≡ None
none_misplaced columns row fits [] = refl
none_misplaced columns row fits (c ∷ cs) =
    none_fails_more (λ (p : Kind × Value). admits p.0 p.1) (kind_at columns c, value_at c row) (zip (map (kind_at columns) cs) (values_in cs row)) (column_admits columns row fits c) (none_misplaced columns row fits cs)

pub keys_fit : KeysFit
keys_fit q row h =
    let same : (length (key_of q row) == length (key_kinds q)) ≡ true = eq-eqb _ _ (length-map q.partition.items (λ c. value_at c row) ∙ sym (length-map q.partition.items (kind_at q.table))) in
    ap (λ b. cond b (option_map (λ k. KindAt (k + 1)) (position (λ p. not (admits p.0 p.1)) (zip (key_kinds q) (key_of q row)))) (Some Width)) same
    ∙ ap (option_map (λ k. KindAt (k + 1))) (none_misplaced q.table row (fits_of (kinds_of q.table) row h) q.partition.items)
