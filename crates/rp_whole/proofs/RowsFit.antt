-- The rows of a text fit its table, and so do those of its partitions.
use Rattle.std.proofs.Common.{inl, inr, ◌≡◌, ◌∙◌, ℕ, ◌+◌, ◌==◌, Bool, true, false, not, ◌&&◌, cond, Some, None, List, [], ◌∷◌, length, refl, sym, ap, subst, eq-eqb, arith}
use Rattle.std.specs.Prelude.{filter, option_map, position, zip}
use Rattle.std.specs.Cmp.{IsStrictWeakOrder}
use Rattle.std.specs.List.{AllByRecursion}
use Rattle.std.specs.List.Sorted.{IsStableBy, ties}
use Rattle.std.proofs.lemmas.List.Elements.{All-from_recursion}
use Rattle.rp_value.specs.Rows.{admits, row_fault}
use Rattle.rp_value.specs.Tables.{kinds_of}
use Rattle.rp_value.specs.declared.row.RowFault.TheVariants.{Width, Kind as KindAt}
use Rattle.rp_value.specs.declared.table.Column.{Column}
use Rattle.rp_value.specs.declared.value.Kind.{Kind}
use Rattle.rp_value.specs.declared.value.Kind.TheVariants as kind
use Rattle.rp_value.specs.declared.value.Value.{Value}
use Rattle.rp_value.specs.declared.value.Value.TheVariants.{Null}
use Rattle.rp_query.specs.Keys.{AreRowsOver, same_key, values_in}
use Rattle.rp_query.specs.declared.query.OrderColumn.{OrderColumn}
use Rattle.rp_query.proofs.KeyFaults.{none_fails_more}
use Rattle.rp_numbering.specs.Numbered.{AreOrdered}
use Rattle.rp_numbering.specs.Orders.{is_before}
use Rattle.rp_numbering.specs.Partitions.{Part, partitions}
use Rattle.rp_input.specs.CsvRows.{AreRows}
use Rattle.rp_input.specs.Fields.{IsField, IsFull, IsRow}
use Rattle.rp_whole.specs.Fitting.{PartsFit}

-- ---- a record's row

full_fits : (k : Kind) (bytes : List ℕ) (v : Value) → IsFull k bytes v → admits k v ≡ true
full_fits kind.Int bytes v h = ap (admits kind.Int) h.1
full_fits kind.Text bytes v h = ap (admits kind.Text) h

null_fits : (k : Kind) → admits k Null ≡ true
null_fits kind.Int = refl
null_fits kind.Text = refl

field_fits : (k : Kind) (bytes : List ℕ) (v : Value) → IsField k bytes v → admits k v ≡ true
field_fits k bytes v h = elim h [ inl e ↦ ap (admits k) e.1 ∙ null_fits k | inr e ↦ full_fits k bytes v e.2 ]

-- no value of a row is refused by its column
abbrev pub AreAdmitted : List Kind → List Value → Type 0
AreAdmitted kinds row = (length row ≡ length kinds) × (position (λ p. not (admits p.0 p.1)) (zip kinds row) ≡ None)

row_admitted : (kinds : List Kind) (fields : List (List ℕ)) (row : List Value) → IsRow kinds fields row → AreAdmitted kinds row
row_admitted [] [] [] h = (refl, refl)
row_admitted [] [] (v ∷ vs) h = absurd h
row_admitted [] (f ∷ fs) row h = absurd h
row_admitted (k ∷ ks) [] row h = absurd h
row_admitted (k ∷ ks) (f ∷ fs) [] h = absurd h
row_admitted (k ∷ ks) (f ∷ fs) (v ∷ vs) h =
    let later = row_admitted ks fs vs h.1 in
    (omega (arith, later.0), none_fails_more (λ (p : Kind × Value). admits p.0 p.1) (k, v) (zip ks vs) (field_fits k f v h.0) later.1)

pub admitted_fits : (kinds : List Kind) (row : List Value) → AreAdmitted kinds row → row_fault kinds row ≡ None
admitted_fits kinds row are =
    let same : (length row == length kinds) ≡ true = eq-eqb _ _ are.0 in
    ap (λ b. cond b (option_map (λ k. KindAt (k + 1)) (position (λ p. not (admits p.0 p.1)) (zip kinds row))) (Some Width)) same
    ∙ ap (option_map (λ k. KindAt (k + 1))) are.1

row_fits : (kinds : List Kind) (fields : List (List ℕ)) (row : List Value) → IsRow kinds fields row → row_fault kinds row ≡ None
row_fits kinds fields row h = admitted_fits kinds row (row_admitted kinds fields row h)

abbrev pub Fit : List Kind → List (List Value) → Type 0
Fit kinds rows = AllByRecursion (λ row. row_fault kinds row ≡ None) rows

rows_fit : (kinds : List Kind) (records : List (List (List ℕ))) (rows : List (List Value)) → AreRows kinds records rows → Fit kinds rows
rows_fit kinds [] [] h = tt
rows_fit kinds [] (row ∷ rows) h = absurd h
rows_fit kinds (r ∷ rs) [] h = tt
rows_fit kinds (r ∷ rs) (row ∷ rows) h = (row_fits kinds r row h.0, rows_fit kinds rs rows h.1)

-- ---- partitions

abbrev pub AllFit : List Kind → List Part → Type 0
AllFit kinds parts = AllByRecursion (λ part. Fit kinds part.1) parts

kept : {X : Type 0} (P : X → Type 0) (test : X → Bool) (xs : List X) → AllByRecursion P xs → AllByRecursion P (filter test xs)
kept P test [] h = tt
kept P test (x ∷ xs) h = go (test x) (kept P test xs h.1)
  where
    go : (b : Bool) → AllByRecursion P (filter test xs) → AllByRecursion P (cond b (x ∷ filter test xs) (filter test xs))
    go true later = (h.0, later)
    go false later = later

pub parts_fit : (kinds : List Kind) (columns : List ℕ) (rows : List (List Value)) → Fit kinds rows → AllFit kinds (partitions columns rows)
parts_fit kinds columns [] h = tt
parts_fit kinds columns (row ∷ rows) h =
    let key = values_in columns row in (
      (h.0, kept (λ row. row_fault kinds row ≡ None) (λ row. same_key key (values_in columns row)) rows h.1),
      kept (λ (part : Part). Fit kinds part.1) (λ part. not (same_key key part.0)) (partitions columns rows) (parts_fit kinds columns rows h.1),
    )

-- ---- order

-- each that passes the test is among those that pass
passing : {X : Type 0} (P : X → Type 0) (test : X → Bool) (xs : List X) → AllByRecursion P (filter test xs) → AllByRecursion (λ x. test x ≡ true → P x) xs
passing P test [] h = tt
passing P test (x ∷ xs) h = go (test x) refl h (passing P test xs)
  where
    go : (b : Bool) → test x ≡ b → AllByRecursion P (cond b (x ∷ filter test xs) (filter test xs))
        → (AllByRecursion P (filter test xs) → AllByRecursion (λ x. test x ≡ true → P x) xs) → AllByRecursion (λ x. test x ≡ true → P x) (x ∷ xs)
    go true e k later = (λ yes. k.0, later k.1)
    go false e k later = (λ yes. absurd cc, later k)

-- what holds of each element for each of them holds of it for itself
itself : {X : Type 0} (Q : X → X → Type 0) (xs : List X) → ((x : X) → AllByRecursion (Q x) xs) → AllByRecursion (λ x. Q x x) xs
itself Q [] h = tt
itself Q (x ∷ xs) h = ((h x).0, itself Q xs (λ y. (h y).1))

same_place : {X : Type 0} (before : X → X → Bool) → IsStrictWeakOrder before → (x : X) → ties before x x ≡ true
same_place before weak x = go (before x x) refl
  where
    go : (b : Bool) → before x x ≡ b → (not b && not b) ≡ true
    go true e = let other : before x x ≡ false = weak.one_way x x e in absurd cc
    go false e = refl

ordered_keep : {X : Type 0} (P : X → Type 0) (before : X → X → Bool) → IsStrictWeakOrder before → (xs ys : List X) → IsStableBy before xs ys → AllByRecursion P xs → AllByRecursion P ys
ordered_keep {X} P before weak xs ys stable h =
    each ys (itself (λ x y. ties before x y ≡ true → P y) ys (λ x. passing P (ties before x) ys (subst (AllByRecursion P) (sym (stable x)) (kept P (ties before x) xs h))))
  where
    each : (zs : List X) → AllByRecursion (λ x. ties before x x ≡ true → P x) zs → AllByRecursion P zs
    each [] k = tt
    each (z ∷ zs) k = (k.0 (same_place before weak z), each zs k.1)

pub ordered_fit : (kinds : List Kind) (order : List OrderColumn) → IsStrictWeakOrder (is_before order) → (parts ordered : List Part) → AreOrdered order parts ordered → AllFit kinds parts → AllFit kinds ordered
ordered_fit kinds order weak [] [] h fit = tt
ordered_fit kinds order weak [] (o ∷ os) h fit = absurd h
ordered_fit kinds order weak (part ∷ parts) [] h fit = absurd h
ordered_fit kinds order weak (part ∷ parts) (o ∷ os) h fit =
    (ordered_keep (λ row. row_fault kinds row ≡ None) (is_before order) weak part.1 o.1 h.1.1 fit.0, ordered_fit kinds order weak parts os h.2 fit.1)

pub all_over : (columns : List Column) (parts : List Part) → AllFit (kinds_of columns) parts → AllByRecursion (λ part. AreRowsOver columns part.1) parts
all_over columns [] h = tt
all_over columns (part ∷ parts) h = (All-from_recursion (λ row. row_fault (kinds_of columns) row ≡ None) part.1 h.0, all_over columns parts h.1)

pub fitting : ((order : List OrderColumn) → IsStrictWeakOrder (is_before order)) → PartsFit
fitting weak columns partition order text rows parts read ordered =
    All-from_recursion (λ part. AreRowsOver columns part.1) parts
    (all_over columns parts
    (ordered_fit (kinds_of columns) order (weak order) (partitions partition rows) parts ordered
    (parts_fit (kinds_of columns) partition rows (rows_fit (kinds_of columns) read.records rows read.are))))
