-- The faults of tables and of rows, over the lists that the code has.
use Rattle.std.proofs.Common.{◌≡◌, ℕ, ◌+◌, ◌-◌, ◌<◌, ◌==◌, true, false, not, ◌||◌, cond, None, Some, List, [], ◌∷◌, length, get_or, take, drop, ap, sym, ◌∙◌, eq-eqb, add-one, drop-cons}
use Rattle.std.proofs.Math.Seq.{take-length}
use Rattle.std.specs.Prelude.{String, string_bytes, option_map, position, zip}
use Rattle.std.specs.List.{list_any}
use Rattle.std.specs.Cmp.Lexicographic.{pointwise}
use Rattle.std.specs.declared.alloc.Global.{Global}
use Rattle.std.proofs.lemmas.List.{length-drop, length-map}
use Rattle.rp_value.specs.declared.row.RowFault.TheVariants.{Width, Kind as KindAt}
use Rattle.rp_value.specs.declared.table.Column.{Column}
use Rattle.rp_value.specs.declared.table.TableFault.TheVariants.{BadName, DoubleName}
use Rattle.rp_value.specs.declared.value.Kind.{Kind}
use Rattle.rp_value.specs.declared.value.Value.{Value}
use Rattle.rp_value.specs.Rows.{admits, row_fault}
use Rattle.rp_value.specs.Tables.{is_bad_name, has_double_name, table_fault, column_of, columns_of, kinds_of}
use Rattle.rp_value.proofs.Lists.{list_any-map, zip-map, position-map}

-- the name and the kind that a column is made of
abbrev pub Pair : Type 0
Pair = String Global × Kind

-- the fault of columns that are there
pub table_fault-columns_of : (pairs : List Pair) → (length pairs == 0) ≡ false → table_fault (columns_of pairs) ≡ cond (list_any (λ c. is_bad_name (string_bytes c.0)) pairs) (Some BadName) (cond (has_double_name (columns_of pairs)) (Some DoubleName) None)
table_fault-columns_of [] there = cc
table_fault-columns_of (p ∷ ps) there =
    ap (λ b. cond b (Some BadName) (cond (has_double_name (columns_of (p ∷ ps))) (Some DoubleName) None)) (list_any-map (λ c. is_bad_name c.name) column_of (p ∷ ps))

-- a double name from a place on is one at that place, `name`, or a later one
pub has_double_name-drop : (pairs : List Pair) (i : ℕ) (p : Pair) (name : List ℕ) → i < length pairs → p ≡ get_or pairs i p → name ≡ string_bytes p.0 → has_double_name (columns_of (drop i pairs)) ≡ (list_any (λ c. pointwise ◌==◌ (string_bytes c.0) name) (take (length pairs - (i + 1)) (drop (i + 1) pairs)) || has_double_name (columns_of (drop (i + 1) pairs)))
has_double_name-drop pairs i p name inside here named =
    let rest = drop (i + 1) pairs in
    let whole : take (length pairs - (i + 1)) rest ≡ rest = ap (λ n. take n rest) (sym (length-drop (i + 1) pairs)) ∙ take-length rest in
    let front : drop i pairs ≡ get_or pairs i p ∷ rest = rw add-one (drop-cons pairs i p inside) in
    ap (λ qs. has_double_name (columns_of qs)) (front ∙ ap (λ q. q ∷ rest) (sym here))
    ∙ ap (λ b. b || has_double_name (columns_of rest)) (list_any-map (λ c. pointwise ◌==◌ c.name (string_bytes p.0)) column_of rest)
    ∙ ap (λ n. list_any (λ c. pointwise ◌==◌ (string_bytes c.0) n) rest || has_double_name (columns_of rest)) (sym named)
    ∙ ap (λ qs. list_any (λ c. pointwise ◌==◌ (string_bytes c.0) name) qs || has_double_name (columns_of rest)) (sym whole)

-- the fault of as many values as there are columns
pub row_fault-kinds_of : (columns : List Column) (values : List Value) → length values ≡ length columns → row_fault (kinds_of columns) values ≡ option_map (λ k. KindAt (k + 1)) (position (λ p. not (admits p.0.kind p.1)) (zip columns values))
row_fault-kinds_of columns values same =
    let as_many : (length values == length (kinds_of columns)) ≡ true = eq-eqb _ _ (same ∙ sym (length-map columns (λ c. c.kind))) in
    ap (λ b. cond b (option_map (λ k. KindAt (k + 1)) (position (λ p. not (admits p.0 p.1)) (zip (kinds_of columns) values))) (Some Width)) as_many
    ∙ ap (λ o. option_map (λ k. KindAt (k + 1)) o) (ap (position (λ p. not (admits p.0 p.1))) (zip-map (λ c. c.kind) columns values) ∙ position-map _ _ (zip columns values))

-- the fault of another number of values
pub row_fault-width : (columns : List Column) (values : List Value) → (length values == length columns) ≡ false → row_fault (kinds_of columns) values ≡ Some Width
row_fault-width columns values other = rw (length-map columns (λ c. c.kind), other)
