-- Values are null or of the kinds that expressions and columns have.
use Rattle.std.proofs.Common.{◌≡◌, ◌∙◌, ℕ, zero, suc, ◌-◌, ◌==◌, ℤ, pos, Bool, true, false, ◌&&◌, cond, List, [], ◌∷◌, map, fold, length, Option, Some, None, refl, sym, ap, subst, arith}
use Rattle.std.specs.Prelude.{◌+ℤ◌, ◌-ℤ◌, ◌*ℤ◌, nat_le, nat_lt, option_map, is_some, slice_get, unwrap_or}
use Rattle.std.specs.List.{AllByRecursion, list_all}
use Rattle.std.specs.declared.cmp.Ordering.{Ordering}
use Rattle.std.specs.declared.cmp.Ordering.TheVariants.{Less, Greater}
use Rattle.std.proofs.lemmas.List.Elements.{All-get_or}
use Rattle.std.proofs.lemmas.Option.{slice_get_within, get_or_from_slice_get}
use Rattle.rp_value.specs.declared.table.Column.{Column}
use Rattle.rp_value.specs.declared.value.Kind.{Kind}
use Rattle.rp_value.specs.declared.value.Kind.TheVariants.{Int, Text}
use Rattle.rp_value.specs.declared.value.Value.{Value}
use Rattle.rp_value.specs.declared.value.Value.TheVariants as value
use Rattle.rp_value.specs.Arithmetic.{fitted, fits_64_bits, on_numbers}
use Rattle.rp_value.specs.Rows.{admits, cell_at, row_fault}
use Rattle.rp_value.specs.Sums.{sum_of, exact_sum}
use Rattle.rp_value.specs.Tables.{kinds_of}
use Rattle.rp_words.specs.declared.word.Label.{Label}
use Rattle.rp_words.specs.declared.word.End.{End}
use Rattle.rp_words.specs.declared.word.End.TheVariants.{Open as OpenEnd, Closed as ClosedEnd}
use Rattle.rp_query.specs.declared.plan.Function.{Function}
use Rattle.rp_query.specs.declared.plan.Function.TheVariants.{Listed, Rows as RowCount, Count, Sum, Least as Min, Greatest as Max}
use Rattle.rp_query.specs.declared.plan.Operation.{Operation}
use Rattle.rp_query.specs.declared.plan.Operation.TheVariants.{Plus, Minus, Times}
use Rattle.rp_query.specs.declared.plan.Step.{Step}
use Rattle.rp_query.specs.declared.plan.Step.TheVariants.{Back, Ahead}
use Rattle.rp_query.specs.Formulas as F
use Rattle.rp_query.specs.Formulas.{Formula, PlainTotal, value_formula}
use Rattle.rp_query.specs.Keys.{AreRowsOver, kind_at, kind_or, value_at}
use Rattle.rp_query.specs.Kinds.{is_kind, may_be, are_texts, column_kind, function_kind, total_kind, are_kept, has_kind}
use Rattle.rp_query.proofs.KeyFaults.{fits_of, column_admits}
use Rattle.rp_eval.specs.declared.cell.Cell.{Cell}
use Rattle.rp_eval.specs.declared.cell.Cell.TheVariants.{Ready, Open}
use Rattle.rp_eval.specs.Aggregated.{aggregate, preferred, outdoes, numbers, present}
use Rattle.rp_eval.specs.Mapped.{place_in}
use Rattle.rp_eval.specs.Partition.{Rows, row_at, cell_in, or_null, cell}
use Rattle.rp_eval.specs.Typed.{IsOfKind, ValuesHaveKinds, CellsHaveKinds}
use Rattle.rp_eval.specs.ValueOf.{Setting, cell_there, past_the_end, cell_after, cell_from, classified, name_of, calculated, operated, value_of}
use Rattle.rp_eval.proofs.ByFormula.{aggregate_by, among_by, formula_value, bare, kept, rows_by, value_follows}
use Rattle.rp_eval.specs.ValueOf.{seen_labels}

both_true : (a b : Bool) → (a && b) ≡ true → (a ≡ true) × (b ≡ true)
both_true true b e = (refl, e)
both_true false b e = absurd cc

null_fits : (k : Kind) → admits k value.Null ≡ true
null_fits Int = refl
null_fits Text = refl

kind_same : (k j : Kind) → is_kind k (Some j) ≡ true → j ≡ k
kind_same Int Int e = refl
kind_same Int Text e = absurd cc
kind_same Text Int e = absurd cc
kind_same Text Text e = refl

value_fits : (k : Kind) (v : Value) → may_be k v ≡ true → admits k v ≡ true
value_fits k value.Null e = null_fits k
value_fits Int (value.Int n) e = refl
value_fits Text (value.Int n) e = absurd cc
value_fits Int (value.Text t) e = absurd cc
value_fits Text (value.Text t) e = refl

number_fits : (k : Kind) (z : ℤ) → is_kind k (Some Int) ≡ true → admits k (fitted z) ≡ true
number_fits Int z e = go (fits_64_bits z)
  where
    go : (b : Bool) → admits Int (cond b (value.Int z) value.Null) ≡ true
    go true = refl
    go false = refl
number_fits Text z e = absurd cc

sum_fits : (k : Kind) (zs : List ℤ) → is_kind k (Some Int) ≡ true → admits k (sum_of zs) ≡ true
sum_fits k [] e = null_fits k
sum_fits k (z ∷ zs) e = number_fits k (exact_sum (z ∷ zs)) e

number_told : (k : Kind) (b : Bool) → is_kind k (cond b (Some Int) None) ≡ true → is_kind k (Some Int) ≡ true
number_told k true e = e
number_told k false e = absurd cc

-- ---- the least and the greatest are among the values

module _ (k : Kind) (order : Ordering) where
  preferred_fits : (best new : Value) → admits k best ≡ true → admits k new ≡ true → admits k (preferred order best new) ≡ true
  preferred_fits best new h g = go (outdoes order new best)
    where
      go : (b : Bool) → admits k (cond b new best) ≡ true
      go true = g
      go false = h

  extreme_fits : (best : Value) (vs : List Value) → admits k best ≡ true → AllByRecursion (λ v. admits k v ≡ true) vs → admits k (fold (preferred order) best vs) ≡ true
  extreme_fits best [] h all = h
  extreme_fits best (v ∷ vs) h all = extreme_fits (preferred order best v) vs (preferred_fits best v h all.0) all.1

-- ---- arithmetic

on_numbers_fits : (k : Kind) (f : ℤ → ℤ → ℤ) (a b : Value) → is_kind k (Some Int) ≡ true → admits k (on_numbers f a b) ≡ true
on_numbers_fits k f value.Null b e = null_fits k
on_numbers_fits k f (value.Text t) b e = null_fits k
on_numbers_fits k f (value.Int m) value.Null e = null_fits k
on_numbers_fits k f (value.Int m) (value.Text t) e = null_fits k
on_numbers_fits k f (value.Int m) (value.Int n) e = number_fits k (f m n) e

calculated_fits : (k : Kind) (o : Operation) (a b : Cell) → is_kind k (Some Int) ≡ true → IsOfKind k (calculated o a b)
calculated_fits k o Open b e = tt
calculated_fits k o (Ready a) Open e = tt
calculated_fits k Plus (Ready a) (Ready b) e = on_numbers_fits k ◌+ℤ◌ a b e
calculated_fits k Minus (Ready a) (Ready b) e = on_numbers_fits k ◌-ℤ◌ a b e
calculated_fits k Times (Ready a) (Ready b) e = on_numbers_fits k ◌*ℤ◌ a b e

-- ---- the name of a variable

name_there : (names : List Value) (i : ℕ) → are_texts names ≡ true → admits Text (or_null (slice_get names i)) ≡ true
name_there [] i e = refl
name_there (n ∷ ns) zero e = value_fits Text n (both_true _ _ e).0
name_there (n ∷ ns) (suc i) e = name_there ns i (both_true _ _ e).1

name_fits : (names : List Value) (o : Option Label) → are_texts names ≡ true → admits Text (name_of names o) ≡ true
name_fits names None e = refl
name_fits names (Some l) e = name_there names l.var e

-- ---- cells

module _ (columns : List Column) (rows : Rows) (over : AreRowsOver columns rows) where
  column_is : (k : Kind) (n : ℕ) → is_kind k (column_kind columns n) ≡ true → kind_at columns n ≡ k
  column_is k zero e = absurd cc
  column_is k (suc i) e =
      let one : suc i - 1 ≡ i = omega arith in
      ap (λ j. kind_or (slice_get columns j)) one ∙ go (slice_get columns i) e
    where
      go : (o : Option Column) → is_kind k (option_map (λ c. c.kind) o) ≡ true → kind_or o ≡ k
      go None e = absurd cc
      go (Some c) e = kind_same k c.kind e

  null_or : (o : Option Value) → or_null o ≡ unwrap_or o value.Null
  null_or None = refl
  null_or (Some v) = refl

  row_in : (row : ℕ) (r : List Value) → row_at rows row ≡ Some r → row_fault (kinds_of columns) r ≡ None
  row_in row r = go (row == 0)
    where
      go : (b : Bool) → cond b None (slice_get rows (row - 1)) ≡ Some r → row_fault (kinds_of columns) r ≡ None
      go true e = absurd cc
      go false e =
          rw (← get_or_from_slice_get rows (row - 1) r r e)
          (All-get_or (λ r. row_fault (kinds_of columns) r ≡ None) rows (row - 1) r (slice_get_within rows (row - 1) r e) over)

  pub cell_fits : (k : Kind) (n row : ℕ) → is_kind k (column_kind columns n) ≡ true → admits k (cell rows n row) ≡ true
  cell_fits k n row e = go (row_at rows row) (row_in row)
    where
      go : (o : Option (List Value)) → ((r : List Value) → o ≡ Some r → row_fault (kinds_of columns) r ≡ None) → admits k (or_null (cell_in o n)) ≡ true
      go None h = null_fits k
      go (Some r) h =
          ap (λ j. admits j (or_null (cell_at r n))) (sym (column_is k n e)) ∙ ap (admits (kind_at columns n)) (null_or (cell_at r n))
          ∙ column_admits columns r (fits_of (kinds_of columns) r (h r refl)) n

  module _ (k : Kind) (n : ℕ) (is : is_kind k (column_kind columns n) ≡ true) where
    past_fits : (e : End) → IsOfKind k (past_the_end e)
    past_fits OpenEnd = tt
    past_fits ClosedEnd = null_fits k

    there_fits : (e : End) (row : ℕ) → IsOfKind k (cell_there rows e n row)
    there_fits e row = go (nat_le row (length rows))
      where
        go : (b : Bool) → IsOfKind k (cond b (Ready (cell rows n row)) (past_the_end e))
        go true = cell_fits k n row is
        go false = past_fits e

    after_fits : (e : End) (step : Step) (row : ℕ) → IsOfKind k (cell_after rows e n step row)
    after_fits e (Ahead j) row = there_fits e _
    after_fits e (Back j) row = go (nat_lt j row)
      where
        go : (b : Bool) → IsOfKind k (cond b (cell_there rows e n (row - j)) (Ready value.Null))
        go true = there_fits e (row - j)
        go false = null_fits k

    from_fits : (e : End) (step : Step) (o : Option ℕ) → IsOfKind k (cell_from rows e n step o)
    from_fits e step None = null_fits k
    from_fits e step (Some row) = after_fits e step row

    cells_fit : (at : List ℕ) → AllByRecursion (λ v. admits k v ≡ true) (map (cell rows n) at)
    cells_fit [] = tt
    cells_fit (row ∷ more) = (cell_fits k n row is, cells_fit more)

  aggregate_fits : (k : Kind) (f : Function) (at : List ℕ) → is_kind k (function_kind columns f) ≡ true → admits k (aggregate rows f at) ≡ true
  aggregate_fits k Listed at e = null_fits k
  aggregate_fits k RowCount at e = number_fits k (pos (length at)) e
  aggregate_fits k (Count n) at e = number_fits k (pos (length (present (map (cell rows n) at)))) (number_told k (is_some (column_kind columns n)) e)
  aggregate_fits k (Sum n) at e = sum_fits k (numbers (map (cell rows n) at)) (number_told k (is_kind Int (column_kind columns n)) e)
  aggregate_fits k (Min n) at e = extreme_fits k Less value.Null (map (cell rows n) at) (null_fits k) (cells_fit k n e at)
  aggregate_fits k (Max n) at e = extreme_fits k Greater value.Null (map (cell rows n) at) (null_fits k) (cells_fit k n e at)

-- ---- expressions

module _ (columns : List Column) (s : Setting) (over : AreRowsOver columns s.rows) where
  total_fits : (k : Kind) (is_final : Bool) (o : Option PlainTotal) → is_kind k (total_kind columns o) ≡ true → admits k (aggregate_by (bare s) is_final o) ≡ true
  total_fits k is_final None e = null_fits k
  total_fits k is_final (Some t) e = aggregate_fits columns s.rows over k t.function (rows_by t.members s.start (seen_labels (bare s) is_final)) e

  formula_fits : (k : Kind) (f : Formula) → has_kind columns (kept s) k f ≡ true → IsOfKind k (formula_value (bare s) (kept s) f)
  formula_fits k (F.Literal v) e = value_fits k v e
  formula_fits k (F.Cell n) e =
      from_fits columns s.rows over k n.column (both_true _ _ e).0 s.ending n.step (place_in n.edge n.places (among_by (bare s) (kept s) n.is_final n.rows_of))
  formula_fits k (F.Aggregated number is_final) e = total_fits k is_final (slice_get (kept s) number) e
  formula_fits k F.MatchNumber e = number_fits k (pos s.number) e
  formula_fits k (F.Classifier names) e =
      let both = both_true _ _ e in
      subst (λ j. admits j (classified (bare s) names) ≡ true) (kind_same k Text both.0) (name_fits names (slice_get s.labels (s.current - s.start)) both.1)
  formula_fits k (F.Arithmetic o a b) e = calculated_fits k o (formula_value (bare s) (kept s) a) (formula_value (bare s) (kept s) b) (both_true _ _ e).0
  formula_fits k (F.Compare c a b) e = absurd cc
  formula_fits k (F.IsNull a) e = absurd cc
  formula_fits k (F.Not a) e = absurd cc
  formula_fits k (F.And a b) e = absurd cc
  formula_fits k (F.Or a b) e = absurd cc

pub cells_have_kinds : CellsHaveKinds
cells_have_kinds columns rows k column row over e = cell_fits columns rows over k column row e

pub values_have_kinds : ValuesHaveKinds
values_have_kinds columns s k x over e = subst (IsOfKind k) (sym (value_follows s x)) (formula_fits columns s over k (value_formula x) e)
