-- Over cells of 64 bits the cells of output rows have 64 bits.
use Rattle.std.proofs.Common.{◌≡◌, ℕ, zero, suc, ◌-◌, ◌==◌, pos, Bool, true, false, cond, List, [], ◌∷◌, map, length, Option, Some, None, refl, sym, subst}
use Rattle.std.specs.Prelude.{◌+ℤ◌, ◌-ℤ◌, ◌*ℤ◌, ⊤, All, nat_le, nat_lt, slice_get}
use Rattle.std.specs.List.{AllByRecursion}
use Rattle.std.specs.declared.cmp.Ordering.TheVariants.{Less, Greater}
use Rattle.std.proofs.lemmas.List.Elements.{All-from_recursion, All-get_or, All-weaker}
use Rattle.std.proofs.lemmas.Option.{slice_get_within, get_or_from_slice_get}
use Rattle.rp_value.specs.Rows.{cell_at}
use Rattle.rp_value.specs.declared.table.Column.{Column}
use Rattle.rp_value.specs.declared.value.Value.{Value}
use Rattle.rp_value.specs.declared.value.Value.TheVariants.{Null}
use Rattle.rp_words.specs.declared.word.End.{End}
use Rattle.rp_words.specs.declared.word.End.TheVariants.{Open as OpenEnd, Closed as ClosedEnd}
use Rattle.rp_words.specs.declared.word.Label.{Label}
use Rattle.rp_query.specs.Formulas as F
use Rattle.rp_query.specs.Formulas.{Formula, PlainTotal, value_formula}
use Rattle.rp_query.specs.declared.item.Item.{Item}
use Rattle.rp_query.specs.declared.item.Item.TheVariants.{Row, Fault, End as EndItem}
use Rattle.rp_query.specs.declared.plan.Expr.{Expr}
use Rattle.rp_query.specs.declared.plan.Function.{Function}
use Rattle.rp_query.specs.declared.plan.Function.TheVariants.{Listed, Rows as RowCount, Count, Sum, Least as Min, Greatest as Max}
use Rattle.rp_query.specs.declared.plan.Operation.{Operation}
use Rattle.rp_query.specs.declared.plan.Operation.TheVariants.{Plus, Minus, Times}
use Rattle.rp_query.specs.declared.plan.Step.{Step}
use Rattle.rp_query.specs.declared.plan.Step.TheVariants.{Back, Ahead}
use Rattle.rp_query.specs.declared.query.OutputColumn.{OutputColumn}
use Rattle.rp_query.specs.declared.query.QueryData.{QueryData}
use Rattle.rp_query.specs.declared.query.Source.{Source}
use Rattle.rp_query.specs.declared.query.Source.TheVariants as source
use Rattle.rp_eval.specs.declared.cell.Cell.{Cell}
use Rattle.rp_eval.specs.declared.cell.Cell.TheVariants.{Ready, Open}
use Rattle.rp_eval.specs.Aggregated.{aggregate, numbers, present}
use Rattle.rp_eval.specs.Mapped.{place_in}
use Rattle.rp_eval.specs.Partition.{Rows, cell_in, or_null, cell}
use Rattle.rp_eval.specs.ValueOf.{Setting, calculated, cell_after, cell_from, cell_there, name_of, past_the_end, seen_labels}
use Rattle.rp_eval.proofs.ByFormula.{aggregate_by, among_by, bare, formula_value, kept, rows_by, value_follows}
use Rattle.rp_protocol.specs.Within.{AreCells, IsCell}
use Rattle.rp_known.specs.Known.{Known}
use Rattle.rp_known.specs.Named.{AreNamed, IsNamed, KnownIsNamed}
use Rattle.rp_known.specs.Plans.{measured, setting_of, shown_alone, shown_in}
use Rattle.rp_known.specs.Walk.{known}
use Rattle.rp_compile.specs.Compiled.{IsCompiled}
use Rattle.rp_named_answers.specs.NamedAnswers.{AreRowsOfCells, CellsStayWithin, IsOfCells}
use Rattle.rp_named_answers.proofs.Literals.{HoldsCells, measures_hold}
use Rattle.rp_named_answers.proofs.Numbers.{extreme_within, fitted_within, on_numbers_within, sum_within}

-- a cell that is ready has 64 bits
abbrev IsWithin : Cell → Type 0
IsWithin (Ready v) = IsCell v
IsWithin Open = ⊤

-- what each has that is found at a place
found_at : {X : Type 0} (P : X → Type 0) (xs : List X) → All P xs → (i : ℕ) (x : X) → slice_get xs i ≡ Some x → P x
found_at P xs all i x e = rw (← get_or_from_slice_get xs i x x e) (All-get_or P xs i x (slice_get_within xs i x e) all)

-- ---- cells

value_within : (o : Option Value) → ((v : Value) → o ≡ Some v → IsCell v) → IsCell (or_null o)
value_within None h = tt
value_within (Some v) h = h v refl

at_column : (cells : List Value) → AreCells cells → (column : ℕ) → IsCell (or_null (cell_at cells column))
at_column cells all column = go (column == 0)
  where
    go : (b : Bool) → IsCell (or_null (cond b None (slice_get cells (column - 1))))
    go true = tt
    go false = value_within (slice_get cells (column - 1)) (found_at IsCell cells all (column - 1))

module _ (rows : Rows) (all : AreRowsOfCells rows) where
  in_row : (column : ℕ) (o : Option (List Value)) → ((r : List Value) → o ≡ Some r → AreCells r) → IsCell (or_null (cell_in o column))
  in_row column None h = tt
  in_row column (Some r) h = at_column r (h r refl) column

  pub cell_within : (column row : ℕ) → IsCell (cell rows column row)
  cell_within column row = go (row == 0)
    where
      go : (b : Bool) → IsCell (or_null (cell_in (cond b None (slice_get rows (row - 1))) column))
      go true = tt
      go false = in_row column (slice_get rows (row - 1)) (found_at AreCells rows all (row - 1))

  past_within : (e : End) → IsWithin (past_the_end e)
  past_within OpenEnd = tt
  past_within ClosedEnd = tt

  there_within : (e : End) (column row : ℕ) → IsWithin (cell_there rows e column row)
  there_within e column row = go (nat_le row (length rows))
    where
      go : (b : Bool) → IsWithin (cond b (Ready (cell rows column row)) (past_the_end e))
      go true = cell_within column row
      go false = past_within e

  after_within : (e : End) (column : ℕ) (step : Step) (row : ℕ) → IsWithin (cell_after rows e column step row)
  after_within e column (Ahead j) row = there_within e column _
  after_within e column (Back j) row = go (nat_lt j row)
    where
      go : (b : Bool) → IsWithin (cond b (cell_there rows e column (row - j)) (Ready Null))
      go true = there_within e column (row - j)
      go false = tt

  from_within : (e : End) (column : ℕ) (step : Step) (o : Option ℕ) → IsWithin (cell_from rows e column step o)
  from_within e column step None = tt
  from_within e column step (Some row) = after_within e column step row

  cells_within : (column : ℕ) (at : List ℕ) → AllByRecursion IsCell (map (cell rows column) at)
  cells_within column [] = tt
  cells_within column (row ∷ more) = (cell_within column row, cells_within column more)

  aggregate_within : (f : Function) (at : List ℕ) → IsCell (aggregate rows f at)
  aggregate_within Listed at = tt
  aggregate_within RowCount at = fitted_within (pos (length at))
  aggregate_within (Count n) at = fitted_within (pos (length (present (map (cell rows n) at))))
  aggregate_within (Sum n) at = sum_within (numbers (map (cell rows n) at))
  aggregate_within (Min n) at = extreme_within Less Null (map (cell rows n) at) tt (cells_within n at)
  aggregate_within (Max n) at = extreme_within Greater Null (map (cell rows n) at) tt (cells_within n at)

-- ---- the values of measures

calculated_within : (o : Operation) (a b : Cell) → IsWithin (calculated o a b)
calculated_within o Open b = tt
calculated_within o (Ready a) Open = tt
calculated_within Plus (Ready a) (Ready b) = on_numbers_within ◌+ℤ◌ a b
calculated_within Minus (Ready a) (Ready b) = on_numbers_within ◌-ℤ◌ a b
calculated_within Times (Ready a) (Ready b) = on_numbers_within ◌*ℤ◌ a b

name_there : (names : List Value) (i : ℕ) → AllByRecursion IsCell names → IsCell (or_null (slice_get names i))
name_there [] i h = tt
name_there (n ∷ ns) zero h = h.0
name_there (n ∷ ns) (suc i) h = name_there ns i h.1

name_within : (names : List Value) (o : Option Label) → AllByRecursion IsCell names → IsCell (name_of names o)
name_within names None h = tt
name_within names (Some l) h = name_there names l.var h

module _ (s : Setting) (all : AreRowsOfCells s.rows) where
  total_within : (is_final : Bool) (o : Option PlainTotal) → IsCell (aggregate_by (bare s) is_final o)
  total_within is_final None = tt
  total_within is_final (Some t) = aggregate_within s.rows all t.function (rows_by t.members s.start (seen_labels (bare s) is_final))

  formula_within : (f : Formula) → HoldsCells f → IsWithin (formula_value (bare s) (kept s) f)
  formula_within (F.Literal v) h = h
  formula_within (F.Cell n) h = from_within s.rows all s.ending n.column n.step (place_in n.edge n.places (among_by (bare s) (kept s) n.is_final n.rows_of))
  formula_within (F.Aggregated number is_final) h = total_within is_final (slice_get (kept s) number)
  formula_within F.MatchNumber h = fitted_within (pos s.number)
  formula_within (F.Classifier names) h = name_within names (slice_get s.labels (s.current - s.start)) h
  formula_within (F.Arithmetic o a b) h = calculated_within o (formula_value (bare s) (kept s) a) (formula_value (bare s) (kept s) b)
  formula_within (F.Compare c a b) h = tt
  formula_within (F.IsNull a) h = tt
  formula_within (F.Not a) h = tt
  formula_within (F.And a b) h = tt
  formula_within (F.Or a b) h = tt

  measured_within : (o : Option Expr) → ((e : Expr) → o ≡ Some e → HoldsCells (value_formula e)) → IsWithin (measured s o)
  measured_within None h = tt
  measured_within (Some e) h = subst IsWithin (sym (value_follows s e)) (formula_within (value_formula e) (h e refl))

-- ---- output rows

named_within : (shown : Source → Cell) → ((from : Source) → IsWithin (shown from)) → (columns : List OutputColumn) (cells : List Value) → AreNamed shown columns cells → AllByRecursion IsCell cells
named_within shown within [] [] h = tt
named_within shown within [] (v ∷ vs) h = absurd h
named_within shown within (o ∷ os) [] h = absurd h
named_within shown within (o ∷ os) (v ∷ vs) h = (subst IsWithin h.0 (within o.from), named_within shown within os vs h.1)

module _ (q : QueryData) (measures : All (λ e. HoldsCells (value_formula e)) q.plan.measures.items) (p : Known) (all : AreRowsOfCells p.rows) where
  shown_within : (s : Setting) → s.rows ≡ p.rows → (from : Source) → IsWithin (shown_in q s from)
  shown_within s same (source.Column n) = cell_within s.rows (subst AreRowsOfCells (sym same) all) n s.current
  shown_within s same (source.Measure i) =
      measured_within s (subst AreRowsOfCells (sym same) all) (slice_get q.plan.measures.items i) (found_at (λ e. HoldsCells (value_formula e)) q.plan.measures.items measures i)

  alone_within : (row : ℕ) (from : Source) → IsCell (shown_alone p.rows row from)
  alone_within row (source.Column n) = cell_within p.rows all n row
  alone_within row (source.Measure i) = tt

  pub item_within : (x : Item) → IsNamed q p x → IsOfCells x
  item_within (Row (Some number) cells) h =
      let s = setting_of q p h.place.start h.labels number h.row in
      All-from_recursion IsCell cells (named_within (shown_in q s) (shown_within s refl) q.output.items cells h.named)
  item_within (Row None cells) h =
      All-from_recursion IsCell cells (named_within (λ from. Ready (shown_alone p.rows h.place.start from)) (alone_within h.place.start) q.output.items cells h.named)
  item_within (Fault fault) h = tt
  item_within EndItem h = tt

pub row_within : (clause : List ℕ) (columns : List Column) (q : QueryData) (p : Known) → IsCompiled clause columns q → AreRowsOfCells p.rows → (x : Item) → IsNamed q p x → IsOfCells x
row_within clause columns q p compiled all = item_within q (measures_hold compiled.clause clause columns q compiled.is) p all

pub cells_stay : KnownIsNamed → CellsStayWithin
cells_stay named clause columns q p compiled all =
    All-weaker (IsNamed q p) IsOfCells (row_within clause columns q p compiled all) (known q p) (named q p)
