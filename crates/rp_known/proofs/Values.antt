-- The values of measures, and the cells of a row, over rows that go on.
use Rattle.std.proofs.Common.{◌≡◌, ℕ, zero, suc, ◌+◌, ◌-◌, ◌≤◌, max, List, [], ◌∷◌, ◌++◌, length, length-append, Option, None, Some, refl, sym, ap, ◌∙◌, arith}
use Rattle.std.specs.Prelude.{slice_get}
use Rattle.std.proofs.lemmas.List.Elements.{All-get_or}
use Rattle.std.proofs.lemmas.Option.{slice_get_within, get_or_from_slice_get}
use Rattle.rp_value.specs.declared.value.Value.{Value}
use Rattle.rp_words.specs.declared.word.End.{End}
use Rattle.rp_words.specs.declared.word.End.TheVariants.{Open as OpenEnd, Closed as ClosedEnd}
use Rattle.rp_words.specs.declared.word.Label.{Label}
use Rattle.rp_query.specs.declared.plan.Expr.{Expr}
use Rattle.rp_query.specs.declared.query.OutputColumn.{OutputColumn}
use Rattle.rp_query.specs.declared.query.QueryData.{QueryData}
use Rattle.rp_query.specs.declared.query.Source.{Source}
use Rattle.rp_query.specs.declared.query.Source.TheVariants as source
use Rattle.rp_query.specs.Reach.{reach}
use Rattle.rp_query.specs.Sound.{IsSound}
use Rattle.rp_eval.specs.declared.cell.Cell.{Cell}
use Rattle.rp_eval.specs.declared.cell.Cell.TheVariants.{Ready, Open}
use Rattle.rp_eval.specs.Dropped.{row_known}
use Rattle.rp_eval.specs.Partition.{Rows, row_at, cell_in, or_null}
use Rattle.rp_eval.specs.ValueOf.{Setting}
use Rattle.rp_eval.specs.Laws.{LiesOnRows, over, CellStays, ValuesStay}
use Rattle.rp_eval.specs.GoesOn.{GoesOn}
use Rattle.rp_known.specs.Known.{Known, count}
use Rattle.rp_known.specs.WalkLaws.{Continues, GoesOnFrom}
use Rattle.rp_known.specs.Plans.{first_read, setting_of, before_ready, measured, shown_in, shown_alone, cells_in, cells_alone}

-- fewer rows are looked at
pub goes_on_later : (first first' : ℕ) (p p' : Known) → first ≤ first' → GoesOnFrom first p p' → GoesOnFrom first' p p'
goes_on_later first first' p p' le g = record { later = g.later; same = λ row from known. g.same row (omega arith) known }

-- ---- a continuation

open_closed : (e : End) → e ≡ OpenEnd → e ≡ ClosedEnd → ⊥
open_closed OpenEnd h k = cc
open_closed ClosedEnd h k = cc

get_append : (xs ys : Rows) (i : ℕ) → suc i ≤ length xs → slice_get (xs ++ ys) i ≡ slice_get xs i
get_append [] ys i h = absurd (omega (arith, h))
get_append (x ∷ xs) ys zero h = refl
get_append (x ∷ xs) ys (suc i) h = get_append xs ys i (omega (arith, h))

row_append : (xs ys : Rows) (row : ℕ) → 1 ≤ row → row ≤ length xs → row_at (xs ++ ys) row ≡ row_at xs row
row_append xs ys row one h = row_known (xs ++ ys) row one ∙ get_append xs ys (row - 1) (omega (arith, one, h)) ∙ sym (row_known xs row one)

pub continues_on : (p p' : Known) → Continues p p' → GoesOnFrom 1 p p'
continues_on p p' c =
    record {
      later = (omega (arith, ap length c.rows, length-append p.rows c.more), λ h. absurd (open_closed p.end c.open_before h));
      same = λ row from known. ap (λ rows. row_at rows row) c.rows ∙ row_append p.rows c.more row from known;
    }

-- ---- measures

ready_stays : (c c' : Cell) (o o' : Option (List Value)) → CellStays c c' → ((vs : List Value) → o ≡ Some vs → o' ≡ Some vs) → (vs : List Value) →
    before_ready c o ≡ Some vs → before_ready c' o' ≡ Some vs
ready_stays Open c' o o' h k vs e = cc
ready_stays (Ready v) c' None o' h k vs e = cc
ready_stays (Ready v) c' (Some us) o' h k vs e = ap (λ z. before_ready z o') h ∙ ap (λ z. before_ready (Ready v) z) (k us refl) ∙ e

goes_on_within : (first first' : ℕ) (p p' : Rows) (e e' : End) → first ≤ first' → GoesOn first p e p' e' → GoesOn first' p e p' e'
goes_on_within first first' p p' e e' le g = record { later = g.later; same = λ row from known. g.same row (omega arith) known }

-- ---- cells

-- what an output column has at the row of a match, over rows that go on
module _ (law : ValuesStay) (q : QueryData) (sound : IsSound q) (s : Setting) (on : LiesOnRows s) (p' : Rows) (e' : End) (g : GoesOn (max 1 (s.start - q.reach)) s.rows s.ending p' e')
    (same : row_at p' s.current ≡ row_at s.rows s.current) where
  measured_stays : (o : Option Expr) → ((x : Expr) → o ≡ Some x → reach x ≤ q.reach) → CellStays (measured s o) (measured (over s p' e') o)
  measured_stays None within = refl
  measured_stays (Some x) within =
      law s p' e' x on (goes_on_within (max 1 (s.start - q.reach)) (max 1 (s.start - reach x)) s.rows p' s.ending e' (omega (arith, within x refl)) g)

  measure_reach : (i : ℕ) (x : Expr) → slice_get q.plan.measures.items i ≡ Some x → reach x ≤ q.reach
  measure_reach i x e =
      rw (← get_or_from_slice_get q.plan.measures.items i x x e)
      (All-get_or (λ y. reach y ≤ q.reach) q.plan.measures.items i x (slice_get_within q.plan.measures.items i x e) sound.measures)

  shown_stays : (from : Source) → CellStays (shown_in q s from) (shown_in q (over s p' e') from)
  shown_stays (source.Column n) = ap (λ cells. Ready (or_null (cell_in cells n))) same
  shown_stays (source.Measure i) = measured_stays (slice_get q.plan.measures.items i) (measure_reach i)

  cells_stay : (columns : List OutputColumn) (vs : List Value) → cells_in q s columns ≡ Some vs → cells_in q (over s p' e') columns ≡ Some vs
  cells_stay [] vs e = e
  cells_stay (o ∷ os) vs e =
      ready_stays (shown_in q s o.from) (shown_in q (over s p' e') o.from) (cells_in q s os) (cells_in q (over s p' e') os) (shown_stays o.from) (cells_stay os) vs e

-- the cells of a match at a row, where they are ready
pub match_stays : ValuesStay → (q : QueryData) (p p' : Known) → IsSound q → (start : ℕ) (labels : List Label) (number row : ℕ) →
    1 ≤ start → start + length labels ≤ suc (count p) → GoesOnFrom (first_read q start) p p' → row_at p'.rows row ≡ row_at p.rows row → (vs : List Value) →
    cells_in q (setting_of q p start labels number row) q.output.items ≡ Some vs → cells_in q (setting_of q p' start labels number row) q.output.items ≡ Some vs
match_stays law q p p' sound start labels number row one known g same =
    cells_stay law q sound (setting_of q p start labels number row) (record { from_one = one; on_rows = omega (arith, known) }) p'.rows p'.end g same q.output.items

-- those of a row that is in no match
pub alone_stays : (p p' : Rows) (row : ℕ) (columns : List OutputColumn) → row_at p' row ≡ row_at p row → cells_alone p' row columns ≡ cells_alone p row columns
alone_stays p p' row [] e = refl
alone_stays p p' row (o ∷ os) e = rw (one o.from, alone_stays p p' row os e) refl
  where
    one : (from : Source) → shown_alone p' row from ≡ shown_alone p row from
    one (source.Column n) = ap (λ cells. or_null (cell_in cells n)) e
    one (source.Measure i) = refl
