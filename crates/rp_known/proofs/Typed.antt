-- The cells of an output row are null or of the kinds of the output columns.
use Rattle.std.proofs.Common.{◌≡◌, ℕ, true, List, [], ◌∷◌, Option, Some, None, refl, sym, subst}
use Rattle.std.specs.Prelude.{slice_get}
use Rattle.std.specs.List.{AllByRecursion}
use Rattle.std.proofs.lemmas.List.Elements.{All-weaker, recursion_from_All}
use Rattle.rp_value.specs.declared.value.Kind.{Kind}
use Rattle.rp_value.specs.declared.value.Kind.TheVariants.{Int, Text}
use Rattle.rp_value.specs.declared.value.Value.{Value}
use Rattle.rp_value.specs.declared.value.Value.TheVariants.{Null}
use Rattle.rp_value.specs.Rows.{admits}
use Rattle.rp_query.specs.declared.item.Item.{Item}
use Rattle.rp_query.specs.declared.item.Item.TheVariants.{Row, Fault, End}
use Rattle.rp_query.specs.declared.plan.Expr.{Expr}
use Rattle.rp_query.specs.declared.query.OutputColumn.{OutputColumn}
use Rattle.rp_query.specs.declared.query.QueryData.{QueryData}
use Rattle.rp_query.specs.declared.query.Source.{Source}
use Rattle.rp_query.specs.declared.query.Source.TheVariants as source
use Rattle.rp_query.specs.Keys.{AreRowsOver}
use Rattle.rp_query.specs.QueryView.{totals_in}
use Rattle.rp_query.specs.Sound.{IsSound, source_is_of, is_of_kind}
use Rattle.rp_eval.specs.declared.cell.Cell.{Cell}
use Rattle.rp_eval.specs.declared.cell.Cell.TheVariants.{Ready}
use Rattle.rp_eval.specs.Typed.{IsOfKind, ValuesHaveKinds, CellsHaveKinds}
use Rattle.rp_eval.specs.ValueOf.{Setting}
use Rattle.rp_known.specs.Known.{Known}
use Rattle.rp_known.specs.Named.{AreNamed, IsNamed, KnownIsNamed}
use Rattle.rp_known.specs.Plans.{measured, setting_of, shown_in, shown_alone}
use Rattle.rp_known.specs.Typed.{AreTyped, IsTyped, KnownIsTyped}
use Rattle.rp_known.specs.Walk.{known}

null_fits : (k : Kind) → admits k Null ≡ true
null_fits Int = refl
null_fits Text = refl

-- cells that are what columns have, which is of their kinds
typed : (shown : Source → Cell) (columns : List OutputColumn) (cells : List Value) → AllByRecursion (λ o. IsOfKind o.kind (shown o.from)) columns → AreNamed shown columns cells → AreTyped columns cells
typed shown [] [] h named = tt
typed shown [] (v ∷ vs) h named = named
typed shown (o ∷ os) [] h named = named
typed shown (o ∷ os) (v ∷ vs) h named = (subst (IsOfKind o.kind) named.0 h.0, typed shown os vs h.1 named.1)

module _ (cells : CellsHaveKinds) (values : ValuesHaveKinds) (q : QueryData) (sound : IsSound q) (p : Known) (over : AreRowsOver q.table p.rows) where
  module _ (s : Setting) (rows : s.rows ≡ p.rows) (totals : s.totals ≡ totals_in q) where
    measure_fits : (k : Kind) (o : Option Expr) → is_of_kind q k o ≡ true → IsOfKind k (measured s o)
    measure_fits k None e = absurd cc
    measure_fits k (Some x) e = values q.table s k x (subst (AreRowsOver q.table) (sym rows) over) (rw totals e)

    shown_fits : (k : Kind) (from : Source) → source_is_of q k from ≡ true → IsOfKind k (shown_in q s from)
    shown_fits k (source.Column n) e = cells q.table s.rows k n s.current (subst (AreRowsOver q.table) (sym rows) over) e
    shown_fits k (source.Measure i) e = measure_fits k (slice_get q.plan.measures.items i) e

    all_fit : (columns : List OutputColumn) → AllByRecursion (λ o. source_is_of q o.kind o.from ≡ true) columns → AllByRecursion (λ o. IsOfKind o.kind (shown_in q s o.from)) columns
    all_fit [] h = tt
    all_fit (o ∷ os) h = (shown_fits o.kind o.from h.0, all_fit os h.1)

  alone_fits : (row : ℕ) (k : Kind) (from : Source) → source_is_of q k from ≡ true → admits k (shown_alone p.rows row from) ≡ true
  alone_fits row k (source.Column n) e = cells q.table p.rows k n row over e
  alone_fits row k (source.Measure i) e = null_fits k

  all_alone : (row : ℕ) (columns : List OutputColumn) → AllByRecursion (λ o. source_is_of q o.kind o.from ≡ true) columns → AllByRecursion (λ o. IsOfKind o.kind (Ready (shown_alone p.rows row o.from))) columns
  all_alone row [] h = tt
  all_alone row (o ∷ os) h = (alone_fits row o.kind o.from h.0, all_alone row os h.1)

  given : AllByRecursion (λ o. source_is_of q o.kind o.from ≡ true) q.output.items
  given = recursion_from_All (λ o. source_is_of q o.kind o.from ≡ true) q.output.items sound.output

  item_typed : (x : Item) → IsNamed q p x → IsTyped q x
  item_typed (Row (Some number) vs) h =
      let s = setting_of q p h.place.start h.labels number h.row in
      typed (shown_in q s) q.output.items vs (all_fit s refl refl q.output.items given) h.named
  item_typed (Row None vs) h = typed (λ from. Ready (shown_alone p.rows h.place.start from)) q.output.items vs (all_alone h.place.start q.output.items given) h.named
  item_typed (Fault fault) h = tt
  item_typed End h = tt

pub known_typed : CellsHaveKinds → ValuesHaveKinds → KnownIsNamed → KnownIsTyped
known_typed cells values named q p sound over = All-weaker (IsNamed q p) (IsTyped q) (item_typed cells values q sound p over) (known q p) (named q p)
