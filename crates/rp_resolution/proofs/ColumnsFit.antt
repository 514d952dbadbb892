-- Each output column of a clause without faults is a column of the table or a measure, of the kind that it tells.
use Rattle.std.proofs.Common.{◌≡◌, ◌∙◌, ℕ, suc, ◌+◌, Bool, true, false, ◌||◌, Option, None, Some, List, [], ◌∷◌, ◌++◌, map, length, length-append, refl, sym, ap, arith, append_assoc, add-one, cond}
use Rattle.std.specs.Prelude.{is_some, option_map, slice_get}
use Rattle.std.specs.List.{AllByRecursion}
use Rattle.std.proofs.lemmas.Option.{slice_get-map}
use Rattle.rp_value.specs.declared.table.Column.{Column}
use Rattle.rp_value.specs.declared.value.Kind.{Kind}
use Rattle.rp_tree.specs.declared.tree.RowsPerMatch.{RowsPerMatch}
use Rattle.rp_tree.specs.declared.tree.RowsPerMatch.TheVariants.{One, AllShowEmpty, AllOmitEmpty, AllWithUnmatched}
use Rattle.rp_tree.specs.Clauses.{MeasureTree}
use Rattle.rp_query.specs.declared.plan.Expr.{Expr}
use Rattle.rp_query.specs.declared.query.OutputColumn.{OutputColumn}
use Rattle.rp_query.specs.declared.query.QueryData.{QueryData}
use Rattle.rp_query.specs.declared.query.Source.{Source}
use Rattle.rp_query.specs.declared.query.Source.TheVariants as source
use Rattle.rp_query.specs.Formulas.{Formula, PlainTotal, value_formula}
use Rattle.rp_query.specs.Kinds.{are_texts, column_kind, has_kind, is_kind}
use Rattle.rp_query.specs.Sound.{source_is_of, is_of_kind, plain_totals}
use Rattle.rp_resolution.specs.PartFaults.{each_after, measure_faults}
use Rattle.rp_resolution.specs.ExprFaults.{expr_faults}
use Rattle.rp_resolution.specs.Context.{Context, column_named, is_name}
use Rattle.rp_resolution.specs.Output.{kind_or_text, value_kind, key_column, key_columns, measure_columns, other_column, other_columns, in_order}
use Rattle.rp_resolution.specs.Queries.{formulas, totals_of, terms_of_measures}
use Rattle.rp_resolution.specs.Resolved.{number_at, resolved, totals}
use Rattle.rp_resolution.specs.Sorts.{Sort, Valued, Truth, kind_at, sort_of, may_be_value}
use Rattle.rp_resolution.specs.Variables.{is_among}
use Rattle.rp_resolution.proofs.Clean.{none_left, none_right, holds, found_within}
use Rattle.rp_resolution.proofs.KindsAgree.{fits_sort, same_kind, there, behind, well, in_turn, next_turn}
use Rattle.rp_resolution.proofs.VariablesMeant.{all_both}

-- the measures are these formulas
abbrev pub fits_at : List Column → List PlainTotal → Kind → Option Formula → Bool
fits_at columns all k None = false
fits_at columns all k (Some f) = has_kind columns all k f

abbrev pub fits : List Column → List PlainTotal → List Formula → Kind → Source → Bool
fits columns all fs k (source.Column n) = is_kind k (column_kind columns n)
fits columns all fs k (source.Measure i) = fits_at columns all k (slice_get fs i)

abbrev pub AllFit : List Column → List PlainTotal → List Formula → List OutputColumn → Type 0
AllFit columns all fs output = AllByRecursion (λ o. fits columns all fs o.kind o.from ≡ true) output

pub source_by_formula : (q : QueryData) (k : Kind) (from : Source) → source_is_of q k from ≡ fits q.table (plain_totals q.plan) (map value_formula q.plan.measures.items) k from
source_by_formula q k (source.Column n) = refl
source_by_formula q k (source.Measure i) =
    go (slice_get q.plan.measures.items i) ∙ ap (fits_at q.table (plain_totals q.plan) k) (sym (slice_get-map value_formula q.plan.measures.items i))
  where
    go : (o : Option Expr) → is_of_kind q k o ≡ fits_at q.table (plain_totals q.plan) k (option_map value_formula o)
    go None = refl
    go (Some e) = refl

module _ (columns : List Column) (all : List PlainTotal) (fs : List Formula) where
  column_fits : (name : List ℕ) → is_some (column_named name columns) ≡ true → fits columns all fs (key_column columns name).kind (key_column columns name).from ≡ true
  column_fits name e = go (column_named name columns) refl e
    where
      go : (o : Option ℕ) → column_named name columns ≡ o → is_some o ≡ true → is_kind (kind_or_text (kind_at columns o)) (column_kind columns (number_at o)) ≡ true
      go None is e = absurd cc
      go (Some k) is e = let h = there columns k (found_within (λ c. is_name name c.name) columns k is) in rw (add-one, h.1) (same_kind h.0.kind)

  pub columns_fit : (names : List (List ℕ)) → AllByRecursion (λ name. is_some (column_named name columns) ≡ true) names → AllFit columns all fs (key_columns columns names)
  columns_fit [] h = tt
  columns_fit (name ∷ names) h = (column_fits name h.0, columns_fit names h.1)

  module _ (partition order : List (List ℕ)) where
    other_fits : (before cs : List Column) (c : Column) (number : ℕ) → number ≡ suc (length before) → columns ≡ before ++ c ∷ cs → AllFit columns all fs (other_column partition order number c)
    other_fits before cs c number at is = go (is_among c.name partition || is_among c.name order)
      where
        here : column_kind columns number ≡ Some c.kind
        here =
            ap (column_kind columns) at ∙ ap (λ (xs : List Column). option_map (λ (x : Column). x.kind) (slice_get xs (length before))) is
            ∙ ap (λ (o : Option Column). option_map (λ (x : Column). x.kind) o) (behind before cs c)

        go : (b : Bool) → AllFit columns all fs (cond b [] (record { name = c.name; kind = c.kind; from = source.Column number } ∷ []))
        go true = tt
        go false = (ap (is_kind c.kind) here ∙ same_kind c.kind, tt)

    pub others_fit : (before cs : List Column) (number : ℕ) → number ≡ suc (length before) → columns ≡ before ++ cs → AllFit columns all fs (other_columns partition order number cs)
    others_fit before [] number at is = tt
    others_fit before (c ∷ cs) number at is =
        all_both (λ o. fits columns all fs o.kind o.from ≡ true) (other_column partition order number c) (other_columns partition order (number + 1) cs)
        (other_fits before cs c number at is)
        (others_fit (before ++ c ∷ []) cs (number + 1) (omega (arith, at, length-append before (c ∷ []))) (is ∙ sym (append_assoc before (c ∷ []) cs)))

  pub in_order_fits : (rows : RowsPerMatch) (partition order measures others : List OutputColumn) → AllFit columns all fs partition → AllFit columns all fs order
      → AllFit columns all fs measures → AllFit columns all fs others → AllFit columns all fs (in_order rows partition order measures others)
  in_order_fits rows partition order measures others p o m r = go rows
    where
      both : (xs ys : List OutputColumn) → AllFit columns all fs xs → AllFit columns all fs ys → AllFit columns all fs (xs ++ ys)
      both xs ys h k = all_both (λ o. fits columns all fs o.kind o.from ≡ true) xs ys h k

      whole : AllFit columns all fs (((partition ++ order) ++ measures) ++ others)
      whole = both ((partition ++ order) ++ measures) others (both (partition ++ order) measures (both partition order p o) m) r

      go : (rows : RowsPerMatch) → AllFit columns all fs (in_order rows partition order measures others)
      go One = both partition measures p m
      go AllShowEmpty = whole
      go AllOmitEmpty = whole
      go AllWithUnmatched = whole

sort_fits : (columns : List Column) (all : List PlainTotal) (s : Sort) (f : Formula) → may_be_value (Some s) ≡ true → fits_sort columns all s f ≡ true → has_kind columns all (value_kind (Some s)) f ≡ true
sort_fits columns all (Valued k) f e p = p
sort_fits columns all Truth f e p = absurd cc

module _ (x : Context) (texts : are_texts x.classes ≡ true) (after all : List PlainTotal) (fs : List Formula) where
  pub measures_fit : (ms earlier : List MeasureTree) (before : List PlainTotal) (done : List Formula) (place : ℕ) → place ≡ length done
      → fs ≡ done ++ formulas x before (terms_of_measures ms) → each_after (measure_faults x) earlier ms ≡ [] → all ≡ before ++ (totals_of x (terms_of_measures ms) ++ after)
      → AllFit x.columns all fs (measure_columns x place ms)
  measures_fit [] earlier before done place at are e is = tt
  measures_fit (m ∷ ms) earlier before done place at are e is =
      let clean = none_left (measure_faults x earlier m) _ e in
      let those = totals_of x (terms_of_measures ms) in
      let f = resolved x before m.term in
      let h = well x texts m.term before (those ++ after) (none_left (expr_faults x m.term) _ clean) in
      let may = holds _ _ _ (none_right (expr_faults x m.term) _ clean) in
      let found : slice_get fs place ≡ Some f = ap (λ (gs : List Formula). slice_get gs place) are ∙ ap (slice_get (done ++ formulas x before (terms_of_measures (m ∷ ms)))) at ∙ behind done _ f in (
        ap (fits_at x.columns all (value_kind (sort_of x m.term))) found ∙ ap (λ s. has_kind x.columns all (value_kind s) f) h.1
            ∙ sort_fits x.columns all h.0 f (sym (ap may_be_value h.1) ∙ may) (rw (← in_turn x texts after all before (totals x m.term) those is) h.2),
        measures_fit ms (earlier ++ m ∷ []) (before ++ totals x m.term) (done ++ f ∷ []) (place + 1) (omega (arith, at, length-append done (f ∷ [])))
            (are ∙ sym (append_assoc done (f ∷ []) (formulas x (before ++ totals x m.term) (terms_of_measures ms)))) (none_right (measure_faults x earlier m) _ e)
            (next_turn x texts after all before (totals x m.term) those is),
      )
