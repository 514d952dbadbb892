use Rattle.std.proofs.Common.{rules, ◌≡◌, ◌∙◌, ℕ, ◌+◌, List, [], ◌∷◌, ◌++◌, map, drop, refl, sym, ap, append_assoc}
use Rattle.std.proofs.lemmas.List.{append-nil, drop_all, map_push}
use Rattle.rp_value.specs.declared.value.Kind.{Kind}
use Rattle.rp_query.specs.declared.query.OutputColumn.{OutputColumn}
use Rattle.rp_query.specs.declared.query.Source.TheVariants as source
use Rattle.rp_resolution.proofs.Telling.{telling}
use Rattle.rp_tree.specs.Clauses.{measure_tree}
use Rattle.rp_tree.specs.Terms.{term_of}
use Rattle.rp_resolution.specs.PartFaults.{measure_faults}
use Rattle.rp_resolution.specs.Context.{context_of}
use Rattle.rp_query.specs.Formulas.{plain_total, value_formula}
use Rattle.rp_resolution.specs.Output.{measure_column, measure_columns}
use Rattle.rp_resolution.specs.Queries.{terms_of_measures}
use Rattle.rp_resolution.proofs.Each.{begins, cut, goes_on, goes_wrong, ends}
use Rattle.rp_resolution.proofs.Terms.{none_done, one_done, all_done}
use Rattle.rp_resolution.proofs.expressions.measures.Goals as goal

abbrev measure_of_kind : List ℕ → Kind → ℕ → OutputColumn
measure_of_kind name k place = record { name = name; kind = k; from = source.Measure place }

pub loop-i-init : goal.loop-i-init
loop-i-init c =
    let x = context_of c.args.names.now in
    record { clean = begins measure_tree (measure_faults x) c.args.written.now; done = rw c.new-exprs.ensures.items (none_done x (map plain_total c.args.totals.now.items) (terms_of_measures (map measure_tree c.args.written.now))); shown = refl }

pub returns-in_err-typed : goal.returns-in_err-typed
returns-in_err-typed c =
    let told = goes_wrong measure_tree (measure_faults (context_of c.args.names.now)) c.args.written.now c.loop-i.i c.index-written-i.result c.in_err-typed.field-0.0 c.loop-i-test.true c.index-written-i.is c.loop-i.invariant.clean c.in_err-typed.ensures in
    search (rules, told)

pub returns-in_err-push : goal.returns-in_err-push
returns-in_err-push c = search (rules, telling)

pub returns-in_err-column : goal.returns-in_err-column
returns-in_err-column c = search (rules, telling)

pub returns-in_err-push-2 : goal.returns-in_err-push-2
returns-in_err-push-2 c = search (rules, telling)

pub loop-i-preserved : goal.loop-i-preserved
loop-i-preserved c =
    let x = context_of c.args.names.now in
    let xs = c.args.written.now in
    let i = c.loop-i.i in
    let m = c.index-written-i.result in
    let next = cut measure_tree xs i m c.loop-i-test.true c.index-written-i.is in
    let so = rw next at c.loop-i.invariant.done in
    let old = c.loop-i.shown.items in
    let rest = measure_columns x (i + 1) (map measure_tree (drop (i + 1) xs)) in
    let column : c.in_ok-column.column ≡ measure_column x i (measure_tree m) = c.in_ok-column.ensures ∙ ap (λ (k : Kind). measure_of_kind m.name.text k i) c.in_ok-typed.ensures.1.1 in
    record {
      clean = goes_on measure_tree (measure_faults x) xs i m c.loop-i-test.true c.index-written-i.is c.loop-i.invariant.clean c.in_ok-typed.ensures.0;
      done = rw (c.in_ok-push.ensures.items, map_push value_formula c.loop-i.exprs.items c.in_ok-typed.typed.expr)
          (one_done x (map plain_total c.args.totals.now.items) (terms_of_measures (map measure_tree xs)) (map value_formula c.loop-i.exprs.items) (map plain_total c.loop-i.totals.items) (map plain_total c.measured.new.totals.items) (term_of m.expr) (terms_of_measures (map measure_tree (drop (i + 1) xs))) (value_formula c.in_ok-typed.typed.expr) so c.in_ok-typed.ensures.1.0.0 c.in_ok-typed.ensures.1.0.1);
      shown = ap (λ z. z ++ rest) (c.in_ok-push-2.ensures.items ∙ ap (λ o. old ++ o ∷ []) column)
          ∙ (append_assoc old (measure_column x i (measure_tree m) ∷ []) rest ∙ (ap (λ z. old ++ measure_columns x i z) (sym next) ∙ c.loop-i.invariant.shown));
    }

pub returns : goal.returns
returns c =
    let x = context_of c.args.names.now in
    let xs = c.args.written.now in
    let so = rw (drop_all c.loop-i.i xs c.loop-i-test.false) at c.loop-i.invariant.done in (
      ends measure_tree (measure_faults x) xs c.loop-i.i c.loop-i-test.false c.loop-i.invariant.clean,
      (
        all_done x (map plain_total c.args.totals.now.items) (terms_of_measures (map measure_tree xs)) (map value_formula c.loop-i.exprs.items) (map plain_total c.loop-i.totals.items) so,
        sym (append-nil c.loop-i.shown.items) ∙ rw (drop_all c.loop-i.i xs c.loop-i-test.false) at c.loop-i.invariant.shown,
      ),
    )
