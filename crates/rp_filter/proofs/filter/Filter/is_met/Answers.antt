use Rattle.std.proofs.Common.{◌≡◌, ◌∙◌, ◌∷◌, [], ap, sym, Some}
use Rattle.std.specs.Prelude.{option_map}
use Rattle.rp_query.specs.Definitions.{definition_of}
use Rattle.rp_eval.specs.Entered.{plan_of}
use Rattle.rp_eval.specs.ValueOf.{Setting, judged, seen_as}
use Rattle.rp_filter.specs.Meets.{alone, meets_condition, only_label, was_true}
use Rattle.rp_filter.proofs.filter.Filter.is_met.Goals as goal

pub returns : goal.returns
returns c =
    let q = c.args.self.now.query in
    let row = c.args.row.now in
    let all = c.in_ok-rows.rows in
    let defined : definition_of q.plan 0 ≡ Some c.in-Some.defined.now = sym c.definition.ensures ∙ ap (option_map (λ x. x.now)) c.in-Some.is in
    let seen : Setting = record {
      rows = all.rows.items;
      ending = all.end;
      start = 1;
      labels = only_label ∷ [];
      current = 1;
      number = 0;
      totals = plan_of c.in_ok-totals.totals;
    } in
    let is_alone : seen ≡ alone q row = λ i. record {
      rows = c.in_ok-rows.ensures.rows i;
      ending = c.in_ok-rows.ensures.end i;
      start = 1;
      labels = only_label ∷ [];
      current = 1;
      number = 0;
      totals = c.in_ok-totals.ensures.plan i;
    } in
    c.was_true.ensures
    ∙ ap was_true (c.condition.ensures ∙ ap (λ s. seen_as (judged s c.in-Some.defined.now)) is_alone)
    ∙ ap (λ o. meets_condition q row o) (sym defined)
