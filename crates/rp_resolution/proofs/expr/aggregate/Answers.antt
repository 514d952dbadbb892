use Rattle.std.proofs.Common.{rules, ◌≡◌, ◌∙◌, map, [], ◌∷◌, ◌++◌, ap, length, refl}
use Rattle.std.proofs.lemmas.List.{map_push, length-map}
use Rattle.rp_tree.specs.Terms.{Aggregated}
use Rattle.rp_query.specs.Formulas.{plain_total, value_formula}
use Rattle.rp_resolution.specs.Context.{context_of}
use Rattle.rp_resolution.specs.ExprFaults.{scope_faults, function_faults}
use Rattle.rp_resolution.specs.Resolved.{resolved}
use Rattle.rp_resolution.specs.Sorts.{Valued}
use Rattle.rp_resolution.proofs.Telling.{telling, none_in_both}
use Rattle.rp_resolution.proofs.Chains.{value_checks}
use Rattle.rp_resolution.proofs.expr.aggregate.Goals as goal

pub returns-in_err-allow_scope : goal.returns-in_err-allow_scope
returns-in_err-allow_scope c = search (rules, telling)

pub returns-in_err-total : goal.returns-in_err-total
returns-in_err-total c = search (rules, telling)

pub returns-in_err-push : goal.returns-in_err-push
returns-in_err-push c = search (rules, telling)

pub returns : goal.returns
returns c =
    let x = context_of c.args.names.now in
    let before = map plain_total c.args.totals.now.items in
    let a = c.args.written.now in
    let pushed : map plain_total c.push.new.self.items ≡ before ++ plain_total c.in_ok-total.total ∷ [] = rw c.in_ok-push.ensures.items (map_push plain_total c.args.totals.now.items c.in_ok-total.total) in
    let many : length before ≡ c.len-number.result = search (rules, length-map c.args.totals.now.items plain_total) in
    let clean = none_in_both (scope_faults x a.scope) (function_faults x a.at a.function) c.in_ok-allow_scope.ensures.0 c.in_ok-total.ensures.0 in
    let meant : value_formula c.numbered.result ≡ resolved x before (Aggregated a) = c.numbered.ensures ∙ rw (many, c.is_final-is_final.ensures) refl in
    let added = pushed ∙ ap (λ t. before ++ t ∷ []) c.in_ok-total.ensures.1.0 in
    value_checks x before (map plain_total c.push.new.self.items) (Aggregated a) (Valued c.in_ok-total.kind) (value_formula c.numbered.result) c.valued.result
    clean c.in_ok-total.ensures.1.1 meant added c.valued.ensures
