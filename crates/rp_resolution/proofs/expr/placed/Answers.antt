use Rattle.std.proofs.Common.{◌≡◌, ◌∙◌, map, ap, sym}
use Rattle.rp_tree.specs.Paths.{path_of}
use Rattle.rp_tree.specs.Terms.{Navigation}
use Rattle.rp_query.specs.declared.plan.Expr.TheOpen as E
use Rattle.rp_query.specs.declared.plan.Expr.TheVariants as V
use Rattle.rp_query.specs.declared.plan.Expr.TheFolds.{fold-roll-Expr}
use Rattle.rp_query.specs.Formulas as formula
use Rattle.rp_query.specs.Formulas.{Formula, plain_total, value_formula, value_step}
use Rattle.rp_resolution.specs.Context.{context_of}
use Rattle.rp_resolution.specs.Resolved.{resolved}
use Rattle.rp_resolution.specs.Sorts.{Valued}
use Rattle.rp_resolution.proofs.Chains.{value_checks}
use Rattle.rp_resolution.proofs.expr.placed.Goals as goal

pub returns : goal.returns
returns c =
    let x = context_of c.args.names.now in
    let before = map plain_total c.args.totals.now.items in
    let meant : value_formula (V.Navigation c.in_ok-place.place) ≡ resolved x before (Navigation (path_of c.args.path.now)) = (ap value_formula (sym (V.rolls-Navigation c.in_ok-place.place)) ∙ fold-roll-Expr Formula value_step (E.Navigation c.in_ok-place.place)) ∙ ap formula.Cell c.in_ok-place.ensures.1.0 in
    value_checks x before (map plain_total c.navigation.new.totals.items) (Navigation (path_of c.args.path.now)) (Valued c.in_ok-place.kind) (value_formula (V.Navigation c.in_ok-place.place)) c.valued.result
    c.in_ok-place.ensures.0 c.in_ok-place.ensures.1.1 meant c.in_ok-place.ensures.1.2 c.valued.ensures
