use Rattle.std.proofs.Common.{◌≡◌, ◌∙◌, map, ap, refl, sym, append-nil}
use Rattle.rp_tree.specs.Terms.{MatchNumber}
use Rattle.rp_value.specs.declared.value.Kind.TheVariants as kind
use Rattle.rp_query.specs.declared.plan.Expr.TheOpen as E
use Rattle.rp_query.specs.declared.plan.Expr.TheVariants as V
use Rattle.rp_query.specs.declared.plan.Expr.TheFolds.{fold-roll-Expr}
use Rattle.rp_query.specs.Formulas.{Formula, plain_total, value_formula, value_step}
use Rattle.rp_resolution.specs.Context.{context_of}
use Rattle.rp_resolution.specs.Resolved.{resolved}
use Rattle.rp_resolution.specs.Sorts.{Valued}
use Rattle.rp_resolution.proofs.Chains.{value_checks}
use Rattle.rp_resolution.proofs.expr.match_number.Goals as goal

pub returns : goal.returns
returns c =
    let x = context_of c.args.names.now in
    let before = map plain_total c.args.totals.now.items in
    let meant : value_formula V.MatchNumber ≡ resolved x before (MatchNumber c.args.at) = ap value_formula (sym V.rolls-MatchNumber) ∙ fold-roll-Expr Formula value_step E.MatchNumber in
    value_checks x before before (MatchNumber c.args.at) (Valued kind.Int) (value_formula V.MatchNumber) c.valued.result
    c.in_ok-require.ensures.0 refl meant (sym (append-nil before)) c.valued.ensures
