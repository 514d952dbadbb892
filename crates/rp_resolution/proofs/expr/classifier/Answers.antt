use Rattle.std.proofs.Common.{rules, ◌≡◌, ◌∙◌, map, ap, refl, sym, append-nil}
use Rattle.rp_tree.specs.Terms.{Classifier}
use Rattle.rp_value.specs.declared.value.Kind.TheVariants as kind
use Rattle.rp_query.specs.declared.plan.Expr.TheOpen as E
use Rattle.rp_query.specs.declared.plan.Expr.TheVariants as V
use Rattle.rp_query.specs.declared.plan.Expr.TheFolds.{fold-roll-Expr}
use Rattle.rp_query.specs.Formulas as formula
use Rattle.rp_query.specs.Formulas.{Formula, plain_total, value_formula, value_step}
use Rattle.rp_resolution.specs.Context.{context_of}
use Rattle.rp_resolution.specs.Resolved.{resolved}
use Rattle.rp_resolution.specs.Sorts.{Valued}
use Rattle.rp_resolution.proofs.Telling.{telling}
use Rattle.rp_resolution.proofs.Chains.{value_checks}
use Rattle.rp_resolution.proofs.expr.classifier.Goals as goal

pub returns-in_err-classes : goal.returns-in_err-classes
returns-in_err-classes c = search (rules, telling)

pub returns : goal.returns
returns c =
    let x = context_of c.args.names.now in
    let before = map plain_total c.args.totals.now.items in
    let meant : value_formula (V.Classifier c.in_ok-classes.classes) ≡ resolved x before (Classifier c.args.at) = (ap value_formula (sym (V.rolls-Classifier c.in_ok-classes.classes)) ∙ fold-roll-Expr Formula value_step (E.Classifier c.in_ok-classes.classes)) ∙ ap formula.Classifier (search rules) in
    value_checks x before before (Classifier c.args.at) (Valued kind.Text) (value_formula (V.Classifier c.in_ok-classes.classes)) c.valued.result
    c.in_ok-require.ensures.0 refl meant (sym (append-nil before)) c.valued.ensures
