use Rattle.std.proofs.Common.{rules, ◌≡◌, ◌∙◌, ℕ, List, map, ap, refl, sym, append-nil}
use Rattle.rp_tree.specs.Terms.{Literal}
use Rattle.rp_value.specs.declared.value.Kind.TheVariants as kind
use Rattle.rp_value.specs.declared.value.Value.TheVariants as value
use Rattle.rp_query.specs.declared.plan.Expr.TheOpen as E
use Rattle.rp_query.specs.declared.plan.Expr.TheVariants as V
use Rattle.rp_query.specs.declared.plan.Expr.TheFolds.{fold-roll-Expr}
use Rattle.rp_query.specs.Formulas as formula
use Rattle.rp_query.specs.Formulas.{Formula, plain_total, value_formula, value_step}
use Rattle.rp_resolution.specs.Context.{context_of}
use Rattle.rp_resolution.specs.Resolved.{resolved}
use Rattle.rp_resolution.specs.Sorts.{Valued}
use Rattle.rp_resolution.proofs.Telling.{telling}
use Rattle.rp_resolution.proofs.Chains.{value_checks}
use Rattle.rp_resolution.proofs.expr.text_literal.Goals as goal

pub returns-in_err-text : goal.returns-in_err-text
returns-in_err-text c = search (rules, telling)

pub returns : goal.returns
returns c =
    let x = context_of c.args.names.now in
    let before = map plain_total c.args.totals.now.items in
    let meant : value_formula (V.Literal (value.Text c.in_ok-text.text)) ≡ resolved x before (Literal c.args.at c.args.text.now) = (ap value_formula (sym (V.rolls-Literal (value.Text c.in_ok-text.text))) ∙ fold-roll-Expr Formula value_step (E.Literal (value.Text c.in_ok-text.text))) ∙ ap (λ (t : List ℕ). formula.Literal (value.Text t)) c.in_ok-text.ensures in
    value_checks x before before (Literal c.args.at c.args.text.now) (Valued kind.Text) (value_formula (V.Literal (value.Text c.in_ok-text.text))) c.valued.result
    refl refl meant (sym (append-nil before)) c.valued.ensures
