use Rattle.std.proofs.Common.{rules, ◌≡◌, ◌∙◌, Some, pos, ap, sym}
use Rattle.rp_value.specs.declared.value.Kind.TheVariants as kind
use Rattle.rp_value.specs.declared.value.Value.TheVariants as value
use Rattle.rp_query.specs.declared.plan.Expr.TheOpen as E
use Rattle.rp_query.specs.declared.plan.Expr.TheVariants as V
use Rattle.rp_query.specs.declared.plan.Expr.TheFolds.{fold-roll-Expr}
use Rattle.rp_query.specs.declared.plan.Operation.TheVariants.{Minus}
use Rattle.rp_query.specs.Formulas as formula
use Rattle.rp_query.specs.Formulas.{Formula, value_formula, value_step}
use Rattle.rp_resolution.specs.declared.fault.CheckKind.TheVariants.{KindMismatch}
use Rattle.rp_resolution.specs.Checked.{Is, sort_in, formula_in}
use Rattle.rp_resolution.specs.ExprFaults.{unless}
use Rattle.rp_resolution.specs.Sorts.{Valued, may_be_number}
use Rattle.rp_resolution.proofs.Telling.{telling, tells_test, passed, clean_or_memory}
use Rattle.rp_resolution.proofs.operand.negative.Goals as goal

pub returns-in_default : goal.returns-in_default
returns-in_default c = tells_test c.fault.result (may_be_number (Some (sort_in c.args.body))) KindMismatch c.args.at c.fault.ensures c.in_default.ensures

pub returns-in_err-zero : goal.returns-in_err-zero
returns-in_err-zero c = search (rules, telling)

pub returns : goal.returns
returns c =
    let test = may_be_number (Some (sort_in c.args.body)) in
    let none = value.Int (pos 0) in
    let zero : value_formula c.in_ok-zero.zero.value ≡ formula.Literal none = ap value_formula c.in_ok-zero.ensures.ok ∙ (ap value_formula (sym (V.rolls-Literal none)) ∙ fold-roll-Expr Formula value_step (E.Literal none)) in
    let meant = rw (zero, c.in-Some.ensures.1) at c.calculated.ensures in
    let is = rw meant at c.valued.ensures in
    clean_or_memory (unless test KindMismatch c.args.at) (Is (Valued kind.Int) (formula.Arithmetic Minus (formula.Literal none) (formula_in c.args.body))) c.valued.result (passed test KindMismatch c.args.at c.in-Some.ensures.0) is
