use Rattle.std.proofs.Common.{rules, ◌≡◌, ◌∙◌, Some, ap}
use Rattle.rp_query.specs.Formulas as formula
use Rattle.rp_query.specs.Formulas.{condition_formula}
use Rattle.rp_resolution.specs.declared.fault.CheckKind.TheVariants.{KindMismatch}
use Rattle.rp_resolution.specs.Checked.{Is, sort_in, formula_in}
use Rattle.rp_resolution.specs.ExprFaults.{unless}
use Rattle.rp_resolution.specs.Sorts.{Truth, may_be_value}
use Rattle.rp_resolution.proofs.Telling.{telling, tells_test, passed, clean_or_memory}
use Rattle.rp_resolution.proofs.operand.null_test.Goals as goal

pub returns-in_default : goal.returns-in_default
returns-in_default c = tells_test c.fault.result (may_be_value (Some (sort_in c.args.body))) KindMismatch c.args.at c.fault.ensures c.in_default.ensures

pub returns-in_err-test : goal.returns-in_err-test
returns-in_err-test c = search (rules, telling)

pub returns-then-negate : goal.returns-then-negate
returns-then-negate c =
    let test = may_be_value (Some (sort_in c.args.body)) in
    let meant : condition_formula c.negated.result ≡ formula.Not (formula.IsNull (formula_in c.args.body)) =
    c.negated.ensures ∙ ap formula.Not (ap condition_formula c.in_ok-test.ensures.ok ∙ (c.is_null.ensures ∙ ap formula.IsNull c.in-Some.ensures.1)) in
    let is = rw meant at c.truth.ensures in
    rw c.if-negate.true (clean_or_memory (unless test KindMismatch c.args.at) (Is Truth (formula.Not (formula.IsNull (formula_in c.args.body)))) c.truth.result (passed test KindMismatch c.args.at c.in-Some.ensures.0) is)
