use Rattle.std.proofs.Common.{Some}
use Rattle.rp_query.specs.Formulas as formula
use Rattle.rp_resolution.specs.declared.fault.CheckKind.TheVariants.{KindMismatch}
use Rattle.rp_resolution.specs.Checked.{Is, sort_in, formula_in}
use Rattle.rp_resolution.specs.ExprFaults.{unless}
use Rattle.rp_resolution.specs.Sorts.{Truth, may_be_condition}
use Rattle.rp_resolution.proofs.Telling.{tells_test, passed, clean_or_memory}
use Rattle.rp_resolution.proofs.operand.inverted.Goals as goal

pub returns-in_default : goal.returns-in_default
returns-in_default c = tells_test c.fault.result (may_be_condition (Some (sort_in c.args.body))) KindMismatch c.args.at c.fault.ensures c.in_default.ensures

pub returns : goal.returns
returns c =
    let test = may_be_condition (Some (sort_in c.args.body)) in
    let meant = rw c.in-Some.ensures.1 at c.negated.ensures in
    let is = rw meant at c.truth.ensures in
    clean_or_memory (unless test KindMismatch c.args.at) (Is Truth (formula.Not (formula_in c.args.body))) c.truth.result (passed test KindMismatch c.args.at c.in-Some.ensures.0) is
