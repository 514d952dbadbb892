use Rattle.std.proofs.Common.{Some}
use Rattle.rp_query.specs.Formulas as formula
use Rattle.rp_resolution.specs.declared.fault.CheckKind.TheVariants.{KindMismatch}
use Rattle.rp_resolution.specs.Checked.{Is, sort_in, formula_in}
use Rattle.rp_resolution.specs.ExprFaults.{unless}
use Rattle.rp_resolution.specs.Sorts.{Truth, conditions, may_be_condition}
use Rattle.rp_resolution.proofs.Clean.{both}
use Rattle.rp_resolution.proofs.Telling.{tells_test, passed, clean_or_memory, left_fails, right_fails}
use Rattle.rp_resolution.proofs.operand.conjunction.Goals as goal

pub returns-in_default : goal.returns-in_default
returns-in_default c = tells_test c.fault.result (conditions (Some (sort_in c.args.left)) (Some (sort_in c.args.right))) KindMismatch c.args.at c.fault.ensures (left_fails (may_be_condition (Some (sort_in c.args.left))) (may_be_condition (Some (sort_in c.args.right))) c.in_default.ensures)

pub returns-in_default-into_condition : goal.returns-in_default-into_condition
returns-in_default-into_condition c = tells_test c.fault-in_default-into_condition.result (conditions (Some (sort_in c.args.left)) (Some (sort_in c.args.right))) KindMismatch c.args.at c.fault-in_default-into_condition.ensures (right_fails (may_be_condition (Some (sort_in c.args.left))) (may_be_condition (Some (sort_in c.args.right))) c.in-Some.ensures.0 c.in_default-into_condition.ensures)

pub returns : goal.returns
returns c =
    let test = conditions (Some (sort_in c.args.left)) (Some (sort_in c.args.right)) in
    let holds = both (may_be_condition (Some (sort_in c.args.left))) (may_be_condition (Some (sort_in c.args.right))) c.in-Some.ensures.0 c.in-Some-into_condition.ensures.0 in
    let meant = rw (c.in-Some.ensures.1, c.in-Some-into_condition.ensures.1) at c.both.ensures in
    let is = rw meant at c.truth.ensures in
    clean_or_memory (unless test KindMismatch c.args.at) (Is Truth (formula.And (formula_in c.args.left) (formula_in c.args.right))) c.truth.result (passed test KindMismatch c.args.at holds) is
