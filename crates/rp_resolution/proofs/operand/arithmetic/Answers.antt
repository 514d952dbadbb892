use Rattle.std.proofs.Common.{Some}
use Rattle.rp_query.specs.Formulas as formula
use Rattle.rp_value.specs.declared.value.Kind.TheVariants as kind
use Rattle.rp_resolution.specs.declared.fault.CheckKind.TheVariants.{KindMismatch}
use Rattle.rp_resolution.specs.Checked.{Is, sort_in, formula_in}
use Rattle.rp_resolution.specs.ExprFaults.{unless}
use Rattle.rp_resolution.specs.Sorts.{Valued, numbers, may_be_number}
use Rattle.rp_resolution.proofs.Clean.{both}
use Rattle.rp_resolution.proofs.Telling.{tells_test, passed, clean_or_memory, left_fails, right_fails}
use Rattle.rp_resolution.proofs.operand.arithmetic.Goals as goal

pub returns-in_default : goal.returns-in_default
returns-in_default c = tells_test c.fault.result (numbers (Some (sort_in c.args.left)) (Some (sort_in c.args.right))) KindMismatch c.args.at c.fault.ensures (left_fails (may_be_number (Some (sort_in c.args.left))) (may_be_number (Some (sort_in c.args.right))) c.in_default.ensures)

pub returns-in_default-into_number : goal.returns-in_default-into_number
returns-in_default-into_number c = tells_test c.fault-in_default-into_number.result (numbers (Some (sort_in c.args.left)) (Some (sort_in c.args.right))) KindMismatch c.args.at c.fault-in_default-into_number.ensures (right_fails (may_be_number (Some (sort_in c.args.left))) (may_be_number (Some (sort_in c.args.right))) c.in-Some.ensures.0 c.in_default-into_number.ensures)

pub returns : goal.returns
returns c =
    let test = numbers (Some (sort_in c.args.left)) (Some (sort_in c.args.right)) in
    let holds = both (may_be_number (Some (sort_in c.args.left))) (may_be_number (Some (sort_in c.args.right))) c.in-Some.ensures.0 c.in-Some-into_number.ensures.0 in
    let meant = rw (c.in-Some.ensures.1, c.in-Some-into_number.ensures.1) at c.calculated.ensures in
    let is = rw meant at c.valued.ensures in
    clean_or_memory (unless test KindMismatch c.args.at) (Is (Valued kind.Int) (formula.Arithmetic c.args.operation (formula_in c.args.left) (formula_in c.args.right))) c.valued.result (passed test KindMismatch c.args.at holds) is
