use Rattle.std.proofs.Common.{◌∙◌, Some, sym}
use Rattle.rp_query.specs.Formulas as formula
use Rattle.rp_resolution.specs.declared.fault.CheckKind.TheVariants.{KindMismatch}
use Rattle.rp_resolution.specs.Checked.{Is, sort_in, formula_in}
use Rattle.rp_resolution.specs.ExprFaults.{unless}
use Rattle.rp_resolution.specs.Sorts.{Truth, comparable}
use Rattle.rp_resolution.proofs.Telling.{tells_test, passed, clean_or_memory, no_value_left, no_value_right}
use Rattle.rp_resolution.proofs.operand.compared.Goals as goal

pub returns-then-not-are_comparable : goal.returns-then-not-are_comparable
returns-then-not-are_comparable c =
    let test = comparable (Some (sort_in c.args.left)) (Some (sort_in c.args.right)) in
    tells_test c.fault.result test KindMismatch c.args.at c.fault.ensures (sym c.are_comparable.ensures ∙ c.if-not-are_comparable.true)

pub returns-in_default : goal.returns-in_default
returns-in_default c =
    let test = comparable (Some (sort_in c.args.left)) (Some (sort_in c.args.right)) in
    tells_test c.fault-in_default.result test KindMismatch c.args.at c.fault-in_default.ensures (no_value_left (Some (sort_in c.args.left)) (Some (sort_in c.args.right)) c.in_default.ensures)

pub returns-in_default-into_value : goal.returns-in_default-into_value
returns-in_default-into_value c =
    let test = comparable (Some (sort_in c.args.left)) (Some (sort_in c.args.right)) in
    tells_test c.fault-in_default-into_value.result test KindMismatch c.args.at c.fault-in_default-into_value.ensures (no_value_right (Some (sort_in c.args.left)) (Some (sort_in c.args.right)) c.in_default-into_value.ensures)

pub returns : goal.returns
returns c =
    let test = comparable (Some (sort_in c.args.left)) (Some (sort_in c.args.right)) in
    let holds = sym c.are_comparable.ensures ∙ c.if-not-are_comparable.false in
    let meant = rw (c.in-Some.ensures.1, c.in-Some-into_value.ensures.1) at c.weighed.ensures in
    let is = rw meant at c.truth.ensures in
    clean_or_memory (unless test KindMismatch c.args.at) (Is Truth (formula.Compare c.args.comparison (formula_in c.args.left) (formula_in c.args.right))) c.truth.result (passed test KindMismatch c.args.at holds) is
