use Rattle.std.proofs.Common.{arith}
use Rattle.rp_value.proofs.Faults.{row_fault-kinds_of}
use Rattle.rp_value.proofs.table.fault_in.Goals as goal

pub returns-in_err-index : goal.returns-in_err-index
returns-in_err-index c =
    let e = row_fault-kinds_of c.args.columns.now c.args.cells.now c.if-cells-columns.false in
    grind arith

pub returns : goal.returns
returns c =
    let e = row_fault-kinds_of c.args.columns.now c.args.cells.now c.if-cells-columns.false in
    grind arith
