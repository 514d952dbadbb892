use Rattle.std.proofs.Common.{arith}
use Rattle.rp_value.proofs.Faults.{table_fault-columns_of}
use Rattle.rp_value.proofs.table.fault_of.Goals as goal

pub returns-then-has_bad_name : goal.returns-then-has_bad_name
returns-then-has_bad_name c =
    let e = table_fault-columns_of c.args.columns.now cc in
    grind arith

pub returns-then-has_double_name : goal.returns-then-has_double_name
returns-then-has_double_name c =
    let e = table_fault-columns_of c.args.columns.now cc in
    grind arith

pub returns : goal.returns
returns c =
    let e = table_fault-columns_of c.args.columns.now cc in
    grind arith
