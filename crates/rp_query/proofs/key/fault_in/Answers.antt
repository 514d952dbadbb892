use Rattle.std.proofs.Common.{arith}
use Rattle.rp_query.specs.Keys.{kind_at}
use Rattle.rp_query.proofs.KeyFaults.{row_fault-map}
use Rattle.rp_query.proofs.key.fault_in.Goals as goal

pub returns-in_err-index : goal.returns-in_err-index
returns-in_err-index c =
    let e = row_fault-map (kind_at c.args.table.now) c.args.columns.now c.args.values.now c.if-values-columns.false in
    grind arith

pub returns : goal.returns
returns c =
    let e = row_fault-map (kind_at c.args.table.now) c.args.columns.now c.args.values.now c.if-values-columns.false in
    grind arith
