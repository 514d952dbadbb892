use Rattle.std.proofs.Common.{arith}
use Rattle.rp_value.proofs.Faults.{has_double_name-drop}
use Rattle.rp_value.proofs.table.has_double_name.Goals as goal

pub returns-then-has_name : goal.returns-then-has_name
returns-then-has_name c =
    let e = has_double_name-drop c.args.columns.now c.loop-index.index c.index-columns-index.result c.as_str.result.now c.loop-index-test.true c.index-columns-index.is c.as_str.ensures.value in
    grind arith

pub loop-index-preserved : goal.loop-index-preserved
loop-index-preserved c =
    let e = has_double_name-drop c.args.columns.now c.loop-index.index c.index-columns-index.result c.as_str.result.now c.loop-index-test.true c.index-columns-index.is c.as_str.ensures.value in
    grind arith
