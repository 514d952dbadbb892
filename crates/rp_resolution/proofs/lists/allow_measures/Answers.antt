use Rattle.std.proofs.Common.{rules}
use Rattle.rp_tree.specs.Clauses.{measure_tree}
use Rattle.rp_resolution.specs.PartFaults.{output_faults, shown_names}
use Rattle.rp_resolution.proofs.Each.{begins, goes_on, goes_wrong, ends}
use Rattle.rp_resolution.proofs.lists.allow_measures.Goals as goal

pub loop-i-init : goal.loop-i-init
loop-i-init c = begins measure_tree (output_faults (shown_names c.args.rows c.args.partition.now c.args.columns.now)) c.args.measures.now

pub returns-in_err-allow_measure : goal.returns-in_err-allow_measure
returns-in_err-allow_measure c =
    let told = goes_wrong measure_tree (output_faults (shown_names c.args.rows c.args.partition.now c.args.columns.now)) c.args.measures.now c.loop-i.i c.index-measures-i.result c.in_err-allow_measure.field-0.0 c.loop-i-test.true c.index-measures-i.is c.loop-i.invariant c.in_err-allow_measure.ensures in
    search (rules, told)

pub loop-i-preserved : goal.loop-i-preserved
loop-i-preserved c = goes_on measure_tree (output_faults (shown_names c.args.rows c.args.partition.now c.args.columns.now)) c.args.measures.now c.loop-i.i c.index-measures-i.result c.loop-i-test.true c.index-measures-i.is c.loop-i.invariant c.in_ok-allow_measure.ensures.0

pub returns : goal.returns
returns c = (ends measure_tree (output_faults (shown_names c.args.rows c.args.partition.now c.args.columns.now)) c.args.measures.now c.loop-i.i c.loop-i-test.false c.loop-i.invariant, tt)
