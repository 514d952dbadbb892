use Rattle.std.proofs.Common.{rules}
use Rattle.rp_tree.specs.Clauses.{definition_tree}
use Rattle.rp_resolution.specs.PartFaults.{defined_faults}
use Rattle.rp_resolution.proofs.Each.{begins, goes_on, goes_wrong, ends}
use Rattle.rp_resolution.proofs.lists.allow_definitions.Goals as goal

pub loop-i-init : goal.loop-i-init
loop-i-init c = begins definition_tree (defined_faults c.args.variables.now) c.args.definitions.now

pub returns-in_err-allow_definition : goal.returns-in_err-allow_definition
returns-in_err-allow_definition c =
    let told = goes_wrong definition_tree (defined_faults c.args.variables.now) c.args.definitions.now c.loop-i.i c.index-definitions-i.result c.in_err-allow_definition.field-0.0 c.loop-i-test.true c.index-definitions-i.is c.loop-i.invariant c.in_err-allow_definition.ensures in
    search (rules, told)

pub loop-i-preserved : goal.loop-i-preserved
loop-i-preserved c = goes_on definition_tree (defined_faults c.args.variables.now) c.args.definitions.now c.loop-i.i c.index-definitions-i.result c.loop-i-test.true c.index-definitions-i.is c.loop-i.invariant c.in_ok-allow_definition.ensures.0

pub returns : goal.returns
returns c = (ends definition_tree (defined_faults c.args.variables.now) c.args.definitions.now c.loop-i.i c.loop-i-test.false c.loop-i.invariant, tt)
