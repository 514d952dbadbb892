use Rattle.std.proofs.Common.{rules, ◌≡◌, true, map}
use Rattle.std.specs.Prelude.{not}
use Rattle.rp_tree.specs.Clauses.{definition_tree}
use Rattle.rp_resolution.specs.declared.fault.CheckKind.TheVariants.{UnknownVariable, DoubleName}
use Rattle.rp_resolution.specs.ExprFaults.{unless}
use Rattle.rp_resolution.specs.Variables.{is_among}
use Rattle.rp_resolution.proofs.Telling.{telling, allowed}
use Rattle.rp_resolution.proofs.lists.allow_definition.Goals as goal

pub returns-in_err-member : goal.returns-in_err-member
returns-in_err-member c = search (rules, telling)

pub returns : goal.returns
returns c =
    let name = c.args.definition.now.name in
    let known = unless (is_among name.text c.args.variables.now) UnknownVariable name.at in
    let is_double = is_among name.text (map (λ d. d.name.text) (map definition_tree c.args.earlier.now)) in
    let once = rw c.is_defined-is_double.ensures at c.require.ensures in
    allowed known (unless (not is_double) DoubleName name.at) (λ u. not is_double ≡ true) c.require.result c.in_ok-member.ensures.0 once
