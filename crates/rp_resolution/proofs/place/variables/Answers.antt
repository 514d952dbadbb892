use Rattle.std.proofs.Common.{◌≡◌, ap, map, Some}
use Rattle.std.specs.Option.{is_some}
use Rattle.rp_query.specs.Formulas.{members_of}
use Rattle.rp_resolution.specs.declared.fault.CheckKind.TheVariants.{UnknownVariable}
use Rattle.rp_resolution.specs.Context.{members_named, naming_of}
use Rattle.rp_resolution.specs.ExprFaults.{unless}
use Rattle.rp_resolution.proofs.Telling.{tells_test, passed, clean_or_memory}
use Rattle.rp_resolution.proofs.place.variables.Goals as goal

pub returns-in-Some : goal.returns-in-Some
returns-in-Some c =
    let found = members_named c.args.name.now.text (map naming_of c.args.names.now.sets.now) in
    let known : found ≡ Some c.in-Some.set.now.members.items = simp c.in-Some.is at c.set_named.ensures in
    let is = rw (← known) at c.among.ensures in
    clean_or_memory (unless (is_some found) UnknownVariable c.args.name.now.at) (λ v. members_of v ≡ found) c.among.result (passed (is_some found) UnknownVariable c.args.name.now.at (ap is_some known)) is

pub returns-in-None : goal.returns-in-None
returns-in-None c = tells_test c.fault.result (is_some (members_named c.args.name.now.text (map naming_of c.args.names.now.sets.now))) UnknownVariable c.args.name.now.at c.fault.ensures (ap is_some (simp c.in-None.is at c.set_named.ensures))
