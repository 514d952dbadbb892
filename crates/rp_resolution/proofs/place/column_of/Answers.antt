use Rattle.std.proofs.Common.{◌∙◌, ap, sym}
use Rattle.std.specs.Option.{is_some}
use Rattle.rp_resolution.specs.declared.fault.CheckKind.TheVariants.{UnknownColumn}
use Rattle.rp_resolution.specs.Context.{column_named}
use Rattle.rp_resolution.proofs.Telling.{tells_test}
use Rattle.rp_resolution.proofs.place.column_of.Goals as goal

pub returns-in-None : goal.returns-in-None
returns-in-None c = tells_test c.fault.result (is_some (column_named c.args.name.now.text c.args.names.now.columns.now)) UnknownColumn c.args.name.now.at c.fault.ensures (ap is_some (sym c.column_named.ensures.place ∙ c.in-None.is))
