use Rattle.std.proofs.Common.{◌∙◌, ap, sym}
use Rattle.std.specs.Option.{is_some}
use Rattle.std.specs.Prelude.{not}
use Rattle.rp_resolution.specs.declared.fault.CheckKind.TheVariants.{UnknownColumn, DoubleName}
use Rattle.rp_resolution.specs.Context.{column_named}
use Rattle.rp_resolution.specs.ExprFaults.{unless}
use Rattle.rp_resolution.proofs.Telling.{tells_test, tells_front}
use Rattle.rp_resolution.proofs.lists.listed_column.Goals as goal

pub returns-in-None : goal.returns-in-None
returns-in-None c =
    let test = is_some (column_named c.args.name.now.text c.args.columns.now) in
    tells_front c.fault.result (unless test UnknownColumn c.args.name.now.at) (unless (not c.args.is_double) DoubleName c.args.name.now.at)
    (tells_test c.fault.result test UnknownColumn c.args.name.now.at c.fault.ensures (ap is_some (sym c.column_named.ensures.place ∙ c.in-None.is)))
