use Rattle.std.proofs.Common.{◌≢◌, rules, IsUtf8}
use Rattle.rp_input.proofs.Headers.{not_named}
use Rattle.rp_input.proofs.header.names_column.Goals as goal

pub returns-in_default : goal.returns-in_default
returns-in_default c =
    let other : c.args.field.now ≢ c.args.column.now.name = search rules in
    let bad : IsUtf8 c.args.field.now → ⊥ = search rules in
    not_named c.args.column.now c.args.field.now other bad
