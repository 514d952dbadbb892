use Rattle.std.proofs.Common.{◌≢◌, rules, IsUtf8}
use Rattle.rp_value.specs.declared.value.Kind.TheVariants as kind
use Rattle.rp_input.proofs.Headers.{not_named}
use Rattle.rp_input.proofs.placed.names_source.Goals as goal

pub returns-in_default : goal.returns-in_default
returns-in_default c =
    let other : c.args.field.now ≢ c.args.source.now = search rules in
    let bad : IsUtf8 c.args.field.now → ⊥ = search rules in
    not_named (record { name = c.args.source.now; kind = kind.Int }) c.args.field.now other bad
