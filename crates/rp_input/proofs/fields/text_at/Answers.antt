use Rattle.std.proofs.Common.{sym, arith, add-one}
use Rattle.csv.specs.Records.{fields_of}
use Rattle.rp_input.proofs.Lists.{at_field, no_field}
use Rattle.rp_input.proofs.fields.text_at.Goals as goal

pub returns-clause-field : goal.returns-clause-field
returns-clause-field c = rw add-one (at_field (fields_of c.args.fields.now) c.args.index c.in-Some.field.now (sym c.in-Some.ensures.value))

pub unreachable-requires : goal.unreachable-requires
unreachable-requires c = let far = no_field (fields_of c.args.fields.now) c.args.index (sym c.in-None.ensures.value) in omega (arith, far)
