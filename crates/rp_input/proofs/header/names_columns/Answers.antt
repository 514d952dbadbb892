use Rattle.std.proofs.Common.{◌≢◌, length, rules}
use Rattle.csv.specs.Records.{fields_of}
use Rattle.rp_input.proofs.Headers.{named_length}
use Rattle.rp_input.proofs.header.names_columns.Goals as goal

pub returns-then-len-columns : goal.returns-then-len-columns
returns-then-len-columns c =
    let other : length (fields_of c.args.fields.now) ≢ length c.args.columns.now = search rules in
    λ named. other (named_length c.args.columns.now (fields_of c.args.fields.now) named)
