use Rattle.csv.specs.Records.{fields_of}
use Rattle.rp_input.proofs.Headers.{Names}
use Rattle.rp_input.proofs.header.names_columns.Given as goal

abbrev pub invariant-loop-index : goal.invariant-loop-index
invariant-loop-index l = Names l.columns (fields_of l.fields) l.index
