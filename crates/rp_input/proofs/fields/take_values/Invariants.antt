use Rattle.csv.specs.Records.{fields_of}
use Rattle.rp_value.specs.Tables.{kinds_of}
use Rattle.rp_input.proofs.Lists.{Continues}
use Rattle.rp_input.proofs.fields.take_values.Given as goal

abbrev pub invariant-loop-index : goal.invariant-loop-index
invariant-loop-index l = Continues (kinds_of l.columns) (fields_of l.fields) l.values.items l.index
