use Rattle.csv.specs.Records.{fields_of}
use Rattle.rp_value.specs.Tables.{kinds_of}
use Rattle.rp_input.proofs.Misfits.{AreValues}
use Rattle.rp_input.proofs.fields.first_misfit.Given as goal

abbrev pub invariant-loop-index : goal.invariant-loop-index
invariant-loop-index l = AreValues (kinds_of l.columns) (fields_of l.fields) l.index
