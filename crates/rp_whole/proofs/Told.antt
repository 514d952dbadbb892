-- What a fault of a run says of its reads and of what it leaves.
use Rattle.std.proofs.Common.{ℕ, List, Option, inr}
use Rattle.rp_query.specs.declared.query.QueryData.{QueryData}
use Rattle.rp_io.specs.Reading.{ReadsWithin}
use Rattle.rp_io.specs.Reading.Told.{Ended}
use Rattle.rp_io.specs.State.{IntakeState}
use Rattle.rp_io.proofs.SoFar.{reads_ended}
use Rattle.rp_input.specs.Devices.{fault_told as csv_told}
use Rattle.rp_input.specs.declared.rows.CsvFault.{CsvFault}
use Rattle.rp_input.specs.declared.rows.CsvFault.TheVariants.{Header, Record, Field, Read, Turns, OutOfMemory}
use Rattle.rp_whole.specs.Faults.{IsOfOutput, Leaves, fault_told, told_csv}
use Rattle.rp_whole.specs.declared.fault.WholeFault.{WholeFault}
use Rattle.rp_whole.specs.declared.fault.WholeFault.TheVariants.{Csv, Write, OutOfMemory as WholeOutOfMemory}

module _ (q : QueryData) (input old : Option (List ℕ)) (front : Type 0) where
  -- a fault of the output, after a front of what is to be written
  pub left_front : (why : WholeFault) (new : Option (List ℕ)) → IsOfOutput why → front → Leaves q input old new front why
  left_front (Csv why) new of_output left = absurd of_output
  left_front Write new of_output left = left
  left_front WholeOutOfMemory new of_output left = inr left

module _ (reads : ℕ) (old new : IntakeState) where
  -- a fault of the input tells of the reads what it told of them before
  pub input_told : (why : CsvFault) → ReadsWithin reads (csv_told why) old new → ReadsWithin reads (fault_told (told_csv why)) old new
  input_told Header all = all
  input_told (Record n) all = all
  input_told (Field n) all = all
  input_told Read all = all
  input_told Turns all = all
  input_told OutOfMemory all = all

  -- a fault of the output, after all of the input was read
  pub fault_after : (why : WholeFault) → IsOfOutput why → ReadsWithin reads Ended old new → ReadsWithin reads (fault_told why) old new
  fault_after (Csv why) of_output all = absurd of_output
  fault_after Write of_output all = reads_ended reads old new all
  fault_after WholeOutOfMemory of_output all = reads_ended reads old new all
