-- What a fault of a text says of the reads that it came by.
use Rattle.std.proofs.Common.{ℕ, List, Result, Ok, Err, IfErr}
use Rattle.rp_value.specs.declared.table.Column.{Column}
use Rattle.rp_columns.specs.declared.columns.InputColumn.{InputColumn}
use Rattle.rp_io.specs.Reading.{ReadsWithin}
use Rattle.rp_io.specs.Reading.Told.{Ended}
use Rattle.rp_io.specs.State.{IntakeState}
use Rattle.rp_io.proofs.SoFar.{reads_ended}
use Rattle.rp_input.specs.CsvRows.{IsTextFault}
use Rattle.rp_input.specs.ByColumns.{IsByColumnsFault}
use Rattle.rp_input.specs.Devices.{columns_told, rows_told}
use Rattle.rp_input.specs.declared.columns_fault.ColumnsCsvFault.{ColumnsCsvFault}
use Rattle.rp_input.specs.declared.columns_fault.ColumnsCsvFault.TheVariants as by_columns
use Rattle.rp_input.specs.declared.layout.CsvLayout.{CsvLayout}
use Rattle.rp_input.specs.declared.rows.CsvFault.{CsvFault}
use Rattle.rp_input.specs.declared.rows.CsvFault.TheVariants.{Header, Record, Field, Read, Turns, OutOfMemory}

module _ {X : Type 0} (columns : List Column) (text : List ℕ) (reads : ℕ) (old new : IntakeState)
    (all : ReadsWithin reads Ended old new) where
  pub text_told : (r : Result X CsvFault) → IfErr r (λ fault. IsTextFault columns text fault) → ReadsWithin reads (rows_told r) old new
  text_told (Ok x) h = all
  text_told (Err Header) h = all
  text_told (Err (Record n)) h = all
  text_told (Err (Field n)) h = all
  text_told (Err Read) h = absurd h
  text_told (Err Turns) h = absurd h
  text_told (Err OutOfMemory) h = reads_ended reads old new all

module _ {X : Type 0} (words : List (List ℕ)) (layout : CsvLayout) (columns : List InputColumn) (text : List ℕ) (reads : ℕ) (old new : IntakeState)
    (all : ReadsWithin reads Ended old new) where
  pub columns_text_told : (r : Result X ColumnsCsvFault) → IfErr r (λ fault. IsByColumnsFault words layout columns text fault)
      → ReadsWithin reads (columns_told r) old new
  columns_text_told (Ok x) h = all
  columns_text_told (Err by_columns.Header) h = all
  columns_text_told (Err (by_columns.Missing i)) h = all
  columns_text_told (Err (by_columns.Double i)) h = all
  columns_text_told (Err (by_columns.Record n)) h = all
  columns_text_told (Err (by_columns.Field n i why)) h = all
  columns_text_told (Err by_columns.Read) h = absurd h
  columns_text_told (Err by_columns.Turns) h = absurd h
  columns_text_told (Err by_columns.OutOfMemory) h = reads_ended reads old new all
