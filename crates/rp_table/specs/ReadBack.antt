-- What is read of records that were written.
use Rattle.std.specs.Prelude.{ℕ, List, map}
use Rattle.std.specs.List.{flat_map}
use Rattle.csv.specs.Reading.{AreRecords, default_config}
use Rattle.csv.specs.Writing.{read_back, row_text}
use Rattle.csv.specs.declared.parser.State.TheVariants as state
use Rattle.rp_table.specs.RecordTexts.{csv_form}

-- the texts of records one after another, each by its fields
abbrev pub records_text : List (List (List ℕ)) → List ℕ
records_text records = flat_map (row_text csv_form) records

-- csv's reader, with its defaults, reads these records of a text: of one without fields an empty one
abbrev pub Reads : List ℕ → List (List (List ℕ)) → Type 0
Reads text records = AreRecords default_config state.StartRecord text (map read_back records)

-- What was written is read.
abbrev pub ReadsBack : Type 0
ReadsBack = (records : List (List (List ℕ))) → Reads (records_text records) records
