-- A writer of records over bytes in memory.
use Rattle.std.specs.Prelude.{◌≡◌, ℕ, List, ◌++◌, false}
use Rattle.std.specs.declared.vec.Vec.{Vec}
use Rattle.std.specs.declared.alloc.Global.{Global}
use Rattle.csv.specs.Writing.{fields_written, has_written, writer_pending, writer_setup, writer_under}
use Rattle.csv.specs.declared.writer.Writer.{Writer}
use Rattle.rp_table.specs.RecordTexts.{csv_form}

-- it stands between two records, and writes in the form of ours
abbrev pub IsBetween : Writer (Vec ℕ Global) → Type 0
IsBetween w = (fields_written w ≡ 0) × (has_written w ≡ false) × (writer_setup w ≡ csv_form)

-- the bytes of its records
abbrev pub bytes_of : Writer (Vec ℕ Global) → List ℕ
bytes_of w = (writer_under w).items ++ writer_pending w
