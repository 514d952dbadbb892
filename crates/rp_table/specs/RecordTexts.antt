-- The texts of records of CSV.
use Rattle.std.specs.Prelude.{ℕ, List, [], map, true}
use Rattle.std.specs.Fmt.{signed_decimal}
use Rattle.csv.specs.Writing.{default_writer, row_text, with_flexible}
use Rattle.csv.specs.declared.writer.WriterBuilder.{WriterBuilder}
use Rattle.rp_value.specs.declared.value.Value.{Value}
use Rattle.rp_value.specs.declared.value.Value.TheVariants.{Int, Text, Null}

-- Fields stand between commas, in quotes where they hold a comma, a quote or a line end. A record ends in a line feed, and may
-- have as many fields as it likes.
abbrev pub csv_form : WriterBuilder
csv_form = with_flexible default_writer true

-- the field of a cell: null is an empty one, as an empty text is
abbrev pub field_of : Value → List ℕ
field_of (Int z) = signed_decimal z
field_of (Text s) = s
field_of Null = []

-- the record of cells
abbrev pub cells_record : List Value → List ℕ
cells_record cells = row_text csv_form (map field_of cells)

-- the record of names
abbrev pub names_record : List (List ℕ) → List ℕ
names_record names = row_text csv_form names
