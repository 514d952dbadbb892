-- The values of fields by their readings.
use Rattle.std.specs.Prelude.{◌==◌, ℕ, ℤ, pos, Bool, true, false, List, None, map, Result, Ok, Err, if◌then◌else◌}
use Rattle.std.specs.Char.{to_ascii_lowercase}
use Rattle.std.specs.List.{list_any}
use Rattle.std.specs.Str.{is_utf8}
use Rattle.std.specs.Cmp.Lexicographic.{pointwise}
use Rattle.rp_value.specs.declared.value.Kind.{Kind}
use Rattle.rp_value.specs.declared.value.Kind.TheVariants as kinds
use Rattle.rp_value.specs.declared.value.Value.{Value}
use Rattle.rp_value.specs.declared.value.Value.TheVariants.{Null, Int, Text}
use Rattle.rp_columns.specs.Fronts.{◌>>=◌, are_blanks}
use Rattle.rp_columns.specs.Decimals.{decimal_of}
use Rattle.rp_columns.specs.Formats.{formatted, formatted_day}
use Rattle.rp_columns.specs.Instants.{day_of, instant_of}
use Rattle.rp_columns.specs.declared.fault.ReadingFault.{ReadingFault}
use Rattle.rp_columns.specs.declared.fault.ReadingFault.TheVariants.{NotText}
use Rattle.rp_columns.specs.declared.reading.Marks.{Marks}
use Rattle.rp_columns.specs.declared.reading.Reading.{Reading}
use Rattle.rp_columns.specs.declared.reading.Reading.TheVariants as reading

-- what a column may hold beside null
abbrev pub kind_of : Reading → Kind
kind_of reading.Text = kinds.Text
kind_of reading.Lower = kinds.Text
kind_of _ = kinds.Int

-- a column's values come from fields, and aren't the numbers of records
abbrev pub reads_field : Reading → Bool
reads_field reading.Record = false
reads_field _ = true

-- a whole number has neither a point nor signs between thousands
abbrev pub no_marks : Marks
no_marks = record { thousands = None; point = None }

-- the number of a field
abbrev pub number_of : Reading → List ℕ → Result ℤ ReadingFault
number_of (reading.Decimal places marks) bytes = decimal_of marks places bytes
number_of (reading.Instant unit zone) bytes = instant_of unit zone bytes
number_of reading.Day bytes = day_of bytes
number_of (reading.Formatted unit format zone) bytes = formatted unit format zone bytes
number_of (reading.FormattedDay format) bytes = formatted_day format bytes
number_of _ bytes = decimal_of no_marks 0 bytes

-- a text for a field, where the field is UTF-8
abbrev pub text_for : List ℕ → List ℕ → Result Value ReadingFault
text_for field text = if is_utf8 field then Ok (Text text) else Err NotText

-- the number of a field that isn't blank, and null for one that is
abbrev pub number_or_null : Reading → List ℕ → Result Value ReadingFault
number_or_null r bytes = if are_blanks bytes then Ok Null else (number_of r bytes >>= (λ z. Ok (Int z)))

-- the value of a field that is no word for null; of a number or a time one of blanks alone is null
abbrev pub full_value : Reading → List ℕ → Result Value ReadingFault
full_value reading.Text bytes = text_for bytes bytes
full_value reading.Lower bytes = text_for bytes (map to_ascii_lowercase bytes)
full_value r bytes = number_or_null r bytes

-- the field stands for null: it is one of the words that were given
abbrev pub is_null : List (List ℕ) → List ℕ → Bool
is_null words bytes = list_any (λ word. pointwise ◌==◌ word bytes) words

-- The value of a field in the record of this number, where these words stand for null.
abbrev pub value_of : List (List ℕ) → Reading → ℕ → List ℕ → Result Value ReadingFault
value_of words reading.Record number bytes = Ok (Int (pos number))
value_of words r number bytes = if is_null words bytes then Ok Null else full_value r bytes
