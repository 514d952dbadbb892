-- How the text of a CSV is laid out: RFC 4180, part 2, where the delimiter may be another than a comma, and the header may be left out.
use Rattle.std.specs.Prelude.{ℕ, Bool, true, not, ◌&&◌, ◌==◌, nat_lt, List}
use Rattle.csv.specs.Reading.{default_config, records, strip_bom}
use Rattle.csv.specs.declared.parser.Config.{Config}
use Rattle.rp_input.specs.declared.layout.CsvLayout.{CsvLayout}

-- commas between fields, below a header
abbrev pub plain_layout : CsvLayout
plain_layout = record { delimiter = 44; has_header = true }

-- an ASCII character other than a quote and the ends of a line, which have a meaning of their own
abbrev pub is_delimiter : ℕ → Bool
is_delimiter b = nat_lt b 128 && not (b == 34) && not (b == 10) && not (b == 13)

-- csv's defaults, with this byte between fields
abbrev pub config_with : ℕ → Config
config_with delimiter = record default_config { delimiter = delimiter }

-- the records of a text as csv reads it by a delimiter, without the byte order mark that it may begin with
abbrev pub records_by : ℕ → List ℕ → List (List (List ℕ))
records_by delimiter text = records (config_with delimiter) (strip_bom text)
