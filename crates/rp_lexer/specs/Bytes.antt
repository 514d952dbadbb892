-- Bytes that definitions name, each by its character. A single quote encloses text literals, a double quote (one character) names.
use Rattle.std.specs.Prelude.{ℕ, codes, slice_index}

abbrev pub space : ℕ
space = slice_index (codes " ") 0

abbrev pub tab : ℕ
tab = slice_index (codes "\t") 0

abbrev pub carriage_return : ℕ
carriage_return = slice_index (codes "\r") 0

abbrev pub line_feed : ℕ
line_feed = slice_index (codes "\n") 0

abbrev pub minus_sign : ℕ
minus_sign = slice_index (codes "-") 0

abbrev pub single_quote : ℕ
single_quote = slice_index (codes "'") 0

abbrev pub double_quote : ℕ
double_quote = slice_index (codes "\"") 0
