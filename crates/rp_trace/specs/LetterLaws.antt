-- What the rows of a line owe to a search: their tests are decided, and they are few. A law that code cites is proved here,
-- since specs/ can't name proofs/.
use Rattle.std.specs.Prelude.{◌≢◌, ℕ, ◌+◌, ◌-◌, ◌^◌, ◌<◌, ◌≤◌, List, length, Bool, true, false, Option, Some, None, slice_get}
use Rattle.std.proofs.Common.{arith}
use Rattle.rp_words.specs.declared.word.Label.{Label}
use Rattle.rp_words.specs.declared.word.Seen.TheVariants.{Open}
use Rattle.rp_trace.specs.Limits.{longest_line}
use Rattle.rp_trace.specs.LetterTest.{admits_letter, label_test, letter_at, letter_test, seen_if}

seen_if-decided : (b : Bool) → seen_if b ≢ Open
seen_if-decided true = λ e. cc
seen_if-decided false = λ e. cc

label_test-decided : (o : Option Label) (letter : ℕ) → label_test o letter ≢ Open
label_test-decided None letter = λ e. cc
label_test-decided (Some label) letter = seen_if-decided (admits_letter label.var letter)

pub letter_test-decided : (line : List ℕ) (start : ℕ) (labels : List Label) → letter_test line start labels ≢ Open
letter_test-decided line start labels = label_test-decided (slice_get labels (length labels - 1)) (letter_at line (start + length labels - 1))

pub short_fits : (n : ℕ) → n ≤ longest_line → n < 2 ^ 64 - 1
short_fits n short = omega arith
