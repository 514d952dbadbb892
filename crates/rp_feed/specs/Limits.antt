-- The limits of a feed. Both are this project's own.
use Rattle.std.specs.Prelude.{ℕ}

-- The greatest number of a row, and the greatest count of a close: 2^40. No partition comes near a million million rows, and
-- what is counted from such numbers (one above them, 4,096 above them) stays far below 2^64.
abbrev pub greatest_number : ℕ
greatest_number = 1099511627776

-- How far above the front a row's number may be: 2^12. So a source may send rows out of order, and what waits behind a missing
-- row is bounded.
abbrev pub most_beyond : ℕ
most_beyond = 4096
