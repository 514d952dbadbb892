-- The limit of a line. It is this project's own.
use Rattle.std.specs.Prelude.{ℕ}

-- The greatest length of a line in bytes, without its line feed: 2^16. So a peer that sends no line feed costs no more than
-- that.
abbrev pub longest_line : ℕ
longest_line = 65536
