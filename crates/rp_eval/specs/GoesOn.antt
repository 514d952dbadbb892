-- Rows that go on.
use Rattle.std.specs.Prelude.{◌≡◌, ℕ, ◌≤◌, length}
use Rattle.rp_words.specs.Later.{IsLater}
use Rattle.rp_words.specs.declared.word.End.{End}
use Rattle.rp_eval.specs.Partition.{Rows, row_at}

-- As many rows or more, or the close, where the known rows from this one on stay as they are. Those before it may be any.
pub record GoesOn (first : ℕ) (p : Rows) (e : End) (p' : Rows) (e' : End) : Type 0 where
  pub later : IsLater (length p) e (length p') e'
  pub same : (row : ℕ) → first ≤ row → row ≤ length p → row_at p' row ≡ row_at p row
