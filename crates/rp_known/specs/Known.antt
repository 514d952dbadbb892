-- A known partition.
use Rattle.std.specs.Prelude.{ℕ, length}
use Rattle.rp_words.specs.declared.word.End.{End}
use Rattle.rp_eval.specs.Partition.{Rows}

-- the rows 1 to n that have come, and whether more may come
pub record Known : Type 0 where
  pub rows : Rows
  pub end : End

abbrev pub count : Known → ℕ
count p = length p.rows

-- what is known by rows that are kept in some way
abbrev pub known_in : {R : Type 0} → (R → Rows) → (R → End) → R → Known
known_in known ending rows = record { rows = known rows; end = ending rows }
