-- What clauses see of a reader.
use Rattle.std.specs.Prelude.{ℕ, Bool, List, Option}

-- a reader as the calls so far have left it
pub record IntakeState : Type 0 where
  -- how many calls were made, up to 2^64 - 1, where the count stays
  pub calls : ℕ
  -- how many of them failed, counted in the same way
  pub failures : ℕ
  -- whether a call has reported the end: it gave no byte where the buffer had room
  pub ended : Bool
  -- the bytes that are still to come, where they are known
  pub remaining : Option (List ℕ)
