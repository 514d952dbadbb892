-- Numbers of 64 bits that tell when they are too small for what they hold.
use Rattle.std.specs.Prelude.{◌≡◌, ◌<◌, ◌≤◌, ◌+◌, ◌*◌, ◌^◌, ℕ, List, ◌∷◌, Option, MatchOption, length}
use Rattle.rp_columns.specs.Decimals.{groups_behind}
use Rattle.rp_columns.specs.Fronts.{leading_digits}

-- the value is n, or there is none since n is 2^64 or more
abbrev pub Holds : Option ℕ → ℕ → Type 0
Holds value n = MatchOption value (2 ^ 64 ≤ n) (λ v. v ≡ n)

-- a digit was taken
pub record TakesDigit (bytes : List ℕ) (digit : ℕ) (rest : List ℕ) : Type 0 where
  pub is : leading_digits bytes ≡ (digit ∷ (leading_digits rest).0, (leading_digits rest).1)
  pub shorter : length rest + 1 ≡ length bytes

-- a group of three digits was taken
pub record TakesGroup (mark : ℕ) (before : Option ℕ) (bytes : List ℕ) (value : Option ℕ) (rest : List ℕ) : Type 0 where
  pub a : ℕ
  pub b : ℕ
  pub c : ℕ
  pub is : groups_behind mark bytes ≡ (a ∷ b ∷ c ∷ (groups_behind mark rest).0, (groups_behind mark rest).1)
  pub pushed : (n : ℕ) → Holds before n → Holds value (((n * 10 + a) * 10 + b) * 10 + c)
  pub shorter : length rest < length bytes
