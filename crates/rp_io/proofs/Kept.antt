-- What the first bytes of a line say of it, where one more is kept than a line may have.
use Rattle.std.proofs.Common.{◌≡◌, ◌∙◌, ℕ, suc, ◌+◌, ◌<◌, ◌≤◌, ◌⊎◌, List, [], ◌∷◌, length, take, min, refl, ap, inl, inr, arith, ⊎_elim}
use Rattle.std.proofs.lemmas.Bool.{cases_lt}
use Rattle.std.proofs.lemmas.List.{length-take, take_all}

-- they are all of the line, or both are too long
pub kept_or_long : (limit : ℕ) (line whole : List ℕ) → line ≡ take (limit + 1) whole → (line ≡ whole) ⊎ ((limit < length line) × (limit < length whole))
kept_or_long limit line whole is = ⊎_elim long short (cases_lt limit (length whole))
  where
    long : limit < length whole → (line ≡ whole) ⊎ ((limit < length line) × (limit < length whole))
    long many = let size : length line ≡ min (limit + 1) (length whole) = ap length is ∙ length-take (limit + 1) whole in inr (omega arith, many)

    short : length whole ≤ limit → (line ≡ whole) ⊎ ((limit < length line) × (limit < length whole))
    short few = inl (is ∙ take_all (limit + 1) whole (omega arith))

-- none is kept of no bytes alone
pub kept_none : (kept : ℕ) (line whole : List ℕ) → length line ≡ 0 → line ≡ take (suc kept) whole → whole ≡ []
kept_none kept line [] none is = refl
kept_none kept line (b ∷ whole) none is = absurd (let some : length line ≡ suc (length (take kept whole)) = ap length is in omega arith)

pub kept_some : (kept : ℕ) (line whole : List ℕ) → (length line ≡ 0 → ⊥) → line ≡ take (suc kept) whole → length whole ≡ 0 → ⊥
kept_some kept line [] some is none = some (ap length is)
kept_some kept line (b ∷ whole) some is none = omega arith
