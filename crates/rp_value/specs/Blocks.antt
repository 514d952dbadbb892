-- Inside: rows whose cells lie one after another.
use Rattle.std.specs.Prelude.{ℕ, zero, suc, List, [], ◌∷◌, take, drop}

-- so many lists of this many cells each, cut off from the front one after another
unfoldable pub cut_apart : {A : Type 0} (width count : ℕ) → List A → List (List A)
cut_apart width zero cells = []
cut_apart width (suc count) cells = take width cells ∷ cut_apart width count (drop width cells)
