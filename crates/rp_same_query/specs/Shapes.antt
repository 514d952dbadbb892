-- A row pattern as plain data, its variables by number.
use Rattle.std.specs.Prelude.{ℕ, Bool, List, [], ◌∷◌, map, Option}
use Rattle.rp_words.specs.declared.form.Form.{Form}
use Rattle.rp_words.specs.declared.form.Form.TheOpen as F
use Rattle.rp_words.specs.declared.form.Form.TheFolds.{fold-Form}

-- the parts of PERMUTE are nested from the right by `Beside`
pub data Shape : Type 0 where
  Variable : ℕ → Shape
  Empty : Shape
  PartitionStart : Shape
  PartitionEnd : Shape
  Concatenation : Shape → Shape → Shape
  Alternation : Shape → Shape → Shape
  Permute : Shape → Shape
  Beside : Shape → Shape → Shape
  Exclusion : Shape → Shape
  Quantified : Shape → ℕ → Option ℕ → Bool → Shape

abbrev pub joined : (Shape → Shape → Shape) → Shape → List Shape → Shape
joined f s [] = s
joined f s (t ∷ ts) = f s (joined f t ts)

abbrev pub joined_all : (Shape → Shape → Shape) → List Shape → Shape
joined_all f [] = Empty
joined_all f (s ∷ ss) = joined f s ss

abbrev pub shape_step : F.Form-F Shape → Shape
shape_step (F.Variable v) = Variable v
shape_step F.Empty = Empty
shape_step (F.Concatenation p q) = Concatenation p.value q.value
shape_step (F.Alternation p q) = Alternation p.value q.value
shape_step F.PartitionStart = PartitionStart
shape_step F.PartitionEnd = PartitionEnd
shape_step (F.Permute ps) = Permute (joined_all Beside (map (λ p. p.value) ps.items))
shape_step (F.Exclusion p) = Exclusion p.value
shape_step (F.Quantified p lower upper reluctant) = Quantified p.value lower upper reluctant

-- the shape of a pattern
abbrev pub shape_of : Form → Shape
shape_of = fold-Form Shape shape_step
