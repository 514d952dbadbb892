-- A row pattern as it is written, as plain data.
use Rattle.std.specs.Prelude.{List, ℕ, option_map}
use Rattle.rp_tree.specs.Tree as tree
use Rattle.rp_tree.specs.Tree.{Tree}
use Rattle.rp_same_query.specs.Shapes.{Shape, Variable, Empty, PartitionStart, PartitionEnd, Concatenation, Alternation, Permute, Beside, Exclusion, Quantified}
use Rattle.rp_resolution.specs.Variables.{number_of}

-- the shape of a pattern as it is written, whose variables have the numbers of these names
abbrev pub shaped : List (List ℕ) → Tree → Shape
shaped names (tree.Variable name) = Variable (number_of name.text names)
shaped names tree.Empty = Empty
shaped names tree.PartitionStart = PartitionStart
shaped names tree.PartitionEnd = PartitionEnd
shaped names (tree.Concatenation a b) = Concatenation (shaped names a) (shaped names b)
shaped names (tree.Alternation a b) = Alternation (shaped names a) (shaped names b)
shaped names (tree.Beside a b) = Beside (shaped names a) (shaped names b)
shaped names (tree.Permute at body) = Permute (shaped names body)
shaped names (tree.Exclusion at body) = Exclusion (shaped names body)
shaped names (tree.Quantified q body) =
    Quantified (shaped names body) q.lower.count (option_map (λ b. b.count) q.upper) q.reluctant
