-- The partitions of rows.
use Rattle.std.specs.Prelude.{ℕ, not, List, [], ◌∷◌, filter}
use Rattle.rp_value.specs.declared.value.Value.{Value}
use Rattle.rp_query.specs.Keys.{same_key, values_in}

-- the rows of a key, as they came
abbrev pub rows_of_key : List ℕ → List Value → List (List Value) → List (List Value)
rows_of_key columns key rows = filter (λ row. same_key key (values_in columns row)) rows

-- a key and its rows
abbrev pub Part : Type 0
Part = List Value × List (List Value)

-- The partitions by first appearance: that of the first row, with all rows of its key, and then the later rows' others.
abbrev pub partitions : List ℕ → List (List Value) → List Part
partitions columns [] = []
partitions columns (row ∷ rows) =
    (values_in columns row, row ∷ rows_of_key columns (values_in columns row) rows)
    ∷ filter (λ part. not (same_key (values_in columns row) part.0)) (partitions columns rows)
