-- Which lists of values are rows of a table.
use Rattle.std.specs.Prelude.{ℕ, ◌+◌, ◌-◌, ◌==◌, Bool, true, false, not, List, length, zip, Option, None, Some, option_map, position, slice_get, if◌then◌else◌}
use Rattle.rp_value.specs.declared.row.RowFault.{RowFault}
use Rattle.rp_value.specs.declared.row.RowFault.TheVariants.{Width, Kind as KindAt, OutOfMemory}
use Rattle.rp_value.specs.declared.value.Kind.{Kind}
use Rattle.rp_value.specs.declared.value.Kind.TheVariants.{Int as IntKind, Text as TextKind}
use Rattle.rp_value.specs.declared.value.Value.{Value}
use Rattle.rp_value.specs.declared.value.Value.TheVariants.{Null, Int, Text}

-- whether a column of this kind may hold the value
abbrev pub admits : Kind → Value → Bool
admits _ Null = true
admits IntKind (Int _) = true
admits TextKind (Text _) = true
admits _ _ = false

-- why the values are no row over columns of these kinds, by the first reason: another number
-- of values, or else the first column, from 1, that may not hold its value
abbrev pub row_fault : List Kind → List Value → Option RowFault
row_fault kinds values =
    if length values == length kinds
    then option_map (λ k. KindAt (k + 1)) (position (λ p. not (admits p.0 p.1)) (zip kinds values))
    else Some Width

-- what a fault says of the values: that it is theirs, or that they have none where memory alone was refused
abbrev pub said_of_cells : RowFault → Option RowFault
said_of_cells OutOfMemory = None
said_of_cells fault = Some fault

-- the value in a column, from 1
abbrev pub cell_at : List Value → ℕ → Option Value
cell_at values column = if column == 0 then None else slice_get values (column - 1)
