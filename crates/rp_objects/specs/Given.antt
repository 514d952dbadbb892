-- Inside: what a function that may run out of memory gives.
use Rattle.std.specs.Prelude.{◌≡◌, ⊤, ℕ, List, Result, Ok, Err}
use Rattle.json.specs.Json.{Json}
use Rattle.rp_value.specs.declared.value.Value.{Value}
use Rattle.rp_columns.specs.declared.columns.InputColumn.{InputColumn}
use Rattle.rp_columns.specs.declared.fault.ReadingFault.{ReadingFault}
use Rattle.rp_columns.specs.declared.fault.ReadingFault.TheVariants.{OutOfMemory}
use Rattle.rp_objects.specs.Cells.{cells_from}
use Rattle.rp_objects.specs.declared.cells.CellsFault.{CellsFault}
use Rattle.rp_objects.specs.declared.cells.CellsFault.TheVariants as cells
use Rattle.rp_objects.specs.declared.fault.FieldFault.{FieldFault}
use Rattle.rp_objects.specs.declared.fault.FieldFault.TheVariants.{Reading}

-- what reading a field comes to, as the cell of the column of this index
abbrev pub told_at : ℕ → Result Value ReadingFault → Result Value CellsFault
told_at index (Ok v) = Ok v
told_at index (Err OutOfMemory) = Err cells.OutOfMemory
told_at index (Err why) = Err (cells.Field index (Reading why))

-- a cell is the one that is meant, unless memory ran out
abbrev pub GivesCell : Result Value CellsFault → ℕ → Result Value FieldFault → Type 0
GivesCell (Ok v) index meant = meant ≡ Ok v
GivesCell (Err (cells.Field at why)) index meant = (at ≡ index) × (meant ≡ Err why)
GivesCell (Err cells.OutOfMemory) index meant = ⊤

-- why an object has no cells, unless memory ran out
abbrev pub IsCellsFault : List (List ℕ) → ℕ → Json → List InputColumn → CellsFault → Type 0
IsCellsFault words number j columns (cells.Field index why) = cells_from 0 words number j columns ≡ Err (index, why)
IsCellsFault words number j columns cells.OutOfMemory = ⊤
