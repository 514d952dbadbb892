-- Inside: how partitions are gathered, a row at a time.
use Rattle.std.specs.Prelude.{List, [], ◌∷◌, ◌++◌, map, if◌then◌else◌}
use Rattle.rp_value.specs.RowLists.{rows_added}
use Rattle.rp_value.specs.declared.row_list.RowList.{RowList}
use Rattle.rp_value.specs.declared.value.Value.{Value}
use Rattle.rp_query.specs.Keys.{same_key}
use Rattle.rp_numbering.specs.Partitions.{Part}
use Rattle.rp_numbering.specs.declared.partition.Part.{Part as Gathered}

-- partitions as plain lists: keys with their rows
abbrev pub parts_of : List Gathered → List Part
parts_of parts = map (λ part. (part.key, part.rows.items)) parts

-- the same, of keys with the rows that were added for them
abbrev pub parts_added : List (List Value × RowList) → List Part
parts_added entries = map (λ entry. (entry.0, rows_added entry.1)) entries

-- a row more in the partition of its key, which comes last where it is new
abbrev pub with_row : List Part → List Value → List Value → List Part
with_row [] key row = (key, row ∷ []) ∷ []
with_row (part ∷ parts) key row =
    if same_key key part.0 then (part.0, part.1 ++ row ∷ []) ∷ parts else part ∷ with_row parts key row
