-- The cells of an object, a column at a time.
use Rattle.std.proofs.Common.{◌≡◌, ◌∙◌, ◌+◌, ℕ, List, [], ◌∷◌, ◌++◌, drop, Result, Ok, Err, append_assoc, append-nil, refl, sym, ap}
use Rattle.json.specs.Json.{Json}
use Rattle.rp_value.specs.declared.value.Value.{Value}
use Rattle.rp_columns.specs.Given.{Gives}
use Rattle.rp_columns.specs.declared.columns.InputColumn.{InputColumn}
use Rattle.rp_columns.specs.declared.fault.ReadingFault.{ReadingFault}
use Rattle.rp_columns.specs.declared.fault.ReadingFault.TheVariants.{OutOfMemory}
use Rattle.rp_objects.specs.Cells.{cell_of, cells_from, then_cell, told_reading}
use Rattle.rp_objects.specs.Given.{GivesCell, IsCellsFault, told_at}
use Rattle.rp_objects.specs.declared.cells.CellsFault.{CellsFault}
use Rattle.rp_objects.specs.declared.cells.CellsFault.TheVariants as cells
use Rattle.rp_objects.specs.declared.fault.FieldFault.{FieldFault}

-- what reading gave is the cell
pub told_gives : (index : ℕ) (cell meant : Result Value ReadingFault) → Gives cell meant → GivesCell (told_at index cell) index (told_reading meant)
told_gives index (Ok v) meant h = ap told_reading h
told_gives index (Err OutOfMemory) meant h = tt
told_gives index (Err why) meant h = (refl, ap told_reading h)

-- cells in front of those of later columns
abbrev pub in_front : List Value → Result (List Value) (ℕ × FieldFault) → Result (List Value) (ℕ × FieldFault)
in_front front (Ok rest) = Ok (front ++ rest)
in_front front (Err e) = Err e

pub none_in_front : (r : Result (List Value) (ℕ × FieldFault)) → r ≡ in_front [] r
none_in_front (Ok rest) = refl
none_in_front (Err e) = refl

one_more : (front : List Value) (index : ℕ) (v : Value) (r : Result (List Value) (ℕ × FieldFault)) → in_front front (then_cell index (Ok v) r) ≡ in_front (front ++ v ∷ []) r
one_more front index v (Ok rest) = ap Ok (sym (append_assoc front (v ∷ []) rest))
one_more front index v (Err e) = refl

module _ (words : List (List ℕ)) (number : ℕ) (j : Json) (columns : List InputColumn) (index : ℕ) (front : List Value)
    (before : cells_from 0 words number j columns ≡ in_front front (cells_from index words number j (drop index columns))) where
  pub cell_more : (c : InputColumn) (v : Value) → drop index columns ≡ c ∷ drop (index + 1) columns → cell_of words number j c ≡ Ok v
      → cells_from 0 words number j columns ≡ in_front (front ++ v ∷ []) (cells_from (index + 1) words number j (drop (index + 1) columns))
  cell_more c v next is =
      let later = cells_from (index + 1) words number j (drop (index + 1) columns) in
      before ∙ ap (λ cs. in_front front (cells_from index words number j cs)) next ∙ ap (λ cell. in_front front (then_cell index cell later)) is ∙ one_more front index v later

  pub cell_fault : (c : InputColumn) (fault : CellsFault) → drop index columns ≡ c ∷ drop (index + 1) columns → GivesCell (Err fault) index (cell_of words number j c)
      → IsCellsFault words number j columns fault
  cell_fault c (cells.Field at why) next is =
      let later = cells_from (index + 1) words number j (drop (index + 1) columns) in
      before ∙ ap (λ cs. in_front front (cells_from index words number j cs)) next ∙ ap (λ cell. in_front front (then_cell index cell later)) is.1 ∙ ap (λ i. Err (i, why)) (sym is.0)
  cell_fault c cells.OutOfMemory next is = tt

  pub cells_end : drop index columns ≡ [] → cells_from 0 words number j columns ≡ Ok front
  cells_end none = before ∙ ap (λ cs. in_front front (cells_from index words number j cs)) none ∙ ap Ok (append-nil front)
