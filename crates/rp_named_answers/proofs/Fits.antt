-- The rows of a text, by whichever columns it is read, are rows of the table that a clause sees.
use Rattle.std.proofs.Common.{◌≡◌, ◌∙◌, ℕ, ◌+◌, ◌==◌, Bool, true, false, not, cond, Some, None, List, [], ◌∷◌, length, map, Result, Ok, Err, Option, refl, ap, subst, eq-eqb, arith}
use Rattle.std.specs.Prelude.{ℤ, ⊤, All, MatchBool, filter, option_map, position, zip, if◌then◌else◌}
use Rattle.std.specs.Char.{to_ascii_lowercase}
use Rattle.std.specs.List.{AllByRecursion}
use Rattle.std.specs.Str.{is_utf8}
use Rattle.std.proofs.lemmas.List.Elements.{All-head, recursion_from_All}
use Rattle.json.specs.Json.{Json}
use Rattle.rp_value.specs.Rows.{admits, row_fault}
use Rattle.rp_value.specs.Tables.{kinds_of}
use Rattle.rp_value.specs.declared.row.RowFault.TheVariants.{Width, Kind as KindAt}
use Rattle.rp_value.specs.declared.table.Column.{Column}
use Rattle.rp_value.specs.declared.value.Kind.{Kind}
use Rattle.rp_value.specs.declared.value.Kind.TheVariants as kind
use Rattle.rp_value.specs.declared.value.Value.{Value}
use Rattle.rp_value.specs.declared.value.Value.TheVariants.{Null, Int, Text}
use Rattle.rp_query.specs.Keys.{AreRowsOver}
use Rattle.rp_query.proofs.KeyFaults.{none_fails_more}
use Rattle.rp_io.specs.Lines.{lines_of}
use Rattle.rp_columns.specs.Fronts.{◌>>=◌, are_blanks}
use Rattle.rp_columns.specs.Headings.{headings}
use Rattle.rp_columns.specs.Readings.{is_null, kind_of, number_of, reads_field, value_of}
use Rattle.rp_columns.specs.declared.columns.InputColumn.{InputColumn}
use Rattle.rp_columns.specs.declared.fault.ReadingFault.{ReadingFault}
use Rattle.rp_columns.specs.declared.fault.ReadingFault.TheVariants as why
use Rattle.rp_columns.specs.declared.reading.Reading.{Reading}
use Rattle.rp_columns.specs.declared.reading.Reading.TheVariants as reading
use Rattle.rp_numbering.specs.Numbered.{AreOrdered}
use Rattle.rp_numbering.specs.Partitions.{Part, partitions}
use Rattle.rp_input.specs.declared.layout.CsvLayout.{CsvLayout}
use Rattle.rp_objects.specs.Cells.{cell_of, cells_from, then_cell, told_reading, value_in}
use Rattle.rp_objects.specs.ObjectRows.{AreRowsBy, IsRowBy, is_blank}
use Rattle.rp_objects.specs.Paths.{field_under, path_of}
use Rattle.rp_objects.specs.declared.fault.FieldFault.{FieldFault}
use Rattle.rp_whole.specs.Fitting.{PartsFit, PartsFitColumns}
use Rattle.rp_question.specs.Read.{AreRowsBy as AreShapeRows, columns_seen}
use Rattle.rp_question.specs.declared.shape.InputShape.{InputShape}
use Rattle.rp_question.specs.declared.shape.InputShape.TheVariants.{Table, Columns, Objects}

-- the rows are rows over these columns
abbrev pub Fit : List Column → List (List Value) → Type 0
Fit columns rows = AllByRecursion (λ row. row_fault (kinds_of columns) row ≡ None) rows

-- ---- by a table, and by columns: rows of which none is apart are the rows of one partition

in_place : (parts : List Part) → AreOrdered [] parts parts
in_place [] = tt
in_place (part ∷ parts) = (refl, ((λ k d low high. refl), λ x. refl), in_place parts)

all_pass : {X : Type 0} (xs : List X) → filter (λ x. true) xs ≡ xs
all_pass [] = refl
all_pass (x ∷ xs) = ap (λ ys. x ∷ ys) (all_pass xs)

in_one_part : (columns : List Column) (rows : List (List Value)) → All (λ part. AreRowsOver columns part.1) (partitions [] rows) → Fit columns rows
in_one_part columns [] h = tt
in_one_part columns (row ∷ rows) h =
    let first = All-head (λ (part : Part). AreRowsOver columns part.1) _ _ h in
    recursion_from_All (λ row. row_fault (kinds_of columns) row ≡ None) (row ∷ rows) (subst (λ more. AreRowsOver columns (row ∷ more)) (all_pass rows) first)

-- ---- by objects

-- a value that was given is of a kind
abbrev GivesKind : {E : Type 0} → Kind → Result Value E → Type 0
GivesKind k (Ok v) = admits k v ≡ true
GivesKind k (Err e) = ⊤

null_fits : (k : Kind) → admits k Null ≡ true
null_fits kind.Int = refl
null_fits kind.Text = refl

null_given : (k : Kind) (b : Bool) (r : Result Value ReadingFault) → GivesKind k r → GivesKind k (if b then Ok Null else r)
null_given k true r h = null_fits k
null_given k false r h = h

text_given : (b : Bool) (text : List ℕ) → GivesKind kind.Text (if b then Ok (Text text) else Err why.NotText)
text_given true text = refl
text_given false text = tt

number_given : (r : Result ℤ ReadingFault) → GivesKind kind.Int (r >>= (λ z. Ok (Int z)))
number_given (Ok z) = refl
number_given (Err e) = tt

number_or_null : (words : List (List ℕ)) (r : Reading) (bytes : List ℕ)
    → GivesKind kind.Int (if is_null words bytes then Ok Null else (if are_blanks bytes then Ok Null else (number_of r bytes >>= (λ z. Ok (Int z)))))
number_or_null words r bytes = null_given kind.Int (is_null words bytes) _ (null_given kind.Int (are_blanks bytes) _ (number_given (number_of r bytes)))

value_kind : (words : List (List ℕ)) (r : Reading) (n : ℕ) (bytes : List ℕ) → GivesKind (kind_of r) (value_of words r n bytes)
value_kind words reading.Record n bytes = refl
value_kind words reading.Text n bytes = null_given kind.Text (is_null words bytes) _ (text_given (is_utf8 bytes) bytes)
value_kind words reading.Lower n bytes = null_given kind.Text (is_null words bytes) _ (text_given (is_utf8 bytes) (map to_ascii_lowercase bytes))
value_kind words reading.Int n bytes = number_or_null words reading.Int bytes
value_kind words (reading.Decimal places marks) n bytes = number_or_null words (reading.Decimal places marks) bytes
value_kind words (reading.Instant unit z) n bytes = number_or_null words (reading.Instant unit z) bytes
value_kind words reading.Day n bytes = number_or_null words reading.Day bytes
value_kind words (reading.Formatted unit format z) n bytes = number_or_null words (reading.Formatted unit format z) bytes
value_kind words (reading.FormattedDay format) n bytes = number_or_null words (reading.FormattedDay format) bytes

told_kind : (k : Kind) (r : Result Value ReadingFault) → GivesKind k r → GivesKind k (told_reading r)
told_kind k (Ok v) h = h
told_kind k (Err e) h = tt

field_kind : (words : List (List ℕ)) (r : Reading) (n : ℕ) (field : Result (Option (List ℕ)) FieldFault) → GivesKind (kind_of r) (value_in words r n field)
field_kind words r n (Err e) = tt
field_kind words r n (Ok None) = null_fits (kind_of r)
field_kind words r n (Ok (Some bytes)) = told_kind (kind_of r) (value_of words r n bytes) (value_kind words r n bytes)

cell_kind : (words : List (List ℕ)) (n : ℕ) (j : Json) (c : InputColumn) → GivesKind (kind_of c.reading) (cell_of words n j c)
cell_kind words n j c = go (reads_field c.reading)
  where
    go : (b : Bool) → GivesKind (kind_of c.reading) (if b then value_in words c.reading n (field_under (path_of c.source) j) else told_reading (value_of words c.reading n []))
    go true = field_kind words c.reading n (field_under (path_of c.source) j)
    go false = told_kind (kind_of c.reading) (value_of words c.reading n []) (value_kind words c.reading n [])

-- no value of a row is refused by its column
abbrev AreAdmitted : List Kind → List Value → Type 0
AreAdmitted kinds row = (length row ≡ length kinds) × (position (λ p. not (admits p.0 p.1)) (zip kinds row) ≡ None)

admitted_fits : (kinds : List Kind) (row : List Value) → AreAdmitted kinds row → row_fault kinds row ≡ None
admitted_fits kinds row are =
    let same : (length row == length kinds) ≡ true = eq-eqb _ _ are.0 in
    ap (λ b. cond b (option_map (λ k. KindAt (k + 1)) (position (λ p. not (admits p.0 p.1)) (zip kinds row))) (Some Width)) same
    ∙ ap (option_map (λ k. KindAt (k + 1))) are.1

-- the cells that were given fit these kinds
abbrev GivesRow : List Kind → Result (List Value) (ℕ × FieldFault) → Type 0
GivesRow kinds (Ok row) = AreAdmitted kinds row
GivesRow kinds (Err e) = ⊤

then_given : (i : ℕ) (k : Kind) (ks : List Kind) (v : Result Value FieldFault) (more : Result (List Value) (ℕ × FieldFault)) → GivesKind k v → GivesRow ks more → GivesRow (k ∷ ks) (then_cell i v more)
then_given i k ks (Err e) more h later = tt
then_given i k ks (Ok v) (Err e) h later = tt
then_given i k ks (Ok v) (Ok vs) h later = (omega (arith, later.0), none_fails_more (λ (p : Kind × Value). admits p.0 p.1) (k, v) (zip ks vs) h later.1)

cells_given : (i : ℕ) (words : List (List ℕ)) (n : ℕ) (j : Json) (cs : List InputColumn) → GivesRow (kinds_of (headings cs)) (cells_from i words n j cs)
cells_given i words n j [] = (refl, refl)
cells_given i words n j (c ∷ cs) =
    then_given i (kind_of c.reading) (kinds_of (headings cs)) (cell_of words n j c) (cells_from (i + 1) words n j cs) (cell_kind words n j c) (cells_given (i + 1) words n j cs)

row_given : (words : List (List ℕ)) (cs : List InputColumn) (n : ℕ) (line : List ℕ) (row : List Value) → IsRowBy words cs n line row → row_fault (kinds_of (headings cs)) row ≡ None
row_given words cs n line row h = admitted_fits (kinds_of (headings cs)) row (subst (GivesRow (kinds_of (headings cs))) h.2 (cells_given 0 words n h.0 cs))

-- a line that isn't blank is a row, and the later ones are the others
line_fits : (words : List (List ℕ)) (cs : List InputColumn) (n : ℕ) (l : List ℕ) (ls : List (List ℕ)) (row : List Value) (rows : List (List Value)) (blank : Bool)
    → MatchBool blank (AreRowsBy words cs n ls (row ∷ rows)) (IsRowBy words cs n l row × AreRowsBy words cs (n + 1) ls rows)
    → (AreRowsBy words cs n ls (row ∷ rows) → Fit (headings cs) (row ∷ rows)) → (AreRowsBy words cs (n + 1) ls rows → Fit (headings cs) rows) → Fit (headings cs) (row ∷ rows)
line_fits words cs n l ls row rows true h passed taken = passed h
line_fits words cs n l ls row rows false h passed taken = (row_given words cs n l row h.0, taken h.1)

objects_fit : (words : List (List ℕ)) (cs : List InputColumn) (n : ℕ) (lines : List (List ℕ)) (rows : List (List Value)) → AreRowsBy words cs n lines rows → Fit (headings cs) rows
objects_fit words cs n [] [] h = tt
objects_fit words cs n [] (row ∷ rows) h = absurd h
objects_fit words cs n (l ∷ ls) [] h = tt
objects_fit words cs n (l ∷ ls) (row ∷ rows) h =
    line_fits words cs n l ls row rows (is_blank l) h (λ k. objects_fit words cs n ls (row ∷ rows) k) (λ k. objects_fit words cs (n + 1) ls rows k)

-- ---- by a reading

module _ (table : PartsFit) (by_columns : PartsFitColumns) where
  pub rows_fit : (shape : InputShape) (layout : CsvLayout) (words : List (List ℕ)) (text : List ℕ) (rows : List (List Value)) → AreShapeRows shape layout words text rows → Fit (columns_seen shape) rows
  rows_fit (Table columns) layout words text rows h =
      in_one_part columns rows (table columns [] [] text rows (partitions [] rows) h (in_place (partitions [] rows)))
  rows_fit (Columns columns) layout words text rows h =
      in_one_part (headings columns) rows (by_columns words layout columns [] [] text rows (partitions [] rows) h (in_place (partitions [] rows)))
  rows_fit (Objects columns) layout words text rows h = objects_fit words columns 1 (lines_of text) rows h.are
