-- The rows of a text by columns fit the table that these make, and so do those of its partitions.
use Rattle.std.proofs.Common.{◌≡◌, ℕ, ◌+◌, Bool, true, false, List, [], ◌∷◌, map, Result, Ok, Err, refl, sym, subst, arith}
use Rattle.std.specs.Prelude.{ℤ, ⊤, zip, MatchBool, if◌then◌else◌}
use Rattle.std.specs.Char.{to_ascii_lowercase}
use Rattle.std.specs.Cmp.{IsStrictWeakOrder}
use Rattle.std.specs.Str.{is_utf8}
use Rattle.std.proofs.lemmas.List.Elements.{All-from_recursion}
use Rattle.rp_columns.specs.Fronts.{◌>>=◌, are_blanks}
use Rattle.rp_columns.specs.Headings.{headings}
use Rattle.rp_columns.specs.Readings.{is_null, kind_of, number_of, value_of}
use Rattle.rp_columns.specs.declared.columns.InputColumn.{InputColumn}
use Rattle.rp_columns.specs.declared.fault.ReadingFault.{ReadingFault}
use Rattle.rp_columns.specs.declared.fault.ReadingFault.TheVariants as why
use Rattle.rp_columns.specs.declared.reading.Reading.{Reading}
use Rattle.rp_columns.specs.declared.reading.Reading.TheVariants as reading
use Rattle.rp_value.specs.Rows.{admits}
use Rattle.rp_value.specs.Tables.{kinds_of}
use Rattle.rp_value.specs.declared.value.Kind.{Kind}
use Rattle.rp_value.specs.declared.value.Kind.TheVariants as kind
use Rattle.rp_value.specs.declared.value.Value.{Value}
use Rattle.rp_value.specs.declared.value.Value.TheVariants.{Null, Int, Text}
use Rattle.rp_query.specs.declared.query.OrderColumn.{OrderColumn}
use Rattle.rp_query.specs.Keys.{AreRowsOver}
use Rattle.rp_query.proofs.KeyFaults.{none_fails_more}
use Rattle.rp_numbering.specs.Orders.{is_before}
use Rattle.rp_numbering.specs.Partitions.{partitions}
use Rattle.rp_input.specs.ByColumns.{AreBelowHeader, AreInOrder, AreLaidOut, AreRowsBy}
use Rattle.rp_input.specs.Layouts.{records_by}
use Rattle.rp_input.specs.Placed.{ArePlaced, cell_of, cells_from, place_after, places_from, then_cell}
use Rattle.rp_input.specs.declared.layout.CsvLayout.{CsvLayout}
use Rattle.rp_whole.specs.Fitting.{PartsFitColumns}
use Rattle.rp_whole.proofs.RowsFit.{AreAdmitted, Fit, admitted_fits, all_over, ordered_fit, parts_fit}

-- ---- a field's value

-- a value that was given is of a kind
abbrev GivesKind : Kind → Result Value ReadingFault → Type 0
GivesKind k (Ok v) = admits k v ≡ true
GivesKind k (Err why) = ⊤

null_given : (k : Kind) (b : Bool) (r : Result Value ReadingFault) → GivesKind k r → GivesKind k (if b then Ok Null else r)
null_given kind.Int true r h = refl
null_given kind.Text true r h = refl
null_given k false r h = h

text_given : (b : Bool) (text : List ℕ) → GivesKind kind.Text (if b then Ok (Text text) else Err why.NotText)
text_given true text = refl
text_given false text = tt

number_given : (r : Result ℤ ReadingFault) → GivesKind kind.Int (r >>= (λ z. Ok (Int z)))
number_given (Ok z) = refl
number_given (Err e) = tt

value_kind : (words : List (List ℕ)) (r : Reading) (n : ℕ) (bytes : List ℕ) → GivesKind (kind_of r) (value_of words r n bytes)
value_kind words reading.Record n bytes = refl
value_kind words reading.Text n bytes = null_given kind.Text (is_null words bytes) _ (text_given (is_utf8 bytes) bytes)
value_kind words reading.Lower n bytes = null_given kind.Text (is_null words bytes) _ (text_given (is_utf8 bytes) (map to_ascii_lowercase bytes))
value_kind words reading.Int n bytes = null_given kind.Int (is_null words bytes) _ (null_given kind.Int (are_blanks bytes) _ (number_given (number_of reading.Int bytes)))
value_kind words (reading.Decimal places marks) n bytes = null_given kind.Int (is_null words bytes) _ (null_given kind.Int (are_blanks bytes) _ (number_given (number_of (reading.Decimal places marks) bytes)))
value_kind words (reading.Instant unit z) n bytes = null_given kind.Int (is_null words bytes) _ (null_given kind.Int (are_blanks bytes) _ (number_given (number_of (reading.Instant unit z) bytes)))
value_kind words reading.Day n bytes = null_given kind.Int (is_null words bytes) _ (null_given kind.Int (are_blanks bytes) _ (number_given (number_of reading.Day bytes)))
value_kind words (reading.Formatted unit format z) n bytes = null_given kind.Int (is_null words bytes) _ (null_given kind.Int (are_blanks bytes) _ (number_given (number_of (reading.Formatted unit format z) bytes)))
value_kind words (reading.FormattedDay format) n bytes = null_given kind.Int (is_null words bytes) _ (null_given kind.Int (are_blanks bytes) _ (number_given (number_of (reading.FormattedDay format) bytes)))

-- ---- a record's row

-- the cells that were given fit these kinds
abbrev GivesRow : List Kind → Result (List Value) (ℕ × ReadingFault) → Type 0
GivesRow kinds (Ok row) = AreAdmitted kinds row
GivesRow kinds (Err e) = ⊤

then_given : (i : ℕ) (k : Kind) (ks : List Kind) (v : Result Value ReadingFault) (more : Result (List Value) (ℕ × ReadingFault)) → GivesKind k v → GivesRow ks more → GivesRow (k ∷ ks) (then_cell i v more)
then_given i k ks (Err why) more h later = tt
then_given i k ks (Ok v) (Err e) h later = tt
then_given i k ks (Ok v) (Ok vs) h later = (omega (arith, later.0), none_fails_more (λ (p : Kind × Value). admits p.0 p.1) (k, v) (zip ks vs) h later.1)

-- of columns that have their places in a header
cells_placed : (i : ℕ) (words : List (List ℕ)) (n : ℕ) (header : List (List ℕ)) (cs : List InputColumn) (ps : _) (fields : List (List ℕ)) → ArePlaced header cs ps → GivesRow (kinds_of (headings cs)) (cells_from i words n ps fields)
cells_placed i words n header [] [] fields h = (refl, refl)
cells_placed i words n header [] (p ∷ ps) fields h = absurd h
cells_placed i words n header (c ∷ cs) [] fields h = absurd h
cells_placed i words n header (c ∷ cs) (p ∷ ps) fields h =
    then_given i (kind_of c.reading) (kinds_of (headings cs)) (cell_of words n fields p) (cells_from (i + 1) words n ps fields)
    (subst (λ r. GivesKind (kind_of r) (cell_of words n fields p)) h.0 (value_kind words p.reading n _)) (cells_placed (i + 1) words n header cs ps fields h.2)

-- of columns whose fields stand in their order
cells_in_order : (i : ℕ) (words : List (List ℕ)) (n place : ℕ) (cs : List InputColumn) (fields : List (List ℕ)) → GivesRow (kinds_of (headings cs)) (cells_from i words n (places_from place cs) fields)
cells_in_order i words n place [] fields = (refl, refl)
cells_in_order i words n place (c ∷ cs) fields =
    then_given i (kind_of c.reading) (kinds_of (headings cs)) _ (cells_from (i + 1) words n (places_from (place_after c place) cs) fields)
    (value_kind words c.reading n _) (cells_in_order (i + 1) words n (place_after c place) cs fields)

rows_given : (words : List (List ℕ)) (kinds : List Kind) (ps : _) (width n : ℕ) (records : List (List (List ℕ))) (rows : List (List Value)) → AreRowsBy words ps width n records rows
    → ((n : ℕ) (fields : List (List ℕ)) → GivesRow kinds (cells_from 0 words n ps fields)) → Fit kinds rows
rows_given words kinds ps width n [] [] h given = tt
rows_given words kinds ps width n [] (row ∷ rows) h given = absurd h
rows_given words kinds ps width n (r ∷ rs) [] h given = tt
rows_given words kinds ps width n (r ∷ rs) (row ∷ rows) h given =
    (admitted_fits kinds row (subst (GivesRow kinds) h.0.1 (given n r)), rows_given words kinds ps width (n + 1) rs rows h.1 given)

laid_out_given : (words : List (List ℕ)) (layout : CsvLayout) (cs : List InputColumn) (text : List ℕ) (ps : _) (width : ℕ) (records : List (List (List ℕ))) → AreLaidOut layout cs text ps width records
    → (n : ℕ) (fields : List (List ℕ)) → GivesRow (kinds_of (headings cs)) (cells_from 0 words n ps fields)
laid_out_given words layout cs text ps width records h n fields = by layout.has_header h
  where
    by : (b : Bool) → MatchBool b (AreBelowHeader cs (records_by layout.delimiter text) ps width records) (AreInOrder cs (records_by layout.delimiter text) ps width records) → GivesRow (kinds_of (headings cs)) (cells_from 0 words n ps fields)
    by true below = cells_placed 0 words n below.header cs ps fields below.places
    by false order = subst (λ qs. GivesRow (kinds_of (headings cs)) (cells_from 0 words n qs fields)) (sym order.places) (cells_in_order 0 words n 0 cs fields)

pub fitting_columns : ((order : List OrderColumn) → IsStrictWeakOrder (is_before order)) → PartsFitColumns
fitting_columns weak words layout columns partition order text rows parts read ordered =
    let kinds = kinds_of (headings columns) in
    let given = laid_out_given words layout columns text read.placed read.width read.records read.laid_out in
    All-from_recursion (λ part. AreRowsOver (headings columns) part.1) parts
    (all_over (headings columns) parts
    (ordered_fit kinds order (weak order) (partitions partition rows) parts ordered
    (parts_fit kinds partition rows (rows_given words kinds read.placed read.width 1 read.records rows read.are given))))
