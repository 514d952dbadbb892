-- The rows of a text by a table are those by the columns of that table.
use Rattle.std.proofs.Common.{◌≡◌, ◌∙◌, ◌+◌, ℕ, suc, true, List, [], ◌∷◌, drop, length, Some, Result, Ok, refl, sym, ap, subst, arith}
use Rattle.std.specs.Prelude.{slice_get}
use Rattle.std.proofs.lemmas.List.{drop-drop}
use Rattle.csv.specs.Records.{field_at}
use Rattle.rp_columns.specs.Headings.{column_for, columns_for, reading_of}
use Rattle.rp_columns.specs.Readings.{reads_field}
use Rattle.rp_columns.specs.declared.fault.ReadingFault.{ReadingFault}
use Rattle.rp_value.specs.Tables.{kinds_of}
use Rattle.rp_value.specs.declared.table.Column.{Column}
use Rattle.rp_value.specs.declared.value.Kind.{Kind}
use Rattle.rp_value.specs.declared.value.Kind.TheVariants as kind
use Rattle.rp_value.specs.declared.value.Value.{Value}
use Rattle.rp_input.specs.ByColumns.{AreRowsBy, AreRowsByColumns}
use Rattle.rp_input.specs.CsvRows.{AreRows, AreRowsOf}
use Rattle.rp_input.specs.Fields.{IsField, IsRow}
use Rattle.rp_input.specs.Headers.{NamesColumns}
use Rattle.rp_input.specs.Layouts.{plain_layout}
use Rattle.rp_input.specs.Placed.{ArePlaced, HasPlace, IsOnlyPlace, NamesAt, cell_of, cells_from, place_after, places_from, then_cell}
use Rattle.rp_input.specs.SameFields.{AreApart, RowsReadAlike}
use Rattle.rp_input.specs.declared.placed.Placed.{Placed}
use Rattle.rp_input.proofs.Placing.{at_place}
use Rattle.rp_input.proofs.SameFields.{same_field}

reads : (k : Kind) → reads_field (reading_of k) ≡ true
reads kind.Int = refl
reads kind.Text = refl

next_place : (c : Column) (i : ℕ) → place_after (column_for c) i ≡ i + 1
next_place c i = rw (reads c.kind) refl

-- the elements behind one that is known
behind : {A : Type 0} (xs : List A) (n : ℕ) (x : A) (rest : List A) → drop n xs ≡ x ∷ rest → drop (n + 1) xs ≡ rest
behind xs n x rest e = sym (drop-drop 1 n xs) ∙ ap (drop 1) e

-- a field that is known stands at its place
stands : (fields : List (List ℕ)) (i : ℕ) (f : List ℕ) (fs : List (List ℕ)) → drop i fields ≡ f ∷ fs → field_at fields i ≡ Some f
stands fields i f fs e = at_place fields i f (e ∙ ap (λ xs. f ∷ xs) (sym (behind fields i f fs e)))

placed_apart : (header : List (List ℕ)) (cs : List Column) (i : ℕ) → NamesColumns cs (drop i header)
    → ((j : ℕ) (c : Column) → slice_get cs j ≡ Some c → (other : ℕ) → NamesAt c.name header other → other ≡ i + j)
    → ArePlaced header (columns_for cs) (places_from i (columns_for cs))
placed_apart header [] i names apart = tt
placed_apart header (c ∷ cs) i names apart =
    by (drop i header) refl names (λ named. placed_apart header cs (i + 1) named (λ j d is other at. let same = apart (suc j) d is other at in omega (arith, same)))
  where
    by : (rest : List (List ℕ)) → drop i header ≡ rest → NamesColumns (c ∷ cs) rest
        → (NamesColumns cs (drop (i + 1) header) → ArePlaced header (columns_for cs) (places_from (i + 1) (columns_for cs)))
        → ArePlaced header (columns_for (c ∷ cs)) (places_from i (columns_for (c ∷ cs)))
    by [] e named more = absurd named
    by (f ∷ fs) e named more =
        let only : IsOnlyPlace c.name header i = record {
          names = (f, stands header i f fs e, named.0);
          only = λ other is. let same = apart 0 c refl other is in omega (arith, same);
        } in
        let here : HasPlace header (column_for c) i = rw (reads c.kind) only in
        let later = more (subst (NamesColumns cs) (sym (behind header i f fs e)) named.1) in
        (refl, here, rw (next_place c i) later)

row_same : (n : ℕ) (cs : List Column) (fields : List (List ℕ)) (i index : ℕ) (row : List Value) → IsRow (kinds_of cs) (drop i fields) row
    → cells_from index ([] ∷ []) n (places_from i (columns_for cs)) fields ≡ Ok row
row_same n [] fields i index row h = by (drop i fields) row h
  where
    by : (rest : List (List ℕ)) (row : List Value) → IsRow [] rest row → ◌≡◌ {A = Result (List Value) (ℕ × ReadingFault)} (Ok []) (Ok row)
    by [] [] h = refl
    by [] (v ∷ vs) h = absurd h
    by (f ∷ fs) row h = absurd h
row_same n (c ∷ cs) fields i index row h = by (drop i fields) refl row h (row_same n cs fields (i + 1) (index + 1))
  where
    by : (rest : List (List ℕ)) → drop i fields ≡ rest → (row : List Value) → IsRow (kinds_of (c ∷ cs)) rest row
        → ((vs : List Value) → IsRow (kinds_of cs) (drop (i + 1) fields) vs → cells_from (index + 1) ([] ∷ []) n (places_from (i + 1) (columns_for cs)) fields ≡ Ok vs)
        → cells_from index ([] ∷ []) n (places_from i (columns_for (c ∷ cs))) fields ≡ Ok row
    by [] e row h more = absurd h
    by (f ∷ fs) e [] h more = absurd h
    by (f ∷ fs) e (v ∷ vs) h more =
        let cell : cell_of ([] ∷ []) n fields (record { reading = reading_of c.kind; place = i }) ≡ Ok v = rw (stands fields i f fs e) (same_field c.kind n f v h.0) in
        let later = more vs (subst (λ xs. IsRow (kinds_of cs) xs vs) (sym (behind fields i f fs e)) h.1) in
        rw (cell, next_place c i, later) refl

row_length : (cs : List Column) (fields : List (List ℕ)) (row : List Value) → IsRow (kinds_of cs) fields row → length fields ≡ length cs
row_length [] [] [] h = refl
row_length [] [] (v ∷ vs) h = absurd h
row_length [] (f ∷ fs) row h = absurd h
row_length (c ∷ cs) [] row h = absurd h
row_length (c ∷ cs) (f ∷ fs) [] h = absurd h
row_length (c ∷ cs) (f ∷ fs) (v ∷ vs) h = ap suc (row_length cs fs vs h.1)

names_length : (cs : List Column) (header : List (List ℕ)) → NamesColumns cs header → length header ≡ length cs
names_length [] [] h = refl
names_length [] (f ∷ fs) h = absurd h
names_length (c ∷ cs) [] h = absurd h
names_length (c ∷ cs) (f ∷ fs) h = ap suc (names_length cs fs h.1)

rows_same : (cs : List Column) (width : ℕ) → width ≡ length cs → (n : ℕ) (records : List (List (List ℕ))) (rows : List (List Value)) → AreRows (kinds_of cs) records rows
    → AreRowsBy ([] ∷ []) (places_from 0 (columns_for cs)) width n records rows
rows_same cs width wide n [] [] h = tt
rows_same cs width wide n [] (row ∷ rows) h = absurd h
rows_same cs width wide n (r ∷ rs) [] h = absurd h
rows_same cs width wide n (r ∷ rs) (row ∷ rows) h = ((row_length cs r row h.0 ∙ sym wide, row_same n cs r 0 0 row h.0), rows_same cs width wide (n + 1) rs rows h.1)

pub same_rows : RowsReadAlike
same_rows columns text rows read apart =
    let wide = names_length columns read.header read.named in
    record {
      records = read.records;
      placed = places_from 0 (columns_for columns);
      width = length read.header;
      laid_out = record {
        header = read.header;
        first = read.all;
        places = placed_apart read.header columns 0 read.named (λ j c is other at. let same = apart j c is other at in omega (arith, same));
        wide = refl;
      };
      are = rows_same columns (length read.header) wide 1 read.records rows read.are;
      few = read.few;
    }
