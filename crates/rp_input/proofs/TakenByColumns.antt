-- The records that were taken so far, as rows by columns.
use Rattle.std.proofs.Common.{◌≡◌, ◌≤◌, ◌+◌, ◌∙◌, ◌++◌, ◌∷◌, [], ℕ, suc, List, true, false, length, Bor, sym, ap, subst, arith, inl, inr, length-append, append_assoc}
use Rattle.std.specs.Prelude.{IfOk, IfErr, Result, Ok, Err}
use Rattle.std.proofs.lemmas.List.{append-nil}
use Rattle.csv.specs.Reading.{reader_state}
use Rattle.csv.specs.declared.reader.Reader.{Reader}
use Rattle.rp_columns.specs.declared.columns.InputColumn.{InputColumn}
use Rattle.rp_value.specs.declared.value.Value.{Value}
use Rattle.rp_input.specs.declared.columns_fault.ColumnsCsvFault.{ColumnsCsvFault}
use Rattle.rp_input.specs.declared.columns_fault.ColumnsCsvFault.TheVariants.{Header, Missing, Double, Record, Field, Read, Turns, OutOfMemory}
use Rattle.rp_input.specs.declared.layout.CsvLayout.{CsvLayout}
use Rattle.rp_input.specs.declared.placed.Placed.{Placed}
use Rattle.rp_input.specs.declared.places.Places.{Places}
use Rattle.rp_input.specs.Beginning.{Begins, HasRead}
use Rattle.rp_input.specs.ByColumns.{AreBelowHeader, AreInOrder, AreLaidOut, AreRowsBy, AreRowsByColumns, IsByColumnsFault, IsFirstBad, IsHeaderFault, IsPlacesFault, IsRecordFault, IsRowBy}
use Rattle.rp_input.specs.CsvRows.{most_records}
use Rattle.rp_input.specs.Layouts.{records_by}
use Rattle.rp_input.specs.Placed.{ArePlaced, fields_read, places_from}
use Rattle.rp_input.specs.Standing.{AreAll, Stands}
use Rattle.rp_input.proofs.CsvRecords.{all_of, begins}

pub record Taken (words : List (List ℕ)) (layout : CsvLayout) (columns : List InputColumn) (text : List ℕ) (placed : List Placed) (width : ℕ) (rows : List (List Value)) (number : ℕ) (r : Reader (Bor (List ℕ))) : Type 0 where
  pub first : List (List (List ℕ))
  pub records : List (List (List ℕ))
  pub stands : Stands layout.delimiter text (first ++ records) r
  pub laid_out : (more : List (List (List ℕ))) → records_by layout.delimiter text ≡ first ++ more → AreLaidOut layout columns text placed width more
  pub are : AreRowsBy words placed width 1 records rows
  pub place : number ≡ length records + 1

-- one more record that is a row
rows_more : (words : List (List ℕ)) (placed : List Placed) (width n : ℕ) (rs : List (List (List ℕ))) (rows : List (List Value)) (r : List (List ℕ)) (row : List Value)
    → AreRowsBy words placed width n rs rows → IsRowBy words placed width (n + length rs) r row → AreRowsBy words placed width n (rs ++ r ∷ []) (rows ++ row ∷ [])
rows_more words placed width n [] [] r row h is = let same : n + 0 ≡ n = omega arith in (subst (λ m. IsRowBy words placed width m r row) same is, tt)
rows_more words placed width n [] (x ∷ rows) r row h is = absurd h
rows_more words placed width n (s ∷ rs) [] r row h is = absurd h
rows_more words placed width n (s ∷ rs) (x ∷ rows) r row h is =
    let same : n + suc (length rs) ≡ (n + 1) + length rs = omega arith in
    (h.0, rows_more words placed width (n + 1) rs rows r row h.1 (subst (λ m. IsRowBy words placed width m r row) same is))

-- the text has these records first
first_of : (d : ℕ) (text : List ℕ) (records : List (List (List ℕ))) (r : Reader (Bor (List ℕ))) → Stands d text records r → (after : List (List (List ℕ))) × (records_by d text ≡ records ++ after)
first_of d text records r at = begins d text records (reader_state r, at.rest, at.reached)

pub first_taken : (words : List (List ℕ)) (layout : CsvLayout) (columns : List InputColumn) (text : List ℕ) (placed : List Placed) (width : ℕ) (r : Reader (Bor (List ℕ))) → Begins layout columns text placed width r → Taken words layout columns text placed width [] 1 r
first_taken words layout columns text placed width r b =
    let none : b.first ++ [] ≡ b.first = append-nil b.first in
    record { first = b.first; records = []; stands = subst (λ rs. Stands layout.delimiter text rs r) (sym none) b.stands; laid_out = b.laid_out; are = tt; place = omega arith }

pub no_header : (d : ℕ) (text : List ℕ) → AreAll d text [] → records_by d text ≡ []
no_header d text all = all_of d text [] all

-- a header in which a column has no one place
pub places_fault : (d : ℕ) (columns : List InputColumn) (text : List ℕ) (r : Reader (Bor (List ℕ))) (header : List (List ℕ)) (fault : ColumnsCsvFault) → Stands d text (header ∷ []) r → IsPlacesFault columns header fault → IsHeaderFault d columns text fault
places_fault d columns text r header Header at h = absurd h
places_fault d columns text r header (Missing i) at h = let first = first_of d text (header ∷ []) r at in (header, first.0, first.1, h)
places_fault d columns text r header (Double i) at h = let first = first_of d text (header ∷ []) r at in (header, first.0, first.1, h)
places_fault d columns text r header (Record n) at h = absurd h
places_fault d columns text r header (Field n i why) at h = absurd h
places_fault d columns text r header Read at h = absurd h
places_fault d columns text r header Turns at h = absurd h
places_fault d columns text r header OutOfMemory at h = tt

-- a text that has to have a header and has none for the columns
pub header_fault : (words : List (List ℕ)) (layout : CsvLayout) (columns : List InputColumn) (text : List ℕ) (fault : ColumnsCsvFault) → layout.has_header ≡ true → IsHeaderFault layout.delimiter columns text fault → IsByColumnsFault words layout columns text fault
header_fault words layout columns text Header has h = (has, h)
header_fault words layout columns text (Missing i) has h = (has, h)
header_fault words layout columns text (Double i) has h = (has, h)
header_fault words layout columns text (Record n) has h = absurd h
header_fault words layout columns text (Field n i why) has h = absurd h
header_fault words layout columns text Read has h = absurd h
header_fault words layout columns text Turns has h = absurd h
header_fault words layout columns text OutOfMemory has h = tt

module _ (layout : CsvLayout) (columns : List InputColumn) (text : List ℕ) (placed : List Placed) (width : ℕ) (r : Reader (Bor (List ℕ))) where
  pub begins_below : layout.has_header ≡ true → HasRead layout.delimiter columns text placed width r → Begins layout columns text placed width r
  begins_below has b = record {
    first = b.header ∷ [];
    stands = b.stands;
    laid_out = λ records all. rw has (record { header = b.header; first = all; places = b.places; wide = b.wide });
  }

  pub begins_in_order : layout.has_header ≡ false → Stands layout.delimiter text [] r → placed ≡ places_from 0 columns → width ≡ fields_read columns → Begins layout columns text placed width r
  begins_in_order has at places wide = record {
    first = [];
    stands = at;
    laid_out = λ records all. rw has (record { same = all; places = places; wide = wide });
  }

-- what is said of a fault that was passed on
pub err_is : {X : Type 0} (r : Result X ColumnsCsvFault) (fault : ColumnsCsvFault) → r ≡ Err fault → (P : ColumnsCsvFault → Type 0) → P fault → IfErr r P
err_is r fault is P h = subst (λ r. IfErr r P) (sym is) h

-- what was found below a header
module _ (layout : CsvLayout) (columns : List InputColumn) (a : Reader (Bor (List ℕ))) where
  pub if_below : (b : Reader (Bor (List ℕ))) → layout.has_header ≡ true → (r : Result Places ColumnsCsvFault)
      → IfOk r (λ places. (d : ℕ) (text : List ℕ) → Stands d text [] a → HasRead d columns text places.columns.items places.width b)
      → IfOk r (λ places. (text : List ℕ) → Stands layout.delimiter text [] a → Begins layout columns text places.columns.items places.width b)
  if_below b has (Ok places) h = λ text at. begins_below layout columns text places.columns.items places.width b has (h layout.delimiter text at)
  if_below b has (Err fault) h = tt

  pub if_headless : layout.has_header ≡ true → (r : Result Places ColumnsCsvFault)
      → IfErr r (λ fault. (d : ℕ) (text : List ℕ) → Stands d text [] a → IsHeaderFault d columns text fault)
      → IfErr r (λ fault. (words : List (List ℕ)) (text : List ℕ) → Stands layout.delimiter text [] a → IsByColumnsFault words layout columns text fault)
  if_headless has (Ok places) h = tt
  if_headless has (Err fault) h = λ words text at. header_fault words layout columns text fault has (h layout.delimiter text at)

module _ (words : List (List ℕ)) (layout : CsvLayout) (columns : List InputColumn) (text : List ℕ) (placed : List Placed) (width : ℕ) (rows : List (List Value)) (number : ℕ) (a : Reader (Bor (List ℕ))) (t : Taken words layout columns text placed width rows number a) where
  -- one more record, as a row
  pub taken_more : (b : Reader (Bor (List ℕ))) (f : List (List ℕ)) (row : List Value) → Stands layout.delimiter text ((t.first ++ t.records) ++ f ∷ []) b → IsRowBy words placed width number f row
      → Taken words layout columns text placed width (rows ++ row ∷ []) (number + 1) b
  taken_more b f row at is =
      let p = t.place in
      let nth : number ≡ 1 + length t.records = omega (arith, p) in
      record {
        first = t.first;
        records = t.records ++ f ∷ [];
        stands = subst (λ rs. Stands layout.delimiter text rs b) (append_assoc t.first t.records (f ∷ [])) at;
        laid_out = t.laid_out;
        are = rows_more words placed width 1 t.records rows f row t.are (subst (λ m. IsRowBy words placed width m f row) nth is);
        place = omega (arith, p, length-append t.records (f ∷ []));
      }

  pub all_taken : number ≤ most_records + 1 → AreAll layout.delimiter text (t.first ++ t.records) → AreRowsByColumns words layout columns text rows
  all_taken small all = record {
    records = t.records;
    placed = placed;
    width = width;
    laid_out = t.laid_out t.records (all_of layout.delimiter text (t.first ++ t.records) all);
    are = t.are;
    few = let p = t.place in omega arith;
  }

  -- a record at fault
  first_bad : (b : Reader (Bor (List ℕ))) (f : List (List ℕ)) (Why : List Placed → ℕ → List (List ℕ) → Type 0) → number ≤ most_records + 1 → Stands layout.delimiter text ((t.first ++ t.records) ++ f ∷ []) b → Why placed width f
      → IsFirstBad words layout columns text number Why
  first_bad b f Why small at why =
      let first = first_of layout.delimiter text ((t.first ++ t.records) ++ f ∷ []) b at in
      let all : records_by layout.delimiter text ≡ t.first ++ (t.records ++ f ∷ first.0) = first.1 ∙ append_assoc (t.first ++ t.records) (f ∷ []) first.0 ∙ append_assoc t.first t.records (f ∷ first.0) in
      record {
        before = t.records;
        fields = f;
        after = first.0;
        placed = placed;
        width = width;
        rows = rows;
        laid_out = t.laid_out (t.records ++ f ∷ first.0) all;
        are = t.are;
        few = let p = t.place in omega arith;
        place = t.place;
        why = why;
      }

  pub fault_taken : (b : Reader (Bor (List ℕ))) (f : List (List ℕ)) (fault : ColumnsCsvFault) → number ≤ most_records → Stands layout.delimiter text ((t.first ++ t.records) ++ f ∷ []) b → IsRecordFault words placed width f number fault
      → IsByColumnsFault words layout columns text fault
  fault_taken b f Header small at h = absurd h
  fault_taken b f (Missing i) small at h = absurd h
  fault_taken b f (Double i) small at h = absurd h
  fault_taken b f (Record n) small at h = rw h.0 (first_bad b f _ (omega arith) at (inl h.1))
  fault_taken b f (Field n i why) small at h = rw h.0 (small, first_bad b f _ (omega arith) at (h.1, h.2))
  fault_taken b f Read small at h = absurd h
  fault_taken b f Turns small at h = absurd h
  fault_taken b f OutOfMemory small at h = tt

  pub limit_taken : (b : Reader (Bor (List ℕ))) (f : List (List ℕ)) → Stands layout.delimiter text ((t.first ++ t.records) ++ f ∷ []) b → number ≡ most_records + 1 → IsByColumnsFault words layout columns text (Record (most_records + 1))
  limit_taken b f at is = rw (← is) (first_bad b f _ (omega arith) at (inr (omega arith)))
