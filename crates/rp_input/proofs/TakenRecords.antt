-- The records that were taken so far, as rows.
use Rattle.std.proofs.Common.{◌≡◌, ◌≤◌, ◌+◌, ◌∙◌, ◌++◌, ◌∷◌, [], ℕ, List, length, Bor, ap, arith, inl, inr, length-append, append_assoc}
use Rattle.csv.specs.Reading.{reader_state}
use Rattle.csv.specs.declared.reader.Reader.{Reader}
use Rattle.rp_value.specs.Tables.{kinds_of}
use Rattle.rp_value.specs.declared.table.Column.{Column}
use Rattle.rp_value.specs.declared.value.Kind.{Kind}
use Rattle.rp_value.specs.declared.value.Value.{Value}
use Rattle.rp_input.specs.declared.rows.CsvFault.{CsvFault}
use Rattle.rp_input.specs.declared.rows.CsvFault.TheVariants.{Header, Record, Field, Read, Turns, OutOfMemory}
use Rattle.rp_input.specs.Beginning.{IsBelowHeader}
use Rattle.rp_input.specs.CsvRows.{AreRows, AreRowsOf, HasNoHeader, IsFirstFault, IsRowFault, IsTextFault, csv_records, most_records}
use Rattle.rp_input.specs.Fields.{IsRow}
use Rattle.rp_input.specs.Headers.{NamesColumns}
use Rattle.rp_input.specs.Standing.{AreAll, Stands}
use Rattle.rp_input.proofs.CsvRecords.{all_of, begins}
use Rattle.rp_input.proofs.Lists.{rows_more}

pub record Taken (columns : List Column) (text : List ℕ) (rows : List (List Value)) (number : ℕ) (r : Reader (Bor (List ℕ))) : Type 0 where
  pub header : List (List ℕ)
  pub records : List (List (List ℕ))
  pub stands : Stands 44 text (header ∷ records) r
  pub named : NamesColumns columns header
  pub are : AreRows (kinds_of columns) records rows
  pub place : number ≡ length records + 1

-- the text has these records first
pub first_of : (text : List ℕ) (records : List (List (List ℕ))) (r : Reader (Bor (List ℕ))) → Stands 44 text records r → (after : List (List (List ℕ))) × (csv_records text ≡ records ++ after)
first_of text records r at = begins 44 text records (reader_state r, at.rest, at.reached)

pub first_taken : (columns : List Column) (text : List ℕ) (r : Reader (Bor (List ℕ))) → IsBelowHeader columns text r → Taken columns text [] 1 r
first_taken columns text r b = record { header = b.header; records = []; stands = b.stands; named = b.named; are = tt; place = omega arith }

pub no_header : (columns : List Column) (text : List ℕ) → AreAll 44 text [] → HasNoHeader columns text
no_header columns text all = inl (all_of 44 text [] all)

pub other_header : (columns : List Column) (text : List ℕ) (r : Reader (Bor (List ℕ))) (header : List (List ℕ)) → Stands 44 text (header ∷ []) r → (NamesColumns columns header → ⊥) → HasNoHeader columns text
other_header columns text r header at other = let first = first_of text (header ∷ []) r at in inr (header, first.0, first.1, other)

module _ (columns : List Column) (text : List ℕ) (rows : List (List Value)) (number : ℕ) (a : Reader (Bor (List ℕ))) (t : Taken columns text rows number a) where
  -- one more record, as a row
  pub taken_more : (b : Reader (Bor (List ℕ))) (f : List (List ℕ)) (row : List Value) → Stands 44 text (t.header ∷ t.records ++ f ∷ []) b → IsRow (kinds_of columns) f row
      → Taken columns text (rows ++ row ∷ []) (number + 1) b
  taken_more b f row at is = record {
    header = t.header;
    records = t.records ++ f ∷ [];
    stands = at;
    named = t.named;
    are = rows_more (kinds_of columns) t.records rows f row t.are is;
    place = let p = t.place in omega (arith, length-append t.records (f ∷ []));
  }

  pub all_taken : number ≤ most_records + 1 → AreAll 44 text (t.header ∷ t.records) → AreRowsOf columns text rows
  all_taken small all = record { header = t.header; records = t.records; all = all_of 44 text (t.header ∷ t.records) all; named = t.named; are = t.are; few = let p = t.place in omega arith }

  -- a record at fault
  first_fault : (b : Reader (Bor (List ℕ))) (f : List (List ℕ)) (Why : List Kind → List (List ℕ) → Type 0) → number ≤ most_records + 1 → Stands 44 text (t.header ∷ t.records ++ f ∷ []) b → Why (kinds_of columns) f
      → IsFirstFault columns text number Why
  first_fault b f Why small at why =
      let first = first_of text (t.header ∷ t.records ++ f ∷ []) b at in
      record {
        header = t.header;
        before = t.records;
        fields = f;
        after = first.0;
        rows = rows;
        all = first.1 ∙ ap (λ l. t.header ∷ l) (append_assoc t.records (f ∷ []) first.0);
        named = t.named;
        are = t.are;
        few = let p = t.place in omega arith;
        place = t.place;
        why = why;
      }

  pub fault_taken : (b : Reader (Bor (List ℕ))) (f : List (List ℕ)) (fault : CsvFault) → number ≤ most_records → Stands 44 text (t.header ∷ t.records ++ f ∷ []) b → IsRowFault (kinds_of columns) f number fault
      → IsTextFault columns text fault
  fault_taken b f Header small at h = absurd h
  fault_taken b f (Record n) small at h = rw h.0 (first_fault b f _ (omega arith) at (inl h.1))
  fault_taken b f (Field n) small at h = rw h.0 (small, first_fault b f _ (omega arith) at (h.1, h.2))
  fault_taken b f Read small at h = absurd h
  fault_taken b f Turns small at h = absurd h
  fault_taken b f OutOfMemory small at h = tt

  pub limit_taken : (b : Reader (Bor (List ℕ))) (f : List (List ℕ)) → Stands 44 text (t.header ∷ t.records ++ f ∷ []) b → number ≡ most_records + 1 → IsTextFault columns text (Record (most_records + 1))
  limit_taken b f at is = rw (← is) (first_fault b f _ (omega arith) at (inr (omega arith)))
