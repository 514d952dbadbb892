-- Records that are written read back.
use Rattle.std.proofs.Common.{◌≡◌, ◌==◌, ◌∙◌, ℕ, List, [], ◌∷◌, ◌++◌, length, map, Some, None, refl, sym, ap}
use Rattle.std.specs.List.{flat_map}
use Rattle.csv.proofs.RoundTrip.{read-write}
use Rattle.csv.specs.Machine.{next_record}
use Rattle.csv.specs.Reading.{AreRecords, Reached, default_config}
use Rattle.csv.specs.Writing.{default_writer, escaped, field_text, fields_text, is_blank, read_back, row_text}
use Rattle.csv.specs.declared.parser.State.TheVariants as state
use Rattle.rp_table.specs.RecordTexts.{csv_form}
use Rattle.rp_table.specs.ReadBack.{ReadsBack}

-- how many fields a record may have makes no difference to its text

same_escaped : (xs : List ℕ) → escaped csv_form xs ≡ escaped default_writer xs
unfolding escaped
same_escaped [] = refl
same_escaped (b ∷ rest) = rw (same_escaped rest) refl

same_field : (field : List ℕ) → field_text csv_form field ≡ field_text default_writer field
same_field field = rw (same_escaped field) refl

same_fields : (fields : List (List ℕ)) → fields_text csv_form fields ≡ fields_text default_writer fields
unfolding fields_text
same_fields [] = refl
same_fields (field ∷ rest) = rw (same_field field, same_fields rest) refl

same_blank : (fields : List (List ℕ)) → is_blank csv_form fields ≡ is_blank default_writer fields
unfolding is_blank
same_blank [] = refl
same_blank (field ∷ []) = ap (λ (t : List ℕ). length t == 0) (same_field field)
same_blank (field ∷ next ∷ rest) = refl

same_row : (fields : List (List ℕ)) → row_text csv_form fields ≡ row_text default_writer fields
same_row [] = rw (same_blank []) refl
same_row (field ∷ rest) = rw (same_field field, same_fields rest, same_blank (field ∷ rest)) refl

read_first : (fields : List (List ℕ)) (tail : List ℕ)
    → next_record default_config state.StartRecord [] [] (row_text csv_form fields ++ tail) ≡ Some (read_back fields, state.StartRecord, tail)
read_first fields tail = rw (same_row fields) (read-write fields tail)

reached : (records : List (List (List ℕ))) → Reached default_config state.StartRecord (flat_map (row_text csv_form) records) (map read_back records) state.StartRecord []
unfolding Reached
reached [] = (refl, refl)
reached (fields ∷ rest) = ((read_back fields, state.StartRecord, flat_map (row_text csv_form) rest), read_first fields (flat_map (row_text csv_form) rest), refl, reached rest)

pub reads_back : ReadsBack
unfolding next_record
reads_back records = (state.StartRecord, [], reached records, refl)
