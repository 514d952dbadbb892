-- Where a reader of csv is among the records of a text.
use Rattle.std.specs.Prelude.{◌≡◌, ℕ, Bool, List, [], ◌∷◌, ◌++◌, Some, MatchBool}
use Rattle.std.specs.Borrow.{Bor}
use Rattle.csv.specs.Reading.{AreRecords, Reached, Ready, source_of, strip_bom}
use Rattle.csv.specs.Reading.{reader_config, reader_state, reader_trim}
use Rattle.csv.specs.declared.parser.State.TheVariants as st
use Rattle.csv.specs.declared.reader.Reader.{Reader}
use Rattle.csv.specs.declared.reader.Trim.TheVariants as trim
use Rattle.rp_input.specs.Layouts.{config_with}

-- the records are all of the text by this delimiter, read one after another
abbrev pub AreAll : ℕ → List ℕ → List (List (List ℕ)) → Type 0
AreAll delimiter text records = AreRecords (config_with delimiter) st.StartRecord (strip_bom text) records

-- the reader has read these first records of the text, and goes on after them
pub record Stands (delimiter : ℕ) (text : List ℕ) (records : List (List (List ℕ))) (r : Reader (Bor (List ℕ))) : Type 0 where
  pub trims : reader_trim r ≡ trim.None
  pub ready : Ready r
  pub config : reader_config r ≡ config_with delimiter
  pub rest : List ℕ
  pub source : source_of (λ s. Some s.now) r ≡ Some rest
  pub reached : Reached (config_with delimiter) st.StartRecord (strip_bom text) records (reader_state r) rest

-- From behind any first records of any text: one more was found, which has these fields, and the reader goes on after it; or
-- none was, and those before are all.
abbrev pub TakesNext : Bool → List (List ℕ) → (old new : Reader (Bor (List ℕ))) → Type 0
TakesNext found fields old new = (delimiter : ℕ) (text : List ℕ) (before : List (List (List ℕ))) → Stands delimiter text before old
    → MatchBool found (Stands delimiter text (before ++ fields ∷ []) new) (AreAll delimiter text before)
