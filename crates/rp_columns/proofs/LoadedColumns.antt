-- Columns make the same table with and without the rules of their zones.
use Rattle.std.proofs.Common.{◌≡◌, ℕ, List, [], ◌∷◌, map, refl, ap}
use Rattle.jiff_tz.specs.declared.tzif.Tzif.{Tzif}
use Rattle.rp_columns.specs.Headings.{heading, headings}
use Rattle.rp_columns.specs.Loaded.{column_with, reading_with}
use Rattle.rp_columns.specs.Readings.{kind_of}
use Rattle.rp_columns.specs.declared.columns.InputColumn.{InputColumn}
use Rattle.rp_columns.specs.declared.reading.Reading.{Reading}
use Rattle.rp_columns.specs.declared.reading.Reading.TheVariants as reading

same_kind : (name : List ℕ) (table : Tzif) (r : Reading) → kind_of (reading_with name table r) ≡ kind_of r
same_kind name table reading.Text = refl
same_kind name table reading.Lower = refl
same_kind name table reading.Int = refl
same_kind name table (reading.Decimal places marks) = refl
same_kind name table (reading.Instant unit z) = refl
same_kind name table reading.Day = refl
same_kind name table (reading.Formatted unit format z) = refl
same_kind name table (reading.FormattedDay format) = refl
same_kind name table reading.Record = refl

same_heading : (name : List ℕ) (table : Tzif) (c : InputColumn) → heading (column_with name table c) ≡ heading c
same_heading name table c = ap (λ k. record { name = c.name; kind = k }) (same_kind name table c.reading)

pub same_headings : (name : List ℕ) (table : Tzif) (cs : List InputColumn) → headings (map (column_with name table) cs) ≡ headings cs
same_headings name table [] = refl
same_headings name table (c ∷ cs) = λ i. same_heading name table c i ∷ same_headings name table cs i
