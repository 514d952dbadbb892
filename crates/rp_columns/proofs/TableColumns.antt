-- The columns of a table make that table.
use Rattle.std.proofs.Common.{◌≡◌, List, [], ◌∷◌, refl, ap}
use Rattle.rp_value.specs.declared.table.Column.{Column}
use Rattle.rp_value.specs.declared.value.Kind.{Kind}
use Rattle.rp_value.specs.declared.value.Kind.TheVariants as kinds
use Rattle.rp_columns.specs.Headings.{column_for, columns_for, heading, headings, reading_of}
use Rattle.rp_columns.specs.Readings.{kind_of}

same_kind : (k : Kind) → kind_of (reading_of k) ≡ k
same_kind kinds.Int = refl
same_kind kinds.Text = refl

same_column : (c : Column) → heading (column_for c) ≡ c
same_column c = ap (λ k. record { name = c.name; kind = k }) (same_kind c.kind)

pub same_table : (cs : List Column) → headings (columns_for cs) ≡ cs
same_table [] = refl
same_table (c ∷ cs) = λ i. same_column c i ∷ same_table cs i
