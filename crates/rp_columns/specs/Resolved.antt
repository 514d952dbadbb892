-- What columns as they are written mean.
use Rattle.std.specs.Prelude.{◌≡◌, ⊤, ◌++◌, ℕ, ℤ, ◌==◌, ◌&&◌, ◌||◌, Bool, true, false, not, nat_le, nat_lt, List, [], ◌∷◌, length, is_some, slice_get, codes, Option, Some, None, Result, Ok, Err, if◌then◌else◌}
use Rattle.std.specs.Char.{is_ascii_alphabetic, is_ascii_alphanumeric, is_ascii_digit}
use Rattle.std.specs.List.{list_all}
use Rattle.std.specs.Cmp.Lexicographic.{pointwise}
use Rattle.rp_columns.specs.ColumnsGrammar.{WrittenTree}
use Rattle.rp_columns.specs.Formats.{has, letters, say_day}
use Rattle.rp_columns.specs.Fronts.{are_blanks}
use Rattle.rp_columns.specs.Instants.{offset}
use Rattle.rp_columns.specs.declared.columns.InputColumn.{InputColumn}
use Rattle.rp_columns.specs.declared.fault.ReadingFault.{ReadingFault}
use Rattle.rp_columns.specs.declared.reading.Reading.{Reading}
use Rattle.rp_columns.specs.declared.reading.Reading.TheVariants as reading
use Rattle.rp_columns.specs.declared.reading.Unit.{Unit as Precision}
use Rattle.rp_columns.specs.declared.reading.Unit.TheVariants.{Second, Millisecond, Microsecond}
use Rattle.rp_columns.specs.declared.written.Argument.{Argument}
use Rattle.rp_columns.specs.declared.written.Argument.TheVariants as argument_as
use Rattle.rp_columns.specs.declared.written.Source.{Source}
use Rattle.rp_columns.specs.declared.written.Source.TheVariants as source_as
use Rattle.rp_columns.specs.declared.zone.Zone.{Zone}
use Rattle.rp_columns.specs.declared.zone.Zone.TheVariants as zone

-- the argument at a place, where it is a text
abbrev pub text_in : Option Argument → Option (List ℕ)
text_in (Some (argument_as.Text t)) = Some t
text_in _ = None

-- the argument at a place, where it is a number
abbrev pub number_in : Option Argument → Option ℕ
number_in (Some (argument_as.Number n)) = Some n
number_in _ = None

-- a reading that takes nothing else
abbrev pub plain : Reading → List Argument → Option Reading
plain r arguments = if length arguments == 0 then Some r else None

-- an offset as a field may have it, alone
abbrev pub ahead : Result (Option ℤ × List ℕ) ReadingFault → Option ℤ
ahead (Ok x) = if are_blanks x.1 then x.0 else None
ahead (Err e) = None

-- a letter, a digit, or one of _ + - /
abbrev pub is_in_identifier : ℕ → Bool
is_in_identifier b = is_ascii_alphanumeric b || b == 95 || b == 43 || b == 45 || b == 47

-- An identifier of the IANA Time Zone Database, a part of what RFC 6557 and its theory file allow: there is no dot, so it names no
-- file outside of the database's folder.
abbrev pub is_identifier : List ℕ → Bool
is_identifier [] = false
is_identifier (b ∷ rest) = is_ascii_alphabetic b && list_all is_in_identifier rest

-- an offset, or the identifier of a region, whose rules aren't loaded yet
abbrev pub zone_or : Option ℤ → List ℕ → Option Zone
zone_or (Some seconds) text = Some (zone.Fixed seconds)
zone_or None text = if is_identifier text then Some (zone.Region (record { name = text; rules = None })) else None

-- the zone that a text names
abbrev pub zone_named : List ℕ → Option Zone
zone_named text = zone_or (ahead (offset text)) text

-- the zone of fields without an offset, as a text
abbrev pub named : Option (List ℕ) → Option Zone
named None = None
named (Some text) = zone_named text

abbrev pub with_zone : Precision → Option Zone → Option Reading
with_zone unit None = None
with_zone unit (Some z) = Some (reading.Instant unit (Some z))

-- a format that says an instant, where clocks of this zone show it if it has no offset
abbrev pub formatted_as : Precision → List ℕ → Option Zone → Option Reading
formatted_as unit format zone =
    if say_day (letters format) && (has 122 (letters format) || is_some zone) then Some (reading.Formatted unit format zone) else None

-- a zone, or a format, which has a per cent sign
abbrev pub instant_by : Precision → Option (List ℕ) → Option Reading
instant_by unit None = None
instant_by unit (Some text) = if has 37 text then formatted_as unit text None else with_zone unit (zone_named text)

abbrev pub formatted_with : Precision → Option (List ℕ) → Option Zone → Option Reading
formatted_with unit (Some format) (Some z) = formatted_as unit format (Some z)
formatted_with unit _ _ = None

-- seconds(C), seconds(C, '+01:00'), seconds(C, 'Europe/Berlin'), seconds(C, '%d/%m/%Y %H:%M:%S %z'), seconds(C, '%d/%m/%Y %H:%M', 'Europe/Berlin')
abbrev pub instant : Precision → List Argument → Option Reading
instant unit arguments =
    if length arguments == 0 then Some (reading.Instant unit None)
    else (if length arguments == 1 then instant_by unit (text_in (slice_get arguments 0))
    else (if length arguments == 2 then formatted_with unit (text_in (slice_get arguments 0)) (named (text_in (slice_get arguments 1))) else None))

abbrev pub day_by : Option (List ℕ) → Option Reading
day_by None = None
day_by (Some format) = if say_day (letters format) then Some (reading.FormattedDay format) else None

-- date(C), date(C, '%d.%m.%Y')
abbrev pub day : List Argument → Option Reading
day arguments =
    if length arguments == 0 then Some reading.Day
    else (if length arguments == 1 then day_by (text_in (slice_get arguments 0)) else None)

-- an ASCII character that is neither a digit nor a sign
abbrev pub is_mark : ℕ → Bool
is_mark b = nat_lt 31 b && nat_lt b 127 && not (is_ascii_digit b) && not (b == 43) && not (b == 45)

-- one mark, or none for an empty text
abbrev pub mark : Option (List ℕ) → Option (Option ℕ)
mark (Some []) = Some None
mark (Some (b ∷ [])) = if is_mark b then Some (Some b) else None
mark _ = None

-- the mark at a place, or the usual one where there are fewer arguments
abbrev pub mark_or : List Argument → ℕ → Option ℕ → Option (Option ℕ)
mark_or arguments place usual = if nat_lt place (length arguments) then mark (text_in (slice_get arguments place)) else Some usual

abbrev pub differ : Option ℕ → Option ℕ → Bool
differ (Some a) (Some b) = not (a == b)
differ _ _ = true

abbrev pub decimal_with : Option ℕ → Option (Option ℕ) → Option (Option ℕ) → Option Reading
decimal_with (Some places) (Some thousands) (Some point) =
    if nat_le places 18 && differ thousands point then Some (reading.Decimal places (record { thousands = thousands; point = point })) else None
decimal_with _ _ _ = None

-- decimal(C, 2), decimal(C, 2, ','), decimal(C, 2, '.', ',')
abbrev pub decimal : List Argument → Option Reading
decimal arguments =
    if nat_le (length arguments) 3
    then decimal_with (number_in (slice_get arguments 0)) (mark_or arguments 1 None) (mark_or arguments 2 (Some 46))
    else None

-- the reading that computes a number which a word calls, in upper case, with what it takes
abbrev pub computed_by : List ℕ → List Argument → Option Reading
computed_by word arguments =
    if pointwise ◌==◌ word (codes "DATE") then day arguments
    else (if pointwise ◌==◌ word (codes "SECONDS") then instant Second arguments
    else (if pointwise ◌==◌ word (codes "MILLIS") then instant Millisecond arguments
    else (if pointwise ◌==◌ word (codes "MICROS") then instant Microsecond arguments
    else (if pointwise ◌==◌ word (codes "DECIMAL") then decimal arguments else None))))

-- the reading that a word calls, in upper case, with what it takes
abbrev pub reading_called : List ℕ → List Argument → Option Reading
reading_called word arguments =
    if pointwise ◌==◌ word (codes "TEXT") || pointwise ◌==◌ word (codes "VARCHAR") then plain reading.Text arguments
    else (if pointwise ◌==◌ word (codes "LOWER") then plain reading.Lower arguments
    else (if pointwise ◌==◌ word (codes "INT") || pointwise ◌==◌ word (codes "INTEGER") || pointwise ◌==◌ word (codes "BIGINT") then plain reading.Int arguments
    else computed_by word arguments))

-- the reading that a word calls without a field
abbrev pub numbering : List ℕ → List Argument → Option Reading
numbering word arguments = if pointwise ◌==◌ word (codes "RECORD") then plain reading.Record arguments else None

abbrev pub reading_by : Source → List ℕ → List Argument → Option Reading
reading_by source_as.Nothing word arguments = numbering word arguments
reading_by _ word arguments = reading_called word arguments

abbrev pub reading_of : WrittenTree → Option Reading
reading_of w = reading_by w.called.source w.called.reading.text w.called.arguments

-- the header's name of a column, which is its own where none is written
abbrev pub source_or : List ℕ → Source → List ℕ
source_or own source_as.Own = own
source_or own source_as.Nothing = own
source_or own (source_as.Field n) = n.text

abbrev pub source_of : WrittenTree → List ℕ
source_of w = source_or w.name.text w.called.source

abbrev pub column_with : WrittenTree → Option Reading → Option InputColumn
column_with w None = None
column_with w (Some r) = Some (record { name = w.name.text; reading = r; source = source_of w })

-- the column of what is written, if its word calls a reading that takes what stands behind it
abbrev pub column_of : WrittenTree → Option InputColumn
column_of w = column_with w (reading_of w)

-- the columns of what is written
abbrev pub AreColumns : List WrittenTree → List InputColumn → Type 0
AreColumns [] [] = ⊤
AreColumns (w ∷ ws) (c ∷ cs) = (column_of w ≡ Some c) × AreColumns ws cs
AreColumns _ _ = ⊥

-- some first one of them calls no reading, by the word at this offset
abbrev pub IsUnknown : List WrittenTree → ℕ → Type 0
IsUnknown ws at = (before : List WrittenTree) × (w : WrittenTree) × (after : List WrittenTree) × (columns : List InputColumn)
    × (ws ≡ before ++ w ∷ after) × AreColumns before columns × (column_of w ≡ None) × (at ≡ w.called.reading.at)
