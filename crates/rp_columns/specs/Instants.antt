-- Dates and instants: ISO 8601-1:2019, 5.2.2.1, 5.3.1, 5.3.4 and 5.4.2, and RFC 3339, 5.6, on the proleptic Gregorian calendar. Their numbers are
-- those of POSIX.1-2017, 4.16: days of 86,400 seconds since 1970-01-01 UTC.
use Rattle.std.specs.Prelude.{ℕ, ◌+◌, ◌*◌, ◌^◌, ◌==◌, ◌&&◌, ◌||◌, ℤ, pos, neg_ℤ, ◌+ℤ◌, ◌-ℤ◌, ◌*ℤ◌, Bool, true, false, not, nat_lt, nat_le, List, [], ◌∷◌, Option, Some, None, Result, Ok, Err, if◌then◌else◌}
use Rattle.std.specs.Int.Digits.{number_from_digits}
use Rattle.jiff_core.specs.Calendar.{days_from_civil, days_in_month}
use Rattle.rp_columns.specs.Zones.{ahead_in}
use Rattle.rp_columns.specs.Fronts.{Front, ◌>>=◌, after, begins_with, begins_with_digit, four_digits, leading_digits, placed, two_digits, two_digits_after, whole, without_blanks}
use Rattle.rp_columns.specs.declared.fault.ReadingFault.{ReadingFault}
use Rattle.rp_columns.specs.declared.fault.ReadingFault.TheVariants.{Form, NoSuchTime}
use Rattle.rp_columns.specs.declared.reading.Unit.{Unit as Precision}
use Rattle.rp_columns.specs.declared.reading.Unit.TheVariants.{Second, Millisecond, Microsecond}
use Rattle.rp_columns.specs.declared.zone.Zone.{Zone}

-- the calendar has this day
abbrev pub is_day : ℕ → ℕ → ℕ → Bool
is_day year month day = nat_le 1 month && nat_le month 12 && nat_le 1 day && nat_le day (days_in_month (pos year) month)

-- the number of a day: its days since 1970-01-01
abbrev pub day_number : ℕ → ℕ → ℕ → Result ℤ ReadingFault
day_number year month day = if is_day year month day then Ok (days_from_civil (pos year) month day) else Err NoSuchTime

-- A date, `2024-01-05` or `20240105`, as its day since 1970-01-01, and whether it has dashes.
unfoldable pub date : List ℕ → Front (ℤ × Bool)
date bytes = do
  y ← four_digits bytes
  let dashes = begins_with 45 y.1
  m ← two_digits_after dashes 45 y.1
  d ← two_digits_after dashes 45 m.1
  n ← day_number y.0 m.0 d.0
  Ok ((n, dashes), d.1)

-- what stands between a date and its time: `T`, a space, or a dash behind a date without dashes
abbrev pub is_between : Bool → ℕ → Bool
is_between dashes b = b == 84 || b == 116 || b == 32 || (b == 45 && not dashes)

abbrev pub time_after : Bool → List ℕ → Result (List ℕ) ReadingFault
time_after dashes [] = Err Form
time_after dashes (b ∷ rest) = if is_between dashes b then Ok rest else Err Form

-- at least one digit of a fraction
abbrev pub some_fraction : ℕ → List ℕ × List ℕ → Front ℕ
some_fraction places ([], rest) = Err Form
some_fraction places (d ∷ digits, rest) = Ok (number_from_digits 10 (placed places (d ∷ digits)), rest)

-- The first so many digits of a fraction of a second behind a point or a comma, as a number. The others are left out: so an instant is cut
-- downward to the unit, on either side of 1970.
unfoldable pub fraction : ℕ → List ℕ → Front ℕ
fraction places [] = Ok (0, [])
fraction places (b ∷ rest) = if b == 46 || b == 44 then some_fraction places (leading_digits rest) else Ok (0, b ∷ rest)

-- seconds follow the minute
abbrev pub has_seconds : Bool → List ℕ → Bool
has_seconds true bytes = begins_with 58 bytes
has_seconds false bytes = begins_with_digit bytes

-- the seconds of a time, and of their fraction the first digits; a time may end at its minute
unfoldable pub seconds : Bool → ℕ → List ℕ → Front (ℕ × ℕ)
seconds colons places bytes =
    if has_seconds colons bytes
    then (two_digits_after colons 58 bytes >>= (λ s. fraction places s.1 >>= (λ f. Ok ((s.0, f.0), f.1))))
    else Ok ((0, 0), bytes)

-- A time of day, `09:30`, `09:30:00.5` or `093000,5`, as its seconds since midnight and the first digits of a fraction. There is no 24:00, and no
-- second 60, which POSIX has no number for.
unfoldable pub clock : ℕ → List ℕ → Front (ℕ × ℕ)
clock places bytes = do
  h ← two_digits bytes
  let colons = begins_with 58 h.1
  m ← two_digits_after colons 58 h.1
  s ← seconds colons places m.1
  if nat_lt h.0 24 && nat_lt m.0 60 && nat_lt s.0.0 60 then Ok ((h.0 * 3600 + m.0 * 60 + s.0.0, s.0.1), s.1) else Err NoSuchTime

-- the minutes of an offset, which may be left out
abbrev pub minutes : Bool → List ℕ → Front ℕ
minutes true bytes = after 58 bytes >>= two_digits
minutes false bytes = if begins_with_digit bytes then two_digits bytes else Ok (0, bytes)

-- hours and minutes of an offset, `01:30`, `0130` or `01`, as seconds
unfoldable pub hours_minutes : List ℕ → Front ℕ
hours_minutes bytes = do
  h ← two_digits bytes
  m ← minutes (begins_with 58 h.1) h.1
  if nat_lt h.0 24 && nat_lt m.0 60 then Ok (h.0 * 3600 + m.0 * 60, m.1) else Err NoSuchTime

-- `UTC`
abbrev pub utc : List ℕ → Front (Option ℤ)
utc bytes = after 85 bytes >>= after 84 >>= after 67 >>= (λ rest. Ok (Some (pos 0), rest))

-- The seconds by which a local time is ahead of UTC as they are written, `Z`, `UTC` or an offset; none where nothing is.
unfoldable pub offset : List ℕ → Front (Option ℤ)
offset [] = Ok (None, [])
offset (b ∷ rest) =
    if b == 90 || b == 122 then Ok (Some (pos 0), rest)
    else (if b == 43 then (hours_minutes rest >>= (λ s. Ok (Some (pos s.0), s.1)))
    else (if b == 45 then (hours_minutes rest >>= (λ s. Ok (Some (neg_ℤ (pos s.0)), s.1)))
    else utc (b ∷ rest)))

-- how many digits behind the second a unit has
abbrev pub places_of : Precision → ℕ
places_of Second = 0
places_of Millisecond = 3
places_of Microsecond = 6

-- so many units since 1970-01-01 00:00 UTC: a day, the seconds and the fraction of its time, and what clocks are ahead by
abbrev pub in_units : Precision → ℤ → ℕ × ℕ → ℤ → ℤ
in_units unit day time ahead = (day *ℤ pos 86400 +ℤ pos time.0 -ℤ ahead) *ℤ pos (10 ^ places_of unit) +ℤ pos time.1

-- a date, a time and an offset, as an instant; where no offset is written, the time is that of the zone
unfoldable pub date_time : Precision → Option Zone → List ℕ → Front ℤ
date_time unit zone bytes = do
  d ← date bytes
  a ← time_after d.0.1 d.1
  t ← clock (places_of unit) a
  o ← offset (without_blanks t.1)
  ahead ← ahead_in o.0 zone d.0.0 t.0.0
  Ok (in_units unit d.0.0 t.0 ahead, o.1)

-- The instant that the bytes are: so many units since 1970-01-01 00:00 UTC, cut downward.
abbrev pub instant_of : Precision → Option Zone → List ℕ → Result ℤ ReadingFault
instant_of unit zone bytes = whole (date_time unit zone (without_blanks bytes))

-- The day that the bytes are, since 1970-01-01.
abbrev pub day_of : List ℕ → Result ℤ ReadingFault
day_of bytes = whole (date (without_blanks bytes) >>= (λ d. Ok (d.0.0, d.1)))
