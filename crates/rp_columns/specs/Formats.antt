-- Dates and times by a format of a column's own: POSIX.1-2017, strptime, as jiff has it, a part of it.
use Rattle.std.specs.Prelude.{◌+◌, ◌-◌, ◌*◌, ◌/◌, ◌^◌, ◌==◌, ◌&&◌, ◌||◌, ℕ, ℤ, pos, Bool, true, false, not, nat_lt, List, [], ◌∷◌, Option, Some, Result, Ok, Err, if◌then◌else◌, unwrap_or}
use Rattle.std.specs.List.{list_all, list_any}
use Rattle.std.specs.Borrow.{Bor}
use Rattle.std.specs.Result.{result_map_both}
use Rattle.jiff_core.specs.declared.error.Error.{Error}
use Rattle.jiff_core.specs.declared.error.Error.TheVariants.{Parse}
use Rattle.jiff_strtime.specs.Reader.{read_format}
use Rattle.jiff_strtime.specs.Text.{Parts, parts_of}
use Rattle.jiff_strtime.specs.declared.tm.BrokenDownTime.{BrokenDownTime}
use Rattle.rp_columns.specs.Fronts.{Front, ◌>>=◌, are_blanks, without_blanks}
use Rattle.rp_columns.specs.Instants.{day_number, in_units, places_of}
use Rattle.rp_columns.specs.Zones.{ahead_in}
use Rattle.rp_columns.specs.declared.fault.ReadingFault.{ReadingFault}
use Rattle.rp_columns.specs.declared.fault.ReadingFault.TheVariants.{Form, NoSuchTime}
use Rattle.rp_columns.specs.declared.reading.Unit.{Unit as Precision}
use Rattle.rp_columns.specs.declared.zone.Zone.{Zone}

-- the letters behind the per cent signs of a format, and 0 behind one that ends it
unfoldable pub letters : List ℕ → List ℕ
letters [] = []
letters (b ∷ []) = if b == 37 then 0 ∷ [] else []
letters (b ∷ c ∷ rest) = if b == 37 then c ∷ letters rest else letters (c ∷ rest)

-- Y y m b B d e H I p M S f z %: years, months, days, hours, minutes, seconds, a fraction, an offset
abbrev pub is_directive : ℕ → Bool
is_directive c =
    c == 89 || c == 121 || c == 109 || c == 98 || c == 66 || c == 100 || c == 101 || c == 72 || c == 73 || c == 112 || c == 77 || c == 83 || c == 102
    || c == 122 || c == 37

abbrev pub has : ℕ → List ℕ → Bool
has letter letters = list_any (λ c. c == letter) letters

-- both or neither
abbrev pub agree : Bool → Bool → Bool
agree true b = b
agree false b = not b

-- the letters say a day, each is one of these directives, and the hours of a clock of twelve have their half of the day
abbrev pub say_day : List ℕ → Bool
say_day letters =
    list_all is_directive letters && (has 89 letters || has 121 letters) && (has 109 letters || has 98 letters || has 66 letters)
    && (has 100 letters || has 101 letters) && agree (has 73 letters) (has 112 letters)

-- the letter of minutes for that of seconds
abbrev pub minutes_for : ℕ → ℕ
minutes_for letter = if letter == 83 then 77 else letter

-- a format with minutes in the place of seconds
unfoldable pub as_minutes : List ℕ → List ℕ
as_minutes [] = []
as_minutes (b ∷ []) = b ∷ []
as_minutes (b ∷ c ∷ rest) = if b == 37 then b ∷ minutes_for c ∷ as_minutes rest else b ∷ as_minutes (c ∷ rest)

-- a number out of bounds is none of the calendar or the clock; all else is another form
abbrev pub refusal : Error → ReadingFault
refusal (Parse syntax) = Form
refusal _ = NoSuchTime

abbrev pub parts_view : Result (BrokenDownTime × Bor (List ℕ)) ReadingFault → Front Parts
parts_view r = result_map_both (λ p. (parts_of p.0, p.1.now)) (λ e. e) r

abbrev pub whole_view : Result BrokenDownTime ReadingFault → Result Parts ReadingFault
whole_view r = result_map_both parts_of (λ e. e) r

-- the parts that a format reads at a front of some bytes, and what follows it
abbrev pub read_by : List ℕ → List ℕ → Front Parts
read_by format bytes = result_map_both (λ p. p) refusal (read_format format bytes)

-- The parts that a format reads of a whole field. jiff reads a second 60 as 59: so that there is none, the field has to be one of minutes too, which
-- end at 59.
unfoldable pub parts_by : List ℕ → List ℕ → Result Parts ReadingFault
parts_by format bytes = do
  below ← read_by (as_minutes format) (without_blanks bytes)
  read ← read_by format (without_blanks bytes)
  if are_blanks read.1 then Ok read.0 else Err Form

-- The day of a year, a month and a day. A year has four digits, the first no 0: `1/14/24` is of another form than `%m/%d/%Y`.
abbrev pub day_in : Option ℤ → Option ℕ → Option ℕ → Result ℤ ReadingFault
day_in (Some (pos y)) (Some m) (Some d) =
    if nat_lt y 1000 then Err Form
    else (if nat_lt y 10000 && nat_lt m 100 && nat_lt d 100 then day_number y m d else Err NoSuchTime)
day_in _ _ _ = Err Form

-- the time of a day and the first digits of a fraction; what a format doesn't have is 0
abbrev pub clock_in : Precision → Option ℕ → Option ℕ → Option ℕ → Option ℕ → Result (ℕ × ℕ) ReadingFault
clock_in unit hour minute second nanoseconds =
    if nat_lt (unwrap_or hour 0) 24 && nat_lt (unwrap_or minute 0) 60 && nat_lt (unwrap_or second 0) 60 && nat_lt (unwrap_or nanoseconds 0) 1000000000
    then Ok (unwrap_or hour 0 * 3600 + unwrap_or minute 0 * 60 + unwrap_or second 0, unwrap_or nanoseconds 0 / 10 ^ (9 - places_of unit))
    else Err NoSuchTime

-- the instant of parts; where they have no offset, the time is that of the zone
unfoldable pub instant_in : Precision → Option Zone → Parts → Result ℤ ReadingFault
instant_in unit zone p = do
  day ← day_in p.year p.month p.day
  time ← clock_in unit p.hour p.minute p.second p.subsec
  ahead ← ahead_in p.offset zone day time.0
  Ok (in_units unit day time ahead)

-- The instant that the bytes are by a format: so many units since 1970-01-01 00:00 UTC, cut downward.
abbrev pub formatted : Precision → List ℕ → Option Zone → List ℕ → Result ℤ ReadingFault
formatted unit format zone bytes = parts_by format bytes >>= instant_in unit zone

-- The day that the bytes are by a format, since 1970-01-01.
abbrev pub formatted_day : List ℕ → List ℕ → Result ℤ ReadingFault
formatted_day format bytes = parts_by format bytes >>= (λ p. day_in p.year p.month p.day)
