-- What clocks show, as jiff's dates with a time.
use Rattle.std.proofs.Common.{◌≡◌, ◌∙◌, ◌+ℤ◌, ◌*ℤ◌, ◌-◌, ℕ, ℤ, pos, refl, ap, arith, if◌then◌else◌}
use Rattle.std.specs.Prelude.{Option, Some, None}
use Rattle.jiff_core.specs.Date.{epoch_day}
use Rattle.jiff_core.specs.DateTime.{civil_nanos, civil_seconds}
use Rattle.jiff_core.specs.Time.{time_seconds}
use Rattle.jiff_core.specs.Timestamp.{nanos_of_seconds}
use Rattle.jiff_core.specs.declared.civil.date.Date.{Date}
use Rattle.jiff_core.specs.declared.civil.datetime.DateTime.{DateTime}
use Rattle.jiff_core.specs.declared.civil.time.Time.{Time}
use Rattle.jiff_core.proofs.SignedLemmas.{signed_arith}
use Rattle.jiff_tz.proofs.YearLemmas.{year_of_nanos-civil}
use Rattle.jiff_tz.specs.PosixRule as Posix
use Rattle.jiff_tz.specs.PosixRule.{ambiguous_by, match_some, rule_nanos}
use Rattle.jiff_tz.specs.Tzif.{ambiguous_at, civil_count_at, is_inside, offsets_in, rule_after, transition_at, type_after}
use Rattle.jiff_tz.specs.Year.{year_of_nanos}
use Rattle.jiff_tz.specs.declared.ambiguous.AmbiguousOffset.TheVariants.{Unambiguous}
use Rattle.jiff_tz.specs.declared.posix.Dst.{Dst}
use Rattle.jiff_tz.specs.declared.posix.TimeZone.{TimeZone as Rule}
use Rattle.jiff_tz.specs.declared.tzif.Tzif.{Tzif}
use Rattle.rp_columns.specs.Zones.{offsets_at, offsets_by}

pub local_seconds : (date : Date) (time : Time) (day : ℤ) (second : ℕ) → epoch_day date ≡ day → time_seconds time ≡ second → civil_seconds (record { date = date; time = time }) ≡ day *ℤ pos 86400 +ℤ pos second
unfolding civil_seconds
local_seconds date time day second d t = rw (d, t) refl

-- where the second has no fraction
pub local_nanoseconds : (date : Date) (time : Time) → time.subsec_nanosecond ≡ 0 → civil_nanos (record { date = date; time = time }) ≡ nanos_of_seconds (civil_seconds (record { date = date; time = time }))
unfolding civil_nanos civil_seconds
local_nanoseconds date time none = omega (arith, signed_arith)

-- a rule's offsets of a moment are those of the date with the time that it is
by_rule : (dt : DateTime) (n : ℤ) → civil_nanos dt ≡ n → (rule : Rule) → Posix.ambiguous_at rule dt ≡ offsets_by rule n
by_rule dt n is rule = each rule.dst
  where
    each : (dst : Option Dst) → Posix.ambiguous_at_by rule.std_offset dst dt
        ≡ match_some dst (Unambiguous rule.std_offset) (λ d. ambiguous_by rule.std_offset d.offset (rule_nanos (year_of_nanos n) d.rule.start (pos 0), rule_nanos (year_of_nanos n) d.rule.end (pos 0)) n)
    each None = refl
    each (Some d) =
        ap (λ year. ambiguous_by rule.std_offset d.offset (rule_nanos year d.rule.start (pos 0), rule_nanos year d.rule.end (pos 0)) (civil_nanos dt)) (year_of_nanos-civil dt n is)
        ∙ ap (λ m. ambiguous_by rule.std_offset d.offset (rule_nanos (year_of_nanos n) d.rule.start (pos 0), rule_nanos (year_of_nanos n) d.rule.end (pos 0)) m) is

-- and so are those of a table and a rule behind its end
pub local_offsets : (table : Tzif) (dt : DateTime) (second : ℤ) → civil_seconds dt ≡ second → civil_nanos dt ≡ nanos_of_seconds second → ambiguous_at table dt ≡ offsets_at table second
local_offsets table dt second is nanos =
    rw is (ap (λ rest. if is_inside table (civil_count_at table second) second then offsets_in (transition_at table (civil_count_at table second - 1)) else rest) (behind (rule_after table (civil_count_at table second))))
  where
    behind : (rule : Option Rule) → match_some rule (Unambiguous (type_after table (civil_count_at table second)).offset) (λ tz. Posix.ambiguous_at tz dt)
        ≡ match_some rule (Unambiguous (type_after table (civil_count_at table second)).offset) (λ r. offsets_by r (nanos_of_seconds second))
    behind None = refl
    behind (Some rule) = by_rule dt (nanos_of_seconds second) nanos rule
