-- Local times of time zones: those of the IANA Time Zone Database (RFC 6557), whose files have a table (RFC 9636) and behind its end a rule
-- (POSIX.1-2017, 8.3, TZ), both as jiff has them.
use Rattle.std.specs.Prelude.{◌≡◌, ◌≢◌, ◌-◌, ◌==◌, ◌+ℤ◌, ◌*ℤ◌, ℕ, ℤ, pos, List, Option, Some, None, Result, Ok, Err, if◌then◌else◌}
use Rattle.std.specs.Cmp.Lexicographic.{pointwise}
use Rattle.jiff_core.specs.Timestamp.{nanos_of_seconds}
use Rattle.jiff_core.specs.declared.error.Error.{Error}
use Rattle.jiff_core.specs.declared.error.Error.TheVariants.{OutOfMemory}
use Rattle.jiff_tz.specs.PosixRule.{ambiguous_by, match_some, rule_nanos}
use Rattle.jiff_tz.specs.Tzif.{IsParseFailure, RuleAgrees, civil_count_at, is_inside, offsets_in, rule_after, transition_at, type_after, tzif_view}
use Rattle.jiff_tz.specs.TzifReader.{read_tzif}
use Rattle.jiff_tz.specs.Year.{year_of_nanos}
use Rattle.jiff_tz.specs.declared.ambiguous.AmbiguousOffset.{AmbiguousOffset}
use Rattle.jiff_tz.specs.declared.ambiguous.AmbiguousOffset.TheVariants.{Unambiguous, Gap, Fold}
use Rattle.jiff_tz.specs.declared.posix.TimeZone.{TimeZone as Rule}
use Rattle.jiff_tz.specs.declared.tzif.Tzif.{Tzif}
use Rattle.rp_columns.specs.declared.fault.ReadingFault.{ReadingFault}
use Rattle.rp_columns.specs.declared.fault.ReadingFault.TheVariants as fault
use Rattle.rp_columns.specs.declared.zone.Region.{Region}
use Rattle.rp_columns.specs.declared.zone.Zone.{Zone}
use Rattle.rp_columns.specs.declared.zone.Zone.TheVariants as zone

-- the offsets of a moment on clocks that go by a rule, in nanoseconds since 1970-01-01 00:00 on them
abbrev pub offsets_by : Rule → ℤ → AmbiguousOffset
offsets_by rule n = match_some rule.dst (Unambiguous rule.std_offset)
    (λ d. ambiguous_by rule.std_offset d.offset (rule_nanos (year_of_nanos n) d.rule.start (pos 0), rule_nanos (year_of_nanos n) d.rule.end (pos 0)) n)

-- the offsets of a second on the clocks of a region: by its table, and behind the table's end by its rule
abbrev pub offsets_at : Tzif → ℤ → AmbiguousOffset
offsets_at table second =
    if is_inside table (civil_count_at table second) second
    then offsets_in (transition_at table (civil_count_at table second - 1))
    else match_some (rule_after table (civil_count_at table second)) (Unambiguous (type_after table (civil_count_at table second)).offset)
    (λ rule. offsets_by rule (nanos_of_seconds second))

-- the offset where clocks show a second once; they skip it in a gap, and show it twice in a fold
abbrev pub only : AmbiguousOffset → Result ℤ ReadingFault
only (Unambiguous offset) = Ok offset.seconds
only (Gap before after) = Err fault.Gap
only (Fold before after) = Err fault.Fold

-- the seconds by which the clocks of a region are ahead of UTC at a second that they show
abbrev pub ahead_by : Tzif → ℤ → Result ℤ ReadingFault
ahead_by table second = only (offsets_at table second)

-- the same of a zone; a region whose rules aren't loaded has no offset
abbrev pub ahead_of : Zone → ℤ → Result ℤ ReadingFault
ahead_of (zone.Fixed seconds) second = Ok seconds
ahead_of (zone.Region region) second = match_some region.rules (Err fault.NoOffset) (λ table. ahead_by table second)

-- the seconds by which a local time is ahead of UTC: what is written goes before what the zone says
abbrev pub ahead_in : Option ℤ → Option Zone → ℤ → ℕ → Result ℤ ReadingFault
ahead_in (Some written) _ day second = Ok written
ahead_in None (Some z) day second = ahead_of z (day *ℤ pos 86400 +ℤ pos second)
ahead_in None None day second = Err fault.NoOffset

-- the bytes of a TZif file have this table, whose rule agrees with it
pub record AreRulesOf (bytes : List ℕ) (table : Tzif) : Type 0 where
  pub read : read_tzif bytes ≡ Ok (tzif_view table)
  pub agrees : RuleAgrees table

-- the bytes are refused, and memory didn't run out
pub record AreNoRules (bytes : List ℕ) : Type 0 where
  pub why : Error
  pub is : IsParseFailure why bytes
  pub memory : why ≢ OutOfMemory

-- the zone with these rules, where it is the region of this name
abbrev pub region_with : List ℕ → Tzif → Region → Region
region_with name table r = if pointwise ◌==◌ r.name name then record { name = r.name; rules = Some table } else r

abbrev pub zone_with : List ℕ → Tzif → Zone → Zone
zone_with name table (zone.Fixed seconds) = zone.Fixed seconds
zone_with name table (zone.Region region) = zone.Region (region_with name table region)
