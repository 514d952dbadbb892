-- Columns whose time zones have their rules.
use Rattle.std.specs.Prelude.{◌≡◌, ℕ, List, [], ◌∷◌, map, Option, Some, None, option_map}
use Rattle.jiff_tz.specs.declared.tzif.Tzif.{Tzif}
use Rattle.rp_columns.specs.Zones.{AreRulesOf, zone_with}
use Rattle.rp_columns.specs.declared.columns.InputColumn.{InputColumn}
use Rattle.rp_columns.specs.declared.reading.Reading.{Reading}
use Rattle.rp_columns.specs.declared.reading.Reading.TheVariants as reading
use Rattle.rp_columns.specs.declared.zone.Zone.{Zone}
use Rattle.rp_columns.specs.declared.zone.Zone.TheVariants as zone

-- the zone of fields without an offset
abbrev pub zone_of : Reading → Option Zone
zone_of (reading.Instant unit zone) = zone
zone_of (reading.Formatted unit format zone) = zone
zone_of _ = None

-- the reading with these rules for its zone, where that is the region of this name
abbrev pub reading_with : List ℕ → Tzif → Reading → Reading
reading_with name table (reading.Instant unit zone) = reading.Instant unit (option_map (zone_with name table) zone)
reading_with name table (reading.Formatted unit format zone) = reading.Formatted unit format (option_map (zone_with name table) zone)
reading_with name table r = r

abbrev pub column_with : List ℕ → Tzif → InputColumn → InputColumn
column_with name table c = record { name = c.name; reading = reading_with name table c.reading; source = c.source }

-- each reading that names this region has the rules of this TZif file, and all else is as it was
pub record AreLoaded (before : List InputColumn) (name bytes : List ℕ) (after : List InputColumn) : Type 0 where
  pub table : Tzif
  pub rules : AreRulesOf bytes table
  pub are : after ≡ map (column_with name table) before

-- the name of a region whose rules aren't loaded
abbrev pub wanted_by : List ℕ → Option Tzif → Option (List ℕ)
wanted_by name None = Some name
wanted_by name (Some table) = None

abbrev pub wanted_of : Option Zone → Option (List ℕ)
wanted_of (Some (zone.Region region)) = wanted_by region.name region.rules
wanted_of _ = None

-- the first of two, where there is one
abbrev pub first_of : Option (List ℕ) → Option (List ℕ) → Option (List ℕ)
first_of (Some name) others = Some name
first_of None others = others

-- the first region that columns name whose rules aren't loaded
abbrev pub wanted_in : List InputColumn → Option (List ℕ)
wanted_in [] = None
wanted_in (c ∷ cs) = first_of (wanted_of (zone_of c.reading)) (wanted_in cs)
