use Rattle.std.proofs.Common.{◌≡◌, ◌++◌, length}
use Rattle.rp_columns.specs.Formats.{as_minutes}
use Rattle.rp_columns.proofs.formats.as_minutes.Given as goal

abbrev pub decreases-bytes : goal.decreases-bytes
decreases-bytes l = length l.rest

abbrev pub invariant-bytes : goal.invariant-bytes
invariant-bytes l = as_minutes l.format ≡ l.minutes.items ++ as_minutes l.rest
