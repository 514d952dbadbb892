use Rattle.std.proofs.Common.{◌≡◌, ◌++◌, length}
use Rattle.rp_columns.specs.Formats.{letters}
use Rattle.rp_columns.proofs.formats.letters.Given as goal

abbrev pub decreases-letters : goal.decreases-letters
decreases-letters l = length l.rest

abbrev pub invariant-letters : goal.invariant-letters
invariant-letters l = letters l.format ≡ l.letters.items ++ letters l.rest
