use Rattle.std.proofs.Common.{◌≡◌, length}
use Rattle.rp_columns.specs.Fronts.{without_blanks}
use Rattle.rp_columns.proofs.fronts.without_blanks.Given as goal

abbrev pub invariant-blanks : goal.invariant-blanks
invariant-blanks l = without_blanks l.rest ≡ without_blanks l.fn.bytes

abbrev pub decreases-blanks : goal.decreases-blanks
decreases-blanks l = length l.rest
