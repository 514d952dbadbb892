use Rattle.std.proofs.Common.{◌≡◌, drop}
use Rattle.std.specs.List.{list_all}
use Rattle.rp_columns.specs.Formats.{is_directive}
use Rattle.rp_columns.proofs.formats.are_directives.Given as goal

abbrev pub invariant-loop-letter : goal.invariant-loop-letter
invariant-loop-letter l = list_all is_directive l.letters ≡ list_all is_directive (drop l.letter-index l.letters)
