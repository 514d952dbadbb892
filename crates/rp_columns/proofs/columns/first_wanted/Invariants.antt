use Rattle.std.proofs.Common.{◌≡◌, drop}
use Rattle.rp_columns.specs.Loaded.{wanted_in}
use Rattle.rp_columns.proofs.columns.first_wanted.Given as goal

abbrev pub invariant-loop-column : goal.invariant-loop-column
invariant-loop-column l = wanted_in l.columns ≡ wanted_in (drop l.column-index l.columns)
