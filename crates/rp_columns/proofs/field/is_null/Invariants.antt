use Rattle.std.proofs.Common.{◌≡◌, drop}
use Rattle.rp_columns.specs.Readings.{is_null}
use Rattle.rp_columns.proofs.field.is_null.Given as goal

abbrev pub invariant-loop-word : goal.invariant-loop-word
invariant-loop-word l = is_null l.nulls l.field ≡ is_null (drop l.word-index l.nulls) l.field
