use Rattle.std.proofs.Common.{◌≡◌, map, take}
use Rattle.rp_query.specs.Keys.{value_at}
use Rattle.rp_query.proofs.key.values_in.Given as goal

abbrev pub invariant-loop-column : goal.invariant-loop-column
invariant-loop-column l = l.values.items ≡ map (λ c. value_at c l.row) (take l.column-index l.columns)
