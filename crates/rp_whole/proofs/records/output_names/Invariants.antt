use Rattle.std.proofs.Common.{◌≡◌, map, take}
use Rattle.rp_whole.proofs.records.output_names.Given as goal

abbrev pub invariant-loop-column : goal.invariant-loop-column
invariant-loop-column l = l.names.items ≡ map (λ o. o.name) (take l.column-index l.query.output.items)
