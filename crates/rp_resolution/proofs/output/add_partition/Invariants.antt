use Rattle.std.proofs.Common.{◌≡◌, ◌++◌, map, take}
use Rattle.rp_resolution.specs.Output.{key_columns}
use Rattle.rp_resolution.proofs.output.add_partition.Given as goal

abbrev pub invariant-loop-name : goal.invariant-loop-name
invariant-loop-name l = l.output.items ≡ l.fn.output.items ++ key_columns l.columns (map (λ n. n.text) (take l.name-index l.names))
