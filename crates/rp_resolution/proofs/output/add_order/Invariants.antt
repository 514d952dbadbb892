use Rattle.std.proofs.Common.{◌≡◌, ◌++◌, map, take}
use Rattle.rp_resolution.specs.Output.{key_columns}
use Rattle.rp_resolution.proofs.output.add_order.Given as goal

abbrev pub invariant-loop-ordered : goal.invariant-loop-ordered
invariant-loop-ordered l = l.output.items ≡ l.fn.output.items ++ key_columns l.columns (map (λ n. n.text) (map (λ o. o.name) (take l.ordered-index l.order)))
