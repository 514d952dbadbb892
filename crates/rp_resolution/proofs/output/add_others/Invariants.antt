use Rattle.std.proofs.Common.{◌≡◌, ◌+◌, ◌++◌, map, drop}
use Rattle.rp_resolution.specs.Output.{other_columns}
use Rattle.rp_resolution.proofs.output.add_others.Given as goal

abbrev pub invariant-loop-i : goal.invariant-loop-i
invariant-loop-i l =
    l.output.items ++ other_columns (map (λ n. n.text) l.partition) (map (λ n. n.text) (map (λ o. o.name) l.order)) (l.i + 1) (drop l.i l.columns)
    ≡ l.fn.output.items ++ other_columns (map (λ n. n.text) l.partition) (map (λ n. n.text) (map (λ o. o.name) l.order)) 1 l.columns
