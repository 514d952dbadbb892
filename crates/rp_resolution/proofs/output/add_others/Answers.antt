use Rattle.std.proofs.Common.{◌∙◌, ◌+◌, ◌++◌, map, drop, ap, sym, append_assoc}
use Rattle.rp_resolution.specs.Output.{other_column, other_columns}
use Rattle.rp_resolution.proofs.Each.{next_of}
use Rattle.rp_resolution.proofs.output.add_others.Goals as goal

pub loop-i-preserved : goal.loop-i-preserved
loop-i-preserved c =
    let xs = c.args.columns.now in
    let i = c.loop-i.i in
    let x = c.index-columns-i.result in
    let partition = map (λ n. n.text) c.args.partition.now in
    let order = map (λ n. n.text) (map (λ o. o.name) c.args.order.now) in
    let old = c.loop-i.output.items in
    let rest = other_columns partition order (i + 1 + 1) (drop (i + 1) xs) in
    ap (λ z. z ++ rest) c.in_ok-add_other.ensures ∙ (append_assoc old (other_column partition order (i + 1) x) rest
    ∙ (ap (λ z. old ++ other_columns partition order (i + 1) z) (sym (next_of xs i x c.loop-i-test.true c.index-columns-i.is)) ∙ c.loop-i.invariant))
