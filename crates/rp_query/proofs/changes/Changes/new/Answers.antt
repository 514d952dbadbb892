use Rattle.std.proofs.Common.{arith, rules}
use Rattle.rp_query.specs.Changes.{kept_for}
use Rattle.rp_query.proofs.ByVariable.{all_kept}
use Rattle.rp_query.proofs.changes.Changes.new.Goals as goal

pub returns : goal.returns
unfolding kept_for
returns c =
    let lists = c.loop-by_variable.by_variable.items in
    all_kept c.greatest_named-greatest.result c.args.totals.now lists c.in_ok-others.others.items c.greatest_named-greatest.ensures
    (omega (arith, c.loop-by_variable-test.false, c.len.ensures)) c.loop-by_variable.invariant (search rules)
