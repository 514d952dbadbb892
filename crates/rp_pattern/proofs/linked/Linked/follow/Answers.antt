use Rattle.rp_pattern.proofs.LinkedChoices.{later_pushed}
use Rattle.rp_pattern.proofs.linked.Linked.follow.Goals as goal

pub returns-clause-put : goal.returns-clause-put
returns-clause-put c =
    let old = c.args.self.now in
    later_pushed old.stack c.pop.new.self c.push.new.stack c.in-Some.choice c.args.row c.args.depth c.in_ok-continuation.continuation
    c.in-Some.ensures.top c.pop.ensures.rest c.in_ok-continuation.ensures c.push.result c.push.ensures
