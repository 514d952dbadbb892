use Rattle.rp_pattern.proofs.LinkedChoices.{first_put}
use Rattle.rp_pattern.proofs.linked.Linked.begin.Goals as goal

pub returns-clause-put : goal.returns-clause-put
returns-clause-put c =
    let old = c.args.self.now in
    first_put old.origin old.stack c.push.new.stack c.args.start c.in_ok-first.first c.requires c.in_ok-first.ensures c.push.result c.push.ensures
