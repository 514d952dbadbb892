use Rattle.std.proofs.Common.{[], ap, ◌∙◌}
use Rattle.rp_pattern.specs.Continuations.{pushed}
use Rattle.rp_pattern.proofs.LinkedChoices.{later_put}
use Rattle.rp_pattern.proofs.linked.Linked.ahead.Goals as goal

pub returns : goal.returns
returns c =
    let r = c.in_ok-continuation.continuation in
    later_put c.args.self.now.stack [] c.push.new.stack c.in-Some.choice.now c.args.row 0 r c.in-Some.ensures c.in_ok-continuation.ensures
    (c.in_ok-push.ensures ∙ ap (pushed 0 r) c.new-stack.ensures)
