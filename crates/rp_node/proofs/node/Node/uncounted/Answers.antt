use Rattle.std.proofs.Common.{rules}
use Rattle.rp_node.proofs.node.Node.uncounted.Goals as goal

pub returns : goal.returns
returns g c =
    let polled = c.poll.ensures in
    record {
      query = polled.query;
      polls = polled.polls;
      lowers = polled.lowers;
      bounded = polled.bounded;
      held = polled.held;
      paused = polled.paused;
      enters = search rules;
      nothing = search rules;
    }
